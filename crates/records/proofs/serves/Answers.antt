-- `serves` meets its contract.
use mathlib.Core.Bool.{false≢true}
use Rattle.records.proofs.Laws.{serves_law}
use borrow.Author.Rules.{rules}
use Rattle.records.proofs.serves.Goals as goal

pub returns-then-k-doy : goal.returns-then-k-doy
returns-then-k-doy c e = absurd (false≢true e)

pub returns : goal.returns
returns c t =
    serves_law c.args.k c.args.doy c.args.a c.same_need.result c.same_need.ensures (search rules) (search rules) c.if-k-doy.false t
