-- `footing_in` meets its contract.
use mathlib.Core.Path.{sym, ◌∙◌}
use mathlib.Core.Bool.{false≢true}
use borrow.Author.Rules.{rules}
use Rattle.stored.proofs.Laws.{unasked, asked}
use Rattle.stored.proofs.footing_in.Goals as goal

pub returns-then-not-on : goal.returns-then-not-on
returns-then-not-on c = unasked c.args.on _ _ c.if-not-on.true-raw

pub put_footing-requires : goal.put_footing-requires
put_footing-requires c = (search rules, λ e. absurd (false≢true (sym c.unknown-q.ensures ∙ e)))

pub returns : goal.returns
returns c =
    asked c.args.on _ _ _ c.if-not-on.false-raw c.put_footing.ensures
