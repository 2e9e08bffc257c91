-- `put_state` meets its contract: the numbers below i are written.
use mathlib.Core.Path.{sym, ◌∙◌}
use native.Mathlib.Nat.{ne_of_lt}
use native.Mathlib.Omega.{arith}
use borrow.Author.Rules.{rules}
use borrow.Author.Count.{below_more, below_none}
use lib.Seq.{get_or-set_same, get_or-set_other, ext_get_or}
use lib.Ieee.{nan}
use Rattle.oracle_state.proofs.Laws.{numbers_length, numbers_at}
use Rattle.oracle_state.proofs.put_state.Goals as goal

pub loop-i-init : goal.loop-i-init
loop-i-init c = below_none _

pub loop-i-preserved : goal.loop-i-preserved
loop-i-preserved c =
    let at = c.loop-i in
    let x = c.number.result in
    below_more _ _ (λ k h. get_or-set_other at.out at.i k x nan (ne_of_lt h) ∙ at.invariant k h)
    (get_or-set_same at.out at.i x nan (search rules) ∙ c.number.ensures)

pub returns : goal.returns
returns c =
    let s = c.args.s in
    let n = numbers_length s in
    ext_get_or nan _ _ (omega (arith, n)) (λ k h. c.loop-i.invariant k (omega arith) ∙ sym (numbers_at s k (omega arith)))
