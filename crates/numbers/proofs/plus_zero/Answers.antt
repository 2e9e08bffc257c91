-- `plus_zero` meets its contract.
use mathlib.Core.Path.{◌≡◌, sym, ◌∙◌, ap}
use mathlib.Core.Bool.{true, not, false≢true}
use borrow.Author.Tests.{eqb-true}
use lib.Dec.{eqb}
use lib.Ieee.{Float, binary64, eq, of_bits, to_bits}
use lib.Ieee.Bits.{of_bits-to_bits}
use Rattle.numbers.specs.Literals.{0·0}
use Rattle.numbers.specs.Tests.{ordered}
use borrow.Author.Rules.{rules}
use Rattle.numbers.proofs.plus_zero.Goals as goal

zero_equal : (x : Float) → x ≡ 0·0 → not (eq x x) ≡ true → ⊥
unfolding eq of_bits
zero_equal x e h = false≢true (ap (λ (y : Float). not (eq y y)) (sym e) ∙ h)

zero_bits : (x : Float) → x ≡ 0·0 → eqb (to_bits binary64 x) 0 ≡ true
unfolding of_bits to_bits
zero_bits x e = ap (λ (y : Float). eqb (to_bits binary64 y) 0) e

pub returns-then-not-x : goal.returns-then-not-x
returns-then-not-x c = (λ e. absurd (false≢true e), λ e. absurd (zero_equal _ e c.if-not-x.true-raw))

pub float_to_bits-result : goal.float_to_bits-result
float_to_bits-result c = ordered _ c.if-not-x.false-raw

pub returns : goal.returns
returns c = (λ e. sym (of_bits-to_bits binary64 _ (search rules)) ∙ ap (of_bits binary64) (eqb-true _ 0 e), zero_bits _)
