-- S5 and S6 of document 01, for every row with that entry.
use Rattle.std.specs.Prelude.{◌≡◌, refl, List, ℤ, pos}
use Rattle.std.proofs.Common.{ap, ◌∙◌}
use Rattle.std.specs.Float.{binary64}
use Rattle.std.specs.Float.Ieee.{of_int, of_bits, round}
use Rattle.numbers.specs.Arithmetic.{◌‼◌}
use Rattle.numbers.specs.Literals.{0·0, 1·0, 2·0}
use Rattle.setting.specs.Switches.{given, is_one, above_zero, on_off, filled, sw_of, swc_of}

-- S5: switch 3 at 2, main effect off and cross effect on
pub s5 : (w : List ℤ) → given w 3 ≡ pos 2 → (sw_of w ‼ 3 ≡ 0·0) × (swc_of w ‼ 3 ≡ 1·0)
unfolding sw_of swc_of filled
s5 w e = (ap (λ (z : ℤ). on_off (is_one z)) e, ap (λ (z : ℤ). on_off (above_zero z)) e)

two_whole : of_int binary64 (pos 2) ≡ 2·0
unfolding of_int of_bits round
two_whole = refl

-- S6: switch 9 at 2, 2 and 2
pub s6 : (w : List ℤ) → given w 9 ≡ pos 2 → (sw_of w ‼ 9 ≡ 2·0) × (swc_of w ‼ 9 ≡ 2·0)
unfolding sw_of swc_of filled
s6 w e = let h = ap (of_int binary64) e ∙ two_whole in (h, h)
