-- The day of the year as the machine tests it, on its 32 bits.
use mathlib.Core.Path.{◌≡◌, refl, sym, ◌∙◌, ap}
use mathlib.Core.Bool.{Bool, true, false, ◌&&◌}
use borrow.Author.Tests.{ltb-true, ltb-false, le-leb, lt-leb}
use mir.Syntax.{w32}
use mir.Val.{of_z, to_z}
use lib.IntN.{ℤ, pos, negsuc}
use lib.Signed.{lt_z}
use lib.Dec.{leb}
use Rattle.acceptance.specs.Acceptance.{day_within}

and-false : (b : Bool) → (b && false) ≡ false
and-false true = refl
and-false false = refl

module _ (d : ℤ) (f : to_z w32 (of_z w32 d) ≡ d) where
  below : (z : ℤ) (b : Bool) → lt_z (to_z w32 (of_z w32 d)) z ≡ b → lt_z d z ≡ b
  below z b e = ap (λ (x : ℤ). lt_z x z) (sym f) ∙ e

  above : (z : ℤ) (b : Bool) → lt_z z (to_z w32 (of_z w32 d)) ≡ b → lt_z z d ≡ b
  above z b e = ap (lt_z z) (sym f) ∙ e

early_day : (d : ℤ) → lt_z d (pos 1) ≡ true → day_within d ≡ false
early_day (pos k) e = ap (λ (b : Bool). b && leb k 366) (lt-leb 1 k (ltb-true k 1 e))
early_day (negsuc k) e = refl

late_day : (d : ℤ) → lt_z (pos 366) d ≡ true → day_within d ≡ false
late_day (pos k) e = ap (λ (b : Bool). leb 1 k && b) (lt-leb k 366 (ltb-true 366 k e)) ∙ and-false (leb 1 k)
late_day (negsuc k) e = refl

a_day : (d : ℤ) → lt_z d (pos 1) ≡ false → lt_z (pos 366) d ≡ false → day_within d ≡ true
a_day (pos k) e f =
    ap (λ (b : Bool). b && leb k 366) (le-leb 1 k (ltb-false k 1 e)) ∙ le-leb k 366 (ltb-false 366 k f)
a_day (negsuc k) e f = sym e

-- below 1, above 366, or neither
pub early : (d : ℤ) → to_z w32 (of_z w32 d) ≡ d → lt_z (to_z w32 (of_z w32 d)) (pos 1) ≡ true → false ≡ day_within d
early d f e = sym (early_day d (below d f (pos 1) true e))

pub late : (d : ℤ) → to_z w32 (of_z w32 d) ≡ d → lt_z (pos 366) (to_z w32 (of_z w32 d)) ≡ true → false ≡ day_within d
late d f e = sym (late_day d (above d f (pos 366) true e))

pub inside : (d : ℤ) → to_z w32 (of_z w32 d) ≡ d → lt_z (to_z w32 (of_z w32 d)) (pos 1) ≡ false
    → lt_z (pos 366) (to_z w32 (of_z w32 d)) ≡ false → true ≡ day_within d
inside d f e g = sym (a_day d (below d f (pos 1) false e) (above d f (pos 366) false g))
