-- Tests on a signed number as the machine makes them, on its 32 bits.
use mathlib.Core.Path.{◌≡◌, refl, sym, ◌∙◌, ap}
use mathlib.Core.Bool.{Bool, false}
use Prim.Native.Nat.{ℕ}
use borrow.Author.Tests.{ne_eqb}
use mir.Syntax.{w32}
use mir.Val.{of_z, to_z}
use lib.IntN.{ℤ, pos, negsuc}
use lib.Signed.{lt_z}
use Rattle.setting.specs.Switches.{is_one, above_zero}
use Rattle.setting.specs.ApHistory.{is_minus_one}

-- a test on x, from what the machine compares x with
pub tested : (t : ℤ → Bool) (x : ℤ) (k : ℕ) → to_z w32 (of_z w32 x) ≡ x → of_z w32 x ≡ k → t x ≡ t (to_z w32 k)
tested t x k f e = ap t (sym f ∙ ap (to_z w32) e)

pub not_one : (x : ℤ) → (of_z w32 x ≡ 1 → ⊥) → is_one x ≡ false
not_one (pos n) h = ne_eqb n 1 (λ q. h (ap (λ (k : ℕ). of_z w32 (pos k)) q))
not_one (negsuc n) h = refl

pub not_minus_one : (x : ℤ) → (of_z w32 x ≡ 4294967295 → ⊥) → is_minus_one x ≡ false
not_minus_one (pos n) h = refl
not_minus_one (negsuc n) h = ne_eqb n 0 (λ q. h (ap (λ (k : ℕ). of_z w32 (negsuc k)) q))

above_is : (x : ℤ) → above_zero x ≡ lt_z (pos 0) x
above_is (pos n) = refl
above_is (negsuc n) = refl

pub above : (x : ℤ) (b : Bool) → to_z w32 (of_z w32 x) ≡ x → lt_z (pos 0) (to_z w32 (of_z w32 x)) ≡ b → above_zero x ≡ b
above x b f e = above_is x ∙ ap (lt_z (pos 0)) (sym f) ∙ e
