-- A signed number whose 32 bits are not 0 is not 0.
use mathlib.Core.Path.{◌≡◌, refl, ap}
use mathlib.Core.Bool.{false}
use Prim.Native.Nat.{ℕ}
use borrow.Author.Tests.{ne_eqb}
use mir.Syntax.{w32}
use mir.Val.{of_z}
use lib.IntN.{ℤ, pos, negsuc}
use Rattle.shutoff.specs.Shut.{is_zero}

pub not_zero : (x : ℤ) → (of_z w32 x ≡ 0 → ⊥) → is_zero x ≡ false
not_zero (pos n) h = ne_eqb n 0 (λ q. h (ap (λ (k : ℕ). of_z w32 (pos k)) q))
not_zero (negsuc n) h = refl
