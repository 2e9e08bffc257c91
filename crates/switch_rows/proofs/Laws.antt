-- Two numbers compared by their 32 bits, and one more entry of two rows.
use Prim.Native.Nat.{ℕ, suc, ◌+◌, ◌-◌, ◌<◌}
use mathlib.Core.Path.{◌≡◌, refl, sym, ap, ◌∙◌}
use mathlib.Core.Bool.{Bool, true, false}
use mathlib.Core.List.{List}
use native.Mathlib.Omega.{arith}
use lib.IntN.{ℤ}
use mir.Syntax.{w32}
use mir.Val.{of_z, to_z}
use Rattle.switch_rows.specs.Rows.{same_number, same_at, same_from, same_expansions}
use Rattle.switch_rows.specs.Same.{is_same, same_itself}

pub equal : (x y : ℤ) → to_z w32 (of_z w32 x) ≡ x → to_z w32 (of_z w32 y) ≡ y → of_z w32 x ≡ of_z w32 y → same_number x y ≡ true
equal x y f g e =
    let s : x ≡ y = sym f ∙ ap (to_z w32) e ∙ g in
    ap (λ (z : ℤ). same_number z y) s ∙ same_itself y

decided : (b : Bool) → (b ≡ true → ⊥) → b ≡ false
decided true h = absurd (h refl)
decided false h = refl

pub unequal : (x y : ℤ) → (of_z w32 x ≡ of_z w32 y → ⊥) → same_number x y ≡ false
unequal x y h = decided (same_number x y) (λ e. h (ap (of_z w32) (is_same x y e)))

module _ (a b : List ℤ) (i : ℕ) (below : i < 15) where
  left : 15 - i ≡ suc (15 - (i + 1))
  left = omega (arith, below)

  pub one_more : same_at a b i ≡ true → same_from (15 - i) a b i ≡ same_expansions a b → same_from (15 - (i + 1)) a b (i + 1) ≡ same_expansions a b
  unfolding same_from
  one_more e h = rw (left, e) at h

  pub not_one : same_at a b i ≡ false → same_from (15 - i) a b i ≡ same_expansions a b → false ≡ same_expansions a b
  unfolding same_from
  not_one e h = rw (left, e) at h
