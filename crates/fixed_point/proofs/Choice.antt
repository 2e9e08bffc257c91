-- One of two numbers by a third. Assumes nothing.
use mathlib.Core.Path.{◌≡◌, refl, sym, ap}
use mathlib.Core.Bool.{Bool, true, false, cond}
use Prim.Native.Nat.{ℕ, ◌+◌, ◌-◌, ◌≤◌}
use native.Mathlib.Omega.{arith}
use lib.Dec.{ltb}
use borrow.Author.Tests.{eq-eqb, ne_eqb, ltb-true, ltb-false}
use Rattle.fixed_point.specs.Fixed.{choose_of, apart_of}

pub choose_zero : (h x y : ℕ) → h ≡ 0 → x ≡ choose_of h x y
choose_zero h x y e = sym (ap (λ (b : Bool). cond b x y) (eq-eqb h 0 e))

pub choose_other : (h x y : ℕ) → (h ≡ 0 → ⊥) → y ≡ choose_of h x y
choose_other h x y e = sym (ap (λ (b : Bool). cond b x y) (ne_eqb h 0 e))

pub either_le : (b : Bool) {x y B : ℕ} → x ≤ B → y ≤ B → cond b x y ≤ B
either_le true h k = h
either_le false h k = k

pub either_ge : (b : Bool) {x y B : ℕ} → B ≤ x → B ≤ y → B ≤ cond b x y
either_ge true h k = h
either_ge false h k = k

-- the distance of two numbers, one way or the other
pub apart_lem : (p n : ℕ) → (p - n) + (n - p) ≡ apart_of p n
apart_lem p n = go (ltb p n) refl
  where
    go : (b : Bool) → ltb p n ≡ b → (p - n) + (n - p) ≡ cond b (n - p) (p - n)
    go true e = omega (arith, ltb-true p n e)
    go false e = omega (arith, ltb-false p n e)
