-- What tests of a float against constants say of its size, and back. Assumes nothing.
use mathlib.Core.Path.{◌≡◌, refl, sym, subst}
use mathlib.Core.Logic.{◌⊎◌, inl, inr}
use mathlib.Core.Bool.{Bool, true, false, not, ◌&&◌, ◌||◌}
use Prim.Native.Nat.{ℕ, ◌+◌, ◌*◌, ◌^◌, ◌≤◌, ◌<◌}
use native.Mathlib.Omega.{arith}
use native.Mathlib.Nat.{le_of_eq, le_of_lt, not-suc-le-zero, eq-or-lt_of_le, le_trans, div-le_of_le-mul, mul-le-mul_right}
use borrow.Author.Tests.{ltb-true, ltb-false, lt-ltb, le-ltb, eq-eqb, ne_eqb}
use lib.Dec.{T, eqb, ltb}
use lib.IntN.{ℤ, pos}
use lib.Ieee.{Float, nan, inf, fin, up, down, ne, lt, le, eq, is_nan}
use lib.Ieee.Scale.{finite}
use Rattle.fixed_point.specs.Float.{Within, minus_sign}
use Rattle.fixed_point.specs.Fixed.{scaled_of}
use Rattle.fixed_point.specs.Float.{nought}

-- true is not false
pub clash : {X : Type 0} → true ≡ false → X
clash {X} e = absurd (subst T e tt)

pub is_nan_lem : (x : Float) → ne x x ≡ false → is_nan x ≡ false
unfolding ne is_nan
is_nan_lem nan e = e
is_nan_lem (inf s) e = refl
is_nan_lem (fin s m e) h = refl

-- what passes a test is no NaN
pub passes_left : (x y : Float) → lt x y ≡ true → is_nan x ≡ false
unfolding lt is_nan
passes_left nan y h = clash (sym h)
passes_left (inf s) y h = refl
passes_left (fin s m e) y h = refl

pub passes_right : (x y : Float) → lt x y ≡ true → is_nan y ≡ false
unfolding lt is_nan
passes_right nan nan h = clash (sym h)
passes_right (inf s) nan h = clash (sym h)
passes_right (fin s m e) nan h = clash (sym h)
passes_right x (inf s) h = refl
passes_right x (fin s m e) h = refl

-- ---- `at most` is `not above`, among numbers

-- by sizes, with any test t of whether they are the same
by_size : (a b : ℕ) (t : Bool) → (a ≡ b → t ≡ true) → ((a ≡ b → ⊥) → t ≡ false) → (ltb a b || (t && true)) ≡ not (ltb b a)
by_size a b t same other = go (ltb b a) refl
  where
    differ : (a b : ℕ) → b < a → a ≡ b → ⊥
    differ a b h e = omega arith

    level_le : (a b : ℕ) → a ≡ b → b ≤ a
    level_le a b e = omega arith

    either : (a ≡ b) ⊎ (a < b) → (ltb a b || (t && true)) ≡ true
    either (inl e) = simp (le-ltb a b (level_le a b e), same e)
    either (inr l) = simp (lt-ltb a b l)

    go : (c : Bool) → ltb b a ≡ c → (ltb a b || (t && true)) ≡ not c
    go true h = simp (le-ltb a b (le_of_lt (ltb-true b a h)), other (differ a b (ltb-true b a h)))
    go false h = either (eq-or-lt_of_le (ltb-false b a h))

-- a number below 0, or a zero, is at most one above 0, or a zero
by_sign : (a b : ℕ) → (ltb 0 (a + b) || (eqb a b && eqb a 0)) ≡ true
by_sign a b = go (ltb 0 (a + b)) refl
  where
    zeros : (a b : ℕ) → a + b ≤ 0 → (a ≡ b) × (a ≡ 0)
    zeros a b h = (omega arith, omega arith)

    go : (c : Bool) → ltb 0 (a + b) ≡ c → (c || (eqb a b && eqb a 0)) ≡ true
    go true h = refl
    go false h = let z = zeros a b (ltb-false 0 (a + b) h) in simp (eq-eqb a b z.0, eq-eqb a 0 z.1)

pub at_most : (a i : ℕ) (x : Float) → is_nan x ≡ false → le x (fin false a (pos i)) ≡ not (lt (fin false a (pos i)) x)
unfolding le lt eq is_nan
at_most a i nan n = clash n
at_most a i (inf true) n = refl
at_most a i (inf false) n = refl
at_most a i (fin true m e) n = by_sign (m * up e * 1) (a * 2 ^ i * down e)
at_most a i (fin false m e) n =
    let p = m * up e * 1 in
    let q = a * 2 ^ i * down e in
    by_size p q (eqb p q) (eq-eqb p q) (ne_eqb p q)

pub at_least : (b j : ℕ) (x : Float) → is_nan x ≡ false → le (fin true b (pos j)) x ≡ not (lt x (fin true b (pos j)))
unfolding le lt eq is_nan
at_least b j nan n = clash n
at_least b j (inf true) n = refl
at_least b j (inf false) n = refl
at_least b j (fin false m e) n = by_sign (b * 2 ^ j * down e) (m * up e * 1)
at_least b j (fin true m e) n =
    let p = m * up e * 1 in
    let q = b * 2 ^ j * down e in
    by_size p q (eqb q p) (λ h. eq-eqb q p (sym h)) (λ h. ne_eqb q p (λ g. h (sym g)))

-- what passes such a test is no NaN
pub at_least_no_nan : (b j : ℕ) (x : Float) → le (fin true b (pos j)) x ≡ true → is_nan x ≡ false
unfolding le lt eq is_nan
at_least_no_nan b j nan h = clash (sym h)
at_least_no_nan b j (inf s) h = refl
at_least_no_nan b j (fin s m e) h = refl

widen : (p d a Q : ℕ) → p ≤ a * d → a ≤ Q → p ≤ Q * d
widen p d a Q h k = le_trans h (mul-le-mul_right d k)

plain : (p a b d : ℕ) → p * 1 ≤ a * b * d → p ≤ a * b * d
plain p a b d h = omega arith

-- by a test above and a test below
pub between : (a i b j Q : ℕ) (x : Float) → is_nan x ≡ false → lt (fin false a (pos i)) x ≡ false → lt x (fin true b (pos j)) ≡ false → a * 2 ^ i ≤ Q → b * 2 ^ j ≤ Q → Within x Q
unfolding is_nan lt
between a i b j Q nan n h k A B = clash n
between a i b j Q (inf false) n h k A B = clash h
between a i b j Q (inf true) n h k A B = clash k
between a i b j Q (fin false m e) n h k A B = widen (m * up e) (down e) (a * 2 ^ i) Q (plain (m * up e) a (2 ^ i) (down e) (ltb-false (a * 2 ^ i * down e) (m * up e * 1) h)) A
between a i b j Q (fin true m e) n h k A B = widen (m * up e) (down e) (b * 2 ^ j) Q (plain (m * up e) b (2 ^ j) (down e) (ltb-false (b * 2 ^ j * down e) (m * up e * 1) k)) B

-- with a minus sign, the test below is enough, and with a plus sign the test above
pub minus_within : (b j : ℕ) (x : Float) → T (finite x) → (minus_sign x ≡ 0 → ⊥) → lt x (fin true b (pos j)) ≡ false → Within x (b * 2 ^ j)
unfolding lt
minus_within b j nan f n k = absurd f
minus_within b j (inf s) f n k = absurd f
minus_within b j (fin false m e) f n k = absurd (n refl)
minus_within b j (fin true m e) f n k = plain (m * up e) b (2 ^ j) (down e) (ltb-false (b * 2 ^ j * down e) (m * up e * 1) k)

pub plus_within : (a i : ℕ) (x : Float) → T (finite x) → minus_sign x ≡ 0 → lt (fin false a (pos i)) x ≡ false → Within x (a * 2 ^ i)
unfolding lt
plus_within a i nan f n k = absurd f
plus_within a i (inf s) f n k = absurd f
plus_within a i (fin true m e) f n k = absurd (not-suc-le-zero (le_of_eq n))
plus_within a i (fin false m e) f n k = plain (m * up e) a (2 ^ i) (down e) (ltb-false (a * 2 ^ i * down e) (m * up e * 1) k)

pub within_finite : (x : Float) (Q : ℕ) → Within x Q → T (finite x)
within_finite nan Q h = h
within_finite (inf s) Q h = h
within_finite (fin s m e) Q h = tt

pub within_no_nan : (x : Float) (Q : ℕ) → Within x Q → is_nan x ≡ false
unfolding is_nan
within_no_nan nan Q h = absurd h
within_no_nan (inf s) Q h = absurd h
within_no_nan (fin s m e) Q h = refl

swap : (p d Q c : ℕ) → p * c ≤ Q * d * c → p * c ≤ d * (Q * c)
swap p d Q c h = omega arith

pub within_scaled : (k Q : ℕ) (x : Float) → Within x Q → scaled_of k x ≤ Q * 2 ^ k
within_scaled k Q nan h = absurd h
within_scaled k Q (inf s) h = absurd h
within_scaled k Q (fin s m e) h = div-le_of_le-mul (down e) (swap (m * up e) (down e) Q (2 ^ k) (mul-le-mul_right (2 ^ k) h))

-- ---- and back: which tests a number within Q leaves unmet

module _ (s : Bool) (m : ℕ) (e : ℤ) (Q : ℕ) (h : Within (fin s m e) Q) where
  far : (a p d : ℕ) → Q ≤ a → p ≤ Q * d → p * 1 ≤ a * d
  far a p d l g = omega (arith, mul-le-mul_right d l)

  pub not_over : (a i : ℕ) → Q ≤ a * 2 ^ i → lt (fin false a (pos i)) (fin s m e) ≡ false
  unfolding lt
  not_over a i l = elim s as (λ b. Within (fin b m e) Q → lt (fin false a (pos i)) (fin b m e) ≡ false) [
    | false ↦ λ g. le-ltb (a * 2 ^ i * down e) (m * up e * 1) (far (a * 2 ^ i) (m * up e) (down e) l g)
    | true ↦ λ g. refl
  ] h

  pub not_under : (a j : ℕ) → Q ≤ a * 2 ^ j → lt (fin s m e) (fin true a (pos j)) ≡ false
  unfolding lt
  not_under a j l = elim s as (λ b. Within (fin b m e) Q → lt (fin b m e) (fin true a (pos j)) ≡ false) [
    | false ↦ λ g. refl
    | true ↦ λ g. le-ltb (a * 2 ^ j * down e) (m * up e * 1) (far (a * 2 ^ j) (m * up e) (down e) l g)
  ] h

-- a number with no sign is not below 0
pub not_negative : (m : ℕ) (e : ℤ) → lt (fin false m e) nought ≡ false
unfolding lt
not_negative m e = le-ltb (m * up e * 1) (0 * 1 * down e) (nothing (m * up e * 1) (down e))
  where
    nothing : (p d : ℕ) → 0 * 1 * d ≤ p
    nothing p d = omega arith
