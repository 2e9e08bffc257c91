-- The reduction of exp's argument: n times log 2 is taken off m, or m off n times log 2. Assumes nothing.
use mathlib.Core.Path.{◌≡◌, refl, sym, subst}
use Prim.Native.Nat.{ℕ, zero, suc, ◌+◌, ◌*◌, ◌/◌, ◌^◌, ◌≤◌, ◌<◌}
use native.Mathlib.Omega.{arith}
use native.Mathlib.Nat.{add-zero, not-suc-le-zero, le_of_suc-le-suc}
use Rattle.natural_exponential.specs.Exp.{times_of, gap_of, exp_rest}
use Rattle.fixed_point.specs.Fixed.{choose_of}

-- a is m / 2 ^ 32, and n is a * 3098164009 / 2 ^ 52
under : (m a n : ℕ) → 4294967296 * a ≤ m → 4503599627370496 * n ≤ 3098164009 * a → 6243314768165359 * n ≤ m
under m a n h k = omega arith

over : (m a n : ℕ) → a < 2147483648 → m < 4294967296 * a + 4294967296 → 3098164009 * a < 4503599627370496 * n + 4503599627370496 → m ≤ 6243314768165359 * n + 6243314768165359 + 12884901888
over m a n s h k = omega arith

quotients : (m : ℕ) → (4294967296 * (m / 2 ^ 32) ≤ m) × (m < 4294967296 * (m / 2 ^ 32) + 4294967296)
quotients m = (omega arith, omega arith)

times : (p : ℕ) → (4503599627370496 * (p / 2 ^ 52) ≤ p) × (p < 4503599627370496 * (p / 2 ^ 52) + 4503599627370496)
times p = (omega arith, omega arith)

module _ (m : ℕ) where
  pub times_le : times_of m * 6243314768165359 ≤ m
  times_le = omega (arith, under m (m / 2 ^ 32) (times_of m) (quotients m).0 (omega (arith, (times (m / 2 ^ 32 * 3098164009)).0)))

  pub times_ge : m ≤ 745 * 2 ^ 53 → m ≤ times_of m * 6243314768165359 + 6243314768165359 + 12884901888
  times_ge h = omega (arith, over m (m / 2 ^ 32) (times_of m) (omega arith) (quotients m).1 (omega (arith, (times (m / 2 ^ 32 * 3098164009)).1)))

  pub times_few : m ≤ 709 * 2 ^ 53 → times_of m ≤ 1022
  times_few h = omega arith

  pub times_many : m ≤ 745 * 2 ^ 53 → times_of m ≤ 1074
  times_many h = omega arith

-- ---- what is left, and that no step of it goes below 0 or beyond 2 ^ 64

positive : (n : ℕ) → suc n ≡ 0 → ⊥
positive n e = omega arith

pub record Reduced (s m n : ℕ) : Type 0 where
  pub few : n ≤ 1075
  pub fewer : s ≡ 0 → n ≤ 1022
  pub some : choose_of s (n * 6243314768165359) m ≤ 2 ^ 53 + choose_of s m (n * 6243314768165359)
  pub small : gap_of s m n * 32 + n * 6 < 2 ^ 64
  pub more : s ≡ 0 → n * 6 ≤ gap_of s m n * 32
  pub inside : exp_rest s m n ≤ 2 ^ 59

module _ (m n : ℕ) (f : n ≤ 1022) (h : n * 6243314768165359 ≤ m) (k : m ≤ n * 6243314768165359 + 6243314768165359 + 12884901888) where
  upwards : Reduced 0 m n
  upwards = record { few = omega arith; fewer = λ z. f; some = omega arith; small = omega arith; more = λ z. omega arith; inside = omega arith }

module _ (m n : ℕ) (f : n ≤ 1074) (h : n * 6243314768165359 ≤ m) (k : m ≤ n * 6243314768165359 + 6243314768165359 + 12884901888) where
  downwards : Reduced 1 m (n + 1)
  downwards = record { few = omega arith; fewer = λ z. absurd (positive 0 z); some = omega arith; small = omega arith; more = λ z. absurd (positive 0 z); inside = omega arith }

pub risen : (m : ℕ) → m ≤ 709 * 2 ^ 53 → Reduced 0 m (times_of m)
risen m h = upwards m (times_of m) (times_few m h) (times_le m) (times_ge m (omega arith))

pub fallen : (m : ℕ) → m ≤ 745 * 2 ^ 53 → Reduced 1 m (times_of m + 1)
fallen m h = downwards m (times_of m) (times_many m h) (times_le m) (times_ge m h)

pub reduced : (s m : ℕ) → s ≤ 1 → m ≤ 745 * 2 ^ 53 → (s ≡ 0 → m ≤ 709 * 2 ^ 53) → Reduced s m (times_of m + s)
reduced zero m l h k = subst (λ (n : ℕ). Reduced 0 m n) (sym (add-zero (times_of m))) (risen m (k refl))
reduced (suc zero) m l h k = fallen m h
reduced (suc (suc s)) m l h k = absurd (not-suc-le-zero (le_of_suc-le-suc l))
