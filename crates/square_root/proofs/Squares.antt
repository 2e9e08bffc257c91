-- Roots by squares compared. Assumes nothing.
use mathlib.Core.Path.{◌≡◌, refl, sym, ap, ◌∙◌, subst}
use mathlib.Core.Logic.{inl, inr}
use Prim.Native.Nat.{ℕ, zero, suc, ◌+◌, ◌-◌, ◌*◌, ◌/◌, ◌%◌, ◌^◌, ◌<◌, ◌≤◌, zero-le}
use native.Mathlib.Omega.{arith}
use native.Mathlib.Nat.{eq-or-lt_of_le, le-div_iff_mul-le, div-lt_iff_lt-mul, lt_of_le_of_lt, le_trans, mul-le-mul, pow-succ', zero-add, not-suc-le-zero}
use lib.Pow.{pow_pos}
use mathlib.Core.Bool.{Bool, true, false, cond, not, ◌&&◌}
use borrow.Author.Tests.{lt-ltb, le-ltb, ne_eqb, leb-true, leb-false}
use lib.Dec.{eqb, leb, leb→le, lit≤}
use Rattle.fixed_point.proofs.Product.{below_mul}
use lib.Ieee.{binary64, nan_bits}
use Rattle.square_root.specs.Root.{Nearest, root_digits, nearest_of}

-- the largest r that the tests can meet is not too small
pub stays : (a r q : ℕ) → r < 2 ^ 53 → q ≡ (2 * r + 1) * (2 * r + 1) / 2 ^ 54 → q < a → a + 2 ≤ 2 ^ 54 → r + 1 < 2 ^ 53
stays a r q h e k l = elim (eq-or-lt_of_le h) [
  | inl p ↦ let s : r ≡ 9007199254740991 = omega arith in let f : q ≡ 18014398509481982 = e ∙ ap (λ (z : ℕ). (2 * z + 1) * (2 * z + 1) / 2 ^ 54) s in absurd (no a q f k l)
  | inr p ↦ omega arith
]
  where
    no : (a q : ℕ) → q ≡ 18014398509481982 → q < a → a + 2 ≤ 2 ^ 54 → ⊥
    no a q f k l = omega arith

pub reached : (a s q : ℕ) → q ≡ s * s / 2 ^ 54 → a ≤ q → a * 2 ^ 54 ≤ s * s
reached a s q e h = (le-div_iff_mul-le {k = 2 ^ 54} {x = a} {y = s * s} (pow_pos 54)).0 (subst (λ (z : ℕ). a ≤ z) e h)

pub missed : (a s q : ℕ) → q ≡ s * s / 2 ^ 54 → q < a → s * s < a * 2 ^ 54
missed a s q e h = (div-lt_iff_lt-mul {k = 2 ^ 54} {x = s * s} {y = a} (pow_pos 54)).0 (subst (λ (z : ℕ). z < a) e h)

-- a root of 1 or more
pub some : (a r : ℕ) → 1 ≤ a → a * 2 ^ 54 ≤ (2 * r + 1) * (2 * r + 1) → 1 ≤ r
some a zero h k = absurd (no a h k)
  where
    no : (a : ℕ) → 1 ≤ a → a * 2 ^ 54 ≤ (2 * 0 + 1) * (2 * 0 + 1) → ⊥
    no a h k = omega arith
some a (suc r) h k = omega arith

pub one_less : (a r : ℕ) → 1 ≤ r → a * 2 ^ 54 ≤ (2 * r - 1) * (2 * r - 1) → a * 2 ^ 54 ≤ (2 * (r - 1) + 1) * (2 * (r - 1) + 1)
one_less a r h k = subst (λ (z : ℕ). a * 2 ^ 54 ≤ z * z) (same r h) k
  where
    same : (r : ℕ) → 1 ≤ r → 2 * r - 1 ≡ 2 * (r - 1) + 1
    same r h = omega arith

-- one square settles a guess of 53 digits
below_square : (g : ℕ) → 1 ≤ g → (2 * g - 1) * (2 * g - 1) + 4 * g ≡ 4 * (g * g) + 1
below_square zero h = absurd (not-suc-le-zero h)
below_square (suc g) h = ap (λ (n : ℕ). n * n + 4 * suc g) (odd g) ∙ omega arith
  where
    odd : (g : ℕ) → 2 * suc g - 1 ≡ 2 * g + 1
    odd g = omega arith

upper_part : (g p : ℕ) → p ≡ g * 1024 * (g * 1024) / 2 ^ 64 → (p * 2 ^ 44 ≤ g * g) × (g * g < p * 2 ^ 44 + 2 ^ 44)
upper_part g p e = (omega arith, omega arith)

cut : (g : ℕ) → g / 2 ^ 44 * 2 ^ 44 ≤ g
cut g = omega arith

pub settled : (a g p : ℕ) → 2 ^ 52 ≤ g → g < 2 ^ 53 → p ≡ g * 1024 * (g * 1024) / 2 ^ 64 → p < a * 256 + g / 2 ^ 44 → a * 256 ≤ p + g / 2 ^ 44 → Nearest a g
settled a g p l m e u v =
    let h = upper_part g p e in
    record {
      over = over (g * g) (g / 2 ^ 44) h.0 v (cut g) refl;
      under = under ((2 * g - 1) * (2 * g - 1)) (g * g) (g / 2 ^ 44) h.1 u (cut g) (below_square g (le_trans (lit≤ {m = 1} {n = 2 ^ 52} tt) l));
      small = (omega arith, m);
    }
  where
    over : (s q : ℕ) → p * 2 ^ 44 ≤ s → a * 256 ≤ p + q → q * 2 ^ 44 ≤ g → s ≡ g * g → a * 2 ^ 54 ≤ (2 * g + 1) * (2 * g + 1)
    over s q h v c f = omega arith

    under : (t s q : ℕ) → s < p * 2 ^ 44 + 2 ^ 44 → p < a * 256 + q → q * 2 ^ 44 ≤ g → t + 4 * g ≡ 4 * s + 1 → t < a * 2 ^ 54
    under t s q h u c f = omega arith

-- ---- the nearest root by its digits

-- a smaller number has a smaller square
squares : (x y : ℕ) → x ≤ y → x * x ≤ y * y
squares x y h = mul-le-mul h h

low_side : (a R c : ℕ) → c ≤ R → (2 * R - 1) * (2 * R - 1) < a * 2 ^ 54 → (2 * c - 1) * (2 * c - 1) < a * 2 ^ 54
low_side a R c h k = lt_of_le_of_lt (squares (2 * c - 1) (2 * R - 1) (step R c h)) k
  where
    step : (R c : ℕ) → c ≤ R → 2 * c - 1 ≤ 2 * R - 1
    step R c h = omega arith

high_side : (a R c : ℕ) → R < c → a * 2 ^ 54 ≤ (2 * R + 1) * (2 * R + 1) → a * 2 ^ 54 ≤ (2 * c - 1) * (2 * c - 1)
high_side a R c h k = le_trans k (squares (2 * R + 1) (2 * c - 1) (step R c h))
  where
    step : (R c : ℕ) → R < c → 2 * R + 1 ≤ 2 * c - 1
    step R c h = omega arith

module _ (a R : ℕ) (over : a * 2 ^ 54 ≤ (2 * R + 1) * (2 * R + 1)) (under : (2 * R - 1) * (2 * R - 1) < a * 2 ^ 54) where
  digits_find : (n r : ℕ) → r ≤ R → R < r + 2 ^ n → root_digits a n r ≡ R
  digits_find zero r l h = one (2 ^ 0) r refl l h
    where
      one : (w r : ℕ) → w ≡ 1 → r ≤ R → R < r + w → r ≡ R
      one w r e l h = omega arith
  digits_find (suc n) r l h = go (λ k. digits_find n (r + 2 ^ n) k (half r (2 ^ n) (2 ^ suc n) (pow-succ' 2 n) h)) (λ k. digits_find n r l k) (leb (r + 2 ^ n) R) refl
    where
      half : (r w v : ℕ) → v ≡ 2 * w → R < r + v → R < r + w + w
      half r w v e h = omega arith

      go : (r + 2 ^ n ≤ R → root_digits a n (r + 2 ^ n) ≡ R) → (R < r + 2 ^ n → root_digits a n r ≡ R) → (b : Bool) → leb (r + 2 ^ n) R ≡ b → root_digits a (suc n) r ≡ R
      go f g true e =
          let k = leb-true (r + 2 ^ n) R e in
          ap (λ (b : Bool). root_digits a n (cond b (r + 2 ^ n) r)) (lt-ltb ((2 * (r + 2 ^ n) - 1) * (2 * (r + 2 ^ n) - 1)) (a * 2 ^ 54) (low_side a R (r + 2 ^ n) k under)) ∙ f k
      go f g false e =
          let k = leb-false (r + 2 ^ n) R e in
          ap (λ (b : Bool). root_digits a n (cond b (r + 2 ^ n) r)) (le-ltb ((2 * (r + 2 ^ n) - 1) * (2 * (r + 2 ^ n) - 1)) (a * 2 ^ 54) (high_side a R (r + 2 ^ n) k over)) ∙ g k

-- the nearest root is the one that the definition's digits give
pub nearest_is : (a R : ℕ) → Nearest a R → R ≡ nearest_of a
unfolding nearest_of
nearest_is a R n = sym (digits_find a R n.over n.under 53 0 zero-le (subst (λ (z : ℕ). R < z) (sym (zero-add (2 ^ 53))) n.small.1))

-- ---- the bits of the result

pub no_nan_bits : (b : ℕ) → b < 2047 * 2 ^ 52 → nan_bits binary64 b ≡ false
unfolding nan_bits
no_nan_bits b h = ap (λ (t : Bool). t && not (eqb (b % 2 ^ 52) 0)) (ne_eqb (b % 2 ^ 63 / 2 ^ 52) 2047 (apart b h))
  where
    apart : (b : ℕ) → b < 2047 * 2 ^ 52 → b % 2 ^ 63 / 2 ^ 52 ≡ 2047 → ⊥
    apart b h e = omega arith

-- once or twice the digits
module _ (q e : ℕ) (h : 2 ^ 52 ≤ q) (k : q < 2 ^ 53) where
  pub radicand_le : q * (2 - e % 2) ≤ 9007199254740991 * 2
  radicand_le = below_mul 9007199254740991 2 (omega arith) (omega arith)

  pub radicand_ge : 1 ≤ q * (2 - e % 2)
  radicand_ge = le_trans (leb→le 1 (4503599627370496 * 1) tt) (below_mul_from q (2 - e % 2) h (omega arith))
    where
      below_mul_from : (q d : ℕ) → 4503599627370496 ≤ q → 1 ≤ d → 4503599627370496 * 1 ≤ q * d
      below_mul_from q d h k = mul-le-mul h k
