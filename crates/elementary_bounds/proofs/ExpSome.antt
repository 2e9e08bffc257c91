-- exp is above 0 from -745 on. Assumes nothing.
use mathlib.Core.Path.{◌≡◌, refl, sym, ap, ◌∙◌, subst}
use mathlib.Core.Logic.{◌⊎◌, inl, inr}
use mathlib.Core.Bool.{Bool, true, false, ◌&&◌, ◌||◌}
use Prim.Native.Nat.{ℕ, zero, suc, ◌+◌, ◌-◌, ◌*◌, ◌/◌, ◌%◌, ◌^◌, ◌≤◌, ◌<◌}
use native.Mathlib.Omega.{arith}
use native.Mathlib.Nat.{le_trans, le_of_eq, le_of_lt, le_of_suc-le-suc, not-suc-le-zero, eq-or-lt_of_le, le-add_right, mul-le-mul, mul-le-mul_right, le-div_iff_mul-le}
use borrow.Author.Tests.{ltb-true, lt-ltb, eqb-true}
use lib.Dec.{T, ltb, leb, eqb, leb→le, lit≤}
use lib.ListN.{get_or}
use lib.IntN.{negsuc}
use lib.Pow.{pow_pos, pow_mono}
use lib.Ieee.{Float, nan, inf, fin, binary64, up, down, round, lt, le, eq, is_nan}
use lib.Ieee.Fits.{and_l, and_r, down_pos}
use lib.Ieee.Order.{round_mono}
use Rattle.fixed_point.specs.Float.{over, minus_sign, nought}
use Rattle.fixed_point.specs.Fixed.{high_of, scaled_of, offset_of}
use Rattle.fixed_point.proofs.Bits.{over_within}
use Rattle.fixed_point.proofs.Choice.{either_le}
use Rattle.fixed_point.proofs.Range.{clash, minus_within, within_scaled, plus_within}
use Rattle.exponential_tables.specs.Tables.{coarse, fine}
use Rattle.natural_exponential.specs.Exp.{expm1_of, compounded_of, kernel_of, times_of, exp_rest, exp_of, most, least}
use Rattle.natural_exponential.proofs.Bound.{fine_ge, kernel_ge}
use Rattle.natural_exponential.proofs.Cases.{exp_most, exp_reduced_lem, exp_inside}
use Rattle.natural_exponential.proofs.Reduce.{reduced, times_ge, times_many}
use Rattle.elementary_bounds.specs.Theorems.{ExpSome}

-- ---- the table from an entry on

abbrev from : ℕ → ℕ → ℕ → Bool
from B a zero = true
from B a (suc n) = leb B (get_or coarse (a + n) 0) && from B a n

from_is : (B a n k : ℕ) → T (from B a n) → k < n → B ≤ get_or coarse (a + k) 0
from_is B a zero k t h = absurd (not-suc-le-zero h)
from_is B a (suc n) k t h = go (λ g. from_is B a n k (and_r (leb B (get_or coarse (a + n) 0)) (from B a n) t) g) (eq-or-lt_of_le (le_of_suc-le-suc h))
  where
    go : (k < n → B ≤ get_or coarse (a + k) 0) → (k ≡ n) ⊎ (k < n) → B ≤ get_or coarse (a + k) 0
    go f (inl e) = subst (λ (z : ℕ). B ≤ get_or coarse (a + z) 0) (sym e) (leb→le B (get_or coarse (a + n) 0) (and_l (leb B (get_or coarse (a + n) 0)) (from B a n) t))
    go f (inr g) = f g

test_31 : T (from 1117449839007427528 31 34)
unfolding coarse
test_31 = tt

test_36 : T (from 1306431219452726521 36 29)
unfolding coarse
test_36 = tt

entry : (B a n i : ℕ) → T (from B a n) → a ≤ i → i < a + n → B ≤ get_or coarse i 0
entry B a n i t h k = subst (λ (z : ℕ). B ≤ get_or coarse z 0) (back a i h) (from_is B a n (i - a) t (left a n i h k))
  where
    back : (a i : ℕ) → a ≤ i → a + (i - a) ≡ i
    back a i h = omega arith

    left : (a n i : ℕ) → a ≤ i → i < a + n → i - a < n
    left a n i h k = omega arith

-- a fourth of the entry is what the kernel is at least
kernel_from : (B b t : ℕ) → b * 2 ^ 64 ≤ B * 2 ^ 62 → t ≤ 2 ^ 59 → B ≤ get_or coarse (t / 2 ^ 53) 0 → b ≤ kernel_of t
kernel_from B b t l h g =
    let c = get_or coarse (t / 2 ^ 53) 0 in
    let f = get_or fine (t / 2 ^ 48 % 32) 0 in
    let m : b ≤ high_of c f = (le-div_iff_mul-le {k = 2 ^ 64} {x = b} {y = c * f} (pow_pos 64)).1 (le_trans l (mul-le-mul g (fine_ge (t / 2 ^ 48 % 32) (small t)))) in
    grown (high_of c f) (expm1_of (t % 2 ^ 48)) m
  where
    small : (t : ℕ) → t / 2 ^ 48 % 32 < 32
    small t = omega arith

    grown : (c p : ℕ) → b ≤ c → b ≤ compounded_of c p
    grown c p h = le_trans h (le-add_right c ((p * (c / 2 ^ 38) + p * (c / 2 ^ 16 % 2 ^ 22) / 2 ^ 22) / 2 ^ 13))

-- ---- more than half a unit of 2 ^ -1074 rounds to one at least

unit : round binary64 false (2 ^ 63 + 1) (2 ^ 1138) ≡ fin false 1 (negsuc 1073)
unfolding round
unit = refl

above : (y : Float) → T (le (fin false 1 (negsuc 1073)) y) → lt nought y ≡ true
unfolding le lt eq
above nan h = absurd h
above (inf true) h = absurd h
above (inf false) h = refl
above (fin true m e) h = absurd (go (eqb (1 * 1 * down e) (m * up e * 2 ^ 1074)) (eqb (1 * 1 * down e) 0) refl h)
  where
    none : (d : ℕ) → 0 < d → 1 * 1 * d ≡ 0 → ⊥
    none d p e = omega arith

    go : (s t : Bool) → eqb (1 * 1 * down e) 0 ≡ t → T (s && t) → ⊥
    go true true f g = none (down e) (down_pos e) (eqb-true (1 * 1 * down e) 0 f)
    go true false f g = g
    go false t f g = g
above (fin false m e) h = lt-ltb (0 * 1 * down e) (m * up e * 1) (some (m * up e) (down e) (2 ^ 1074) (down_pos e) (reached (1 * 1 * down e) (m * up e * 2 ^ 1074) (ltb (1 * 1 * down e) (m * up e * 2 ^ 1074)) refl (eqb (1 * 1 * down e) (m * up e * 2 ^ 1074)) refl h))
  where
    some : (p d c : ℕ) → 0 < d → 1 * 1 * d ≤ p * c → 0 * 1 * d < p * 1
    some zero d c g l = absurd (none d c g l)
      where
        none : (d c : ℕ) → 0 < d → 1 * 1 * d ≤ 0 * c → ⊥
        none d c g l = omega arith
    some (suc p) d c g l = omega arith

    level : (a b : ℕ) → a ≡ b → a ≤ b
    level a b e = omega arith

    reached : (a b : ℕ) (s : Bool) → ltb a b ≡ s → (t : Bool) → eqb a b ≡ t → T (s || (t && true)) → a ≤ b
    reached a b true f t g h = le_of_lt (ltb-true a b f)
    reached a b false f true g h = level a b (eqb-true a b g)
    reached a b false f false g h = absurd h

rounds : (a : ℕ) → 2 ^ 63 + 1 ≤ a → lt nought (round binary64 false a (2 ^ 1138)) ≡ true
rounds a h =
    above (round binary64 false a (2 ^ 1138))
    (subst (λ (z : Float). T (le z (round binary64 false a (2 ^ 1138)))) unit (round_mono binary64 (2 ^ 63 + 1) (2 ^ 1138) a (2 ^ 1138) (pow_pos 1138) (pow_pos 1138) (mul-le-mul_right (2 ^ 1138) h)))

-- q at least b, and an exponent of j at least
enough : (q b k j : ℕ) → b ≤ q → j ≤ k → 2 ^ 63 + 1 ≤ b * 2 ^ j → 2 ^ 63 + 1 ≤ q * 2 ^ k
enough q b k j h l g = le_trans g (mul-le-mul h (pow_mono l))

-- ---- below -1

module _ (M : ℕ) (w : M ≤ 745 * 2 ^ 53) where
  abbrev N : ℕ
  N = times_of M + 1

  -- N times log 2 is not far below |x|
  near : M ≤ N * 6243314768165359 + 12884901888
  near = level (times_of M) (times_ge M w)
    where
      level : (n : ℕ) → M ≤ n * 6243314768165359 + 6243314768165359 + 12884901888 → M ≤ (n + 1) * 6243314768165359 + 12884901888
      level n h = omega arith

  rest_ge : (n : ℕ) → M ≤ n * 6243314768165359 + 12884901888 → 31 * 2 ^ 53 ≤ exp_rest 1 M n
  rest_ge n h = omega arith

  last_ge : 36 * 2 ^ 53 ≤ exp_rest 1 M 1075
  last_ge = omega arith

  rest_le : exp_rest 1 M N ≤ 2 ^ 59 → exp_rest 1 M N / 2 ^ 53 < 65
  rest_le h = omega arith

  fourth : (b v : ℕ) → b * 128 ≤ v → b ≤ v / 128
  fourth b v h = omega arith

  module _ (i : exp_rest 1 M N ≤ 2 ^ 59) where
    v_ge : 2182519216811381 ≤ kernel_of (exp_rest 1 M N) / 128
    v_ge =
        fourth 2182519216811381 (kernel_of (exp_rest 1 M N))
        (le_trans (leb→le (2182519216811381 * 128) 279362459751856882 tt)
        (kernel_from 1117449839007427528 279362459751856882 (exp_rest 1 M N) (leb→le (279362459751856882 * 2 ^ 64) (1117449839007427528 * 2 ^ 62) tt) i
        (entry 1117449839007427528 31 34 (exp_rest 1 M N / 2 ^ 53) test_31 (at 31 (exp_rest 1 M N) (rest_ge N near)) (rest_le i))))
      where
        at : (a t : ℕ) → a * 2 ^ 53 ≤ t → a ≤ t / 2 ^ 53
        at a t h = (le-div_iff_mul-le {k = 2 ^ 53} {x = a} {y = t} (pow_pos 53)).1 h

    v_last : N ≡ 1075 → 2551623475493606 ≤ kernel_of (exp_rest 1 M N) / 128
    v_last e =
        fourth 2551623475493606 (kernel_of (exp_rest 1 M N))
        (le_trans (leb→le (2551623475493606 * 128) 326607804863181630 tt)
        (kernel_from 1306431219452726521 326607804863181630 (exp_rest 1 M N) (leb→le (326607804863181630 * 2 ^ 64) (1306431219452726521 * 2 ^ 62) tt) i
        (entry 1306431219452726521 36 29 (exp_rest 1 M N / 2 ^ 53) test_36 (at 36 (exp_rest 1 M N) (subst (λ (n : ℕ). 36 * 2 ^ 53 ≤ exp_rest 1 M n) (sym e) last_ge)) (rest_le i))))
      where
        at : (a t : ℕ) → a * 2 ^ 53 ≤ t → a ≤ t / 2 ^ 53
        at a t h = (le-div_iff_mul-le {k = 2 ^ 53} {x = a} {y = t} (pow_pos 53)).1 h

    fading_ge : 2 ^ 63 + 1 ≤ kernel_of (exp_rest 1 M N) / 128 * 2 ^ (1087 - N)
    fading_ge = go (eq-or-lt_of_le (most_n M w))
      where
        most_n : (M : ℕ) → M ≤ 745 * 2 ^ 53 → times_of M + 1 ≤ 1075
        most_n M w = omega (arith, times_many M w)

        room : (n : ℕ) → n < 1075 → 13 ≤ 1087 - n
        room n h = omega arith

        last : (n : ℕ) → n ≡ 1075 → 12 ≤ 1087 - n
        last n e = omega arith

        go : (N ≡ 1075) ⊎ (N < 1075) → 2 ^ 63 + 1 ≤ kernel_of (exp_rest 1 M N) / 128 * 2 ^ (1087 - N)
        go (inl e) = enough (kernel_of (exp_rest 1 M N) / 128) 2551623475493606 (1087 - N) 12 (v_last e) (last N e) (leb→le (2 ^ 63 + 1) (2551623475493606 * 2 ^ 12) tt)
        go (inr l) = enough (kernel_of (exp_rest 1 M N) / 128) 2182519216811381 (1087 - N) 13 v_ge (room N l) (leb→le (2 ^ 63 + 1) (2182519216811381 * 2 ^ 13) tt)

-- ---- every x

one_at_least : (t k : ℕ) → t ≤ 2 ^ 59 → 64 ≤ k → lt nought (round binary64 false (kernel_of t / 128 * 2 ^ k) (2 ^ 1138)) ≡ true
one_at_least t k h l = rounds (kernel_of t / 128 * 2 ^ k) (enough (kernel_of t / 128) 1 k 64 (some (kernel_of t) (kernel_ge t h)) l (leb→le (2 ^ 63 + 1) (1 * 2 ^ 64) tt))
  where
    some : (v : ℕ) → 128 ≤ v → 1 ≤ v / 128
    some v h = omega arith

around : (s m : ℕ) → m ≤ 1 * 2 ^ 58 → offset_of s (2 ^ 58) m ≤ 2 ^ 59
around s m h =
    let a : 2 ^ 58 + m ≤ 2 ^ 59 = omega arith in
    let b : 2 ^ 58 - m ≤ 2 ^ 59 = omega arith in
    either_le (eqb s 0) a b

infinite : lt nought (inf false) ≡ true
unfolding lt
infinite = refl

low : lt (inf true) least ≡ false → true ≡ false
unfolding lt
low h = h

high : lt most (inf false) ≡ false → true ≡ false
unfolding lt
high h = h

beyond : (x : Float) → is_nan x ≡ false → lt most x ≡ false → lt x least ≡ false → over 1 x ≡ true → lt nought (exp_of x) ≡ true
unfolding is_nan
beyond nan n a b o = clash n
beyond (inf true) n a b o = clash (low b)
beyond (inf false) n a b o = clash (high a)
beyond (fin false m e) n a b o =
    let x = fin false m e in
    let M = scaled_of 53 x in
    let w = within_scaled 53 709 x (plus_within 709 0 x tt refl a) in
    let i = (reduced 0 M (lit≤ {m = 0} {n = 1} tt) (le_trans w (leb→le (709 * 2 ^ 53) (745 * 2 ^ 53) tt)) (λ z. w)).inside in
    ap (lt nought) (exp_reduced_lem x n a b o) ∙ one_at_least (exp_rest 0 M (times_of M + 0)) (1087 + (times_of M + 0)) i (far (times_of M + 0))
  where
    far : (n : ℕ) → 64 ≤ 1087 + n
    far n = omega arith
beyond (fin true m e) n a b o =
    let x = fin true m e in
    let M = scaled_of 53 x in
    let w = within_scaled 53 745 x (minus_within 745 0 x tt (λ z. not-suc-le-zero (le_of_eq z)) b) in
    let i = (reduced 1 M (lit≤ {m = 1} {n = 1} tt) w (λ z. absurd (not-suc-le-zero (le_of_eq z)))).inside in
    ap (lt nought) (exp_reduced_lem x n a b o) ∙ rounds (kernel_of (exp_rest 1 M (times_of M + 1)) / 128 * 2 ^ (1087 - (times_of M + 1))) (fading_ge M w i)

pub exp_some : ExpSome
exp_some x n b = go (lt most x) refl (over 1 x) refl
  where
    go : (s : Bool) → lt most x ≡ s → (t : Bool) → over 1 x ≡ t → lt nought (exp_of x) ≡ true
    go true a t o = ap (lt nought) (exp_most x n a) ∙ infinite
    go false a true o = beyond x n a b o
    go false a false o = ap (lt nought) (exp_inside x n a b o) ∙ one_at_least (offset_of (minus_sign x) (2 ^ 58) (scaled_of 58 x)) 1087 (around (minus_sign x) (scaled_of 58 x) (within_scaled 58 1 x (over_within 1 x o))) (lit≤ {m = 64} {n = 1087} tt)
