-- The theorems of `specs/Theorems.antt`. Assumes nothing.
use mathlib.Core.Path.{◌≡◌, refl, sym, ap, ◌∙◌, subst}
use mathlib.Core.Logic.{◌⊎◌, inl, inr}
use mathlib.Core.Bool.{Bool, true, false, not, ◌&&◌, ◌||◌, beq}
use Prim.Native.Nat.{ℕ, zero, suc, ◌+◌, ◌-◌, ◌*◌, ◌^◌, ◌≤◌, ◌<◌}
use native.Mathlib.Omega.{arith}
use native.Mathlib.Nat.{zero-mul, one-mul, not-suc-le-zero, le_of_suc-le-suc, le_trans, eq-or-lt_of_le}
use borrow.Author.Tests.{lt-ltb, ltb-true, ltb-false, eq-eqb, ne_eqb}
use lib.Dec.{T, ltb, leb→le, eqb, eqb→eq}
use lib.IntN.{ℤ, pos}
use lib.Ieee.{Float, nan, inf, fin, binary64, up, down, fits, neg, lt, eq, is_nan, of_int, round, to_unsigned}
use lib.Ieee.Back.{whole_unique}
use lib.Ieee.Exact.{HasValue}
use lib.Ieee.Fits.{and_l, and_r, down_pos}
use Rattle.fixed_point.specs.Float.{Within, over, unit, nought}
use Rattle.fixed_point.proofs.Range.{clash, not_negative, passes_left, passes_right}
use Rattle.exponential_tables.specs.Tables.{coarse, fine}
use Rattle.natural_exponential.specs.Exp.{exp_of, most, least}
use Rattle.natural_exponential.proofs.Cases.{exp_most, exp_least, least_most}
use Rattle.natural_logarithm.specs.Log.{fraction_of, difference_of, log_of}
use Rattle.natural_logarithm.proofs.LogCases.{difference_plus, difference_minus, log_negative, log_zero, log_one, zeroes, log_else}
use Rattle.circular_tables.specs.Tables.{sines, cosines}
use Rattle.circular_functions.specs.Trig.{sin_of, cos_of}
use Rattle.circular_functions.proofs.TrigCases.{sin_over, cos_over}
use Rattle.square_root.specs.Root.{sqrt_of}
use Rattle.square_root.proofs.RootCases.{sqrt_negative}
use Rattle.elementary.specs.Pow.{whole_exponent, power_product, pow_of}
use Rattle.elementary.proofs.PowCases.{pow_two, pow_whole, pow_of_zero, pow_of_infinity, pow_rest, sides_above, sides_below, rest_negative, rest_nan, rest_nan_exponent, rest_is}
use Rattle.elementary_bounds.specs.Series.{NearLog}
use Rattle.elementary_bounds.specs.Theorems.{numerator, denominator, HasDifference, ExpNear, ExpTail, ExpKept, ExpSome, ExpPlus, SinNear, CosNear, LogNear, LogTail, LogMinus, LogSize, SinSize, CosSize, SqrtNear, ExpZero, ExpEnds, LogEnds, SinCosZero, SinBeyond, CosBeyond, SqrtEnds, PowTwo, PowRules, PowWhole, PowLast}
use Rattle.elementary_bounds.proofs.ExpNear.{exp_near}
use Rattle.elementary_bounds.proofs.ExpTail.{exp_tail_lem, exp_kept, exp_plus}
use Rattle.elementary_bounds.proofs.ExpSome.{exp_some}
use Rattle.elementary_bounds.proofs.LogTail.{log_tail_lem, log_size}
use Rattle.elementary_bounds.proofs.TrigNear.{sin_near, cos_near, sin_size, cos_size}
use Rattle.elementary_bounds.proofs.LogFloat.{near_raised, log_near_above, log_near_below}
use Rattle.elementary_bounds.proofs.RootNear.{root_near}
use Rattle.elementary_bounds.proofs.LogValues.{log_two, log_two_near, fraction_value}

-- ---- the series

pub ExpNear_is : ExpNear
ExpNear_is nan h = absurd h
ExpNear_is (inf s) h = absurd h
ExpNear_is (fin s m e) h = exp_near s m e h

pub ExpTail_is : ExpTail
ExpTail_is = exp_tail_lem

pub ExpKept_is : ExpKept
ExpKept_is = exp_kept

pub SinNear_is : SinNear
SinNear_is nan h = absurd h
SinNear_is (inf s) h = absurd h
SinNear_is (fin s m e) h = sin_near s m e h

pub CosNear_is : CosNear
CosNear_is nan h = absurd h
CosNear_is (inf s) h = absurd h
CosNear_is (fin s m e) h = cos_near s m e h

-- ---- log

plus_value : (y : Float) (p n d : ℕ) → HasValue y false d (2 ^ 53) → p ≡ n + d → HasDifference y p n (2 ^ 53)
plus_value nan p n d v e = absurd v
plus_value (inf s) p n d v e = absurd v
plus_value (fin true m i) p n d v e = clash v.0
plus_value (fin false m i) p n d v e = total (m * up i) (down i) (2 ^ 53) p n d v.1 e
  where
    total : (a D C p n d : ℕ) → a * C ≡ d * D → p ≡ n + d → a * C + n * D ≡ p * D
    total a D C p n d e f = omega (arith, ap (λ (z : ℕ). z * D) f)

minus_value : (y : Float) (p n d : ℕ) → HasValue y false d (2 ^ 53) → n ≡ p + d → HasDifference (neg y) p n (2 ^ 53)
unfolding neg
minus_value nan p n d v e = absurd v
minus_value (inf s) p n d v e = absurd v
minus_value (fin true m i) p n d v e = clash v.0
minus_value (fin false m i) p n d v e = total (m * up i) (down i) (2 ^ 53) p n d v.1 e
  where
    total : (a D C p n d : ℕ) → a * C ≡ d * D → n ≡ p + d → a * C + p * D ≡ n * D
    total a D C p n d e f = omega (arith, ap (λ (z : ℕ). z * D) f)

difference_value : (p n : ℕ) → p < n + 2 ^ 53 → n < p + 2 ^ 53 → HasDifference (difference_of p n) p n (2 ^ 53)
difference_value p n h k = go (ltb p n) refl
  where
    less : (p n : ℕ) → n < p + 2 ^ 53 → p < n → (n - p < 2 ^ 53) × (n ≡ p + (n - p))
    less p n k l = (omega arith, omega arith)

    more : (p n : ℕ) → p < n + 2 ^ 53 → n ≤ p → (p - n < 2 ^ 53) × (p ≡ n + (p - n))
    more p n h l = (omega arith, omega arith)

    go : (b : Bool) → ltb p n ≡ b → HasDifference (difference_of p n) p n (2 ^ 53)
    go true e =
        let l = ltb-true p n e in
        let b = less p n k l in
        subst (λ (y : Float). HasDifference y p n (2 ^ 53)) (sym (difference_minus p n l)) (minus_value (fraction_of (n - p)) p n (n - p) (fraction_value (n - p) b.0) b.1)
    go false e =
        let l = ltb-false p n e in
        let b = more p n h l in
        subst (λ (y : Float). HasDifference y p n (2 ^ 53)) (sym (difference_plus p n l)) (plus_value (fraction_of (p - n)) p n (p - n) (fraction_value (p - n) b.0) b.1)

abbrev Joined : Float → ℕ → ℕ → ℕ → ℕ → Type 0
Joined y n d p q = HasDifference y p q (2 ^ 53) × (d ≤ n → NearLog p q (n - d) (n + d)) × (n ≤ d → NearLog q p (d - n) (n + d))

module _ (m : ℕ) (e : ℤ) (fx : T (fits binary64 (fin false m e))) where
  abbrev x : Float
  x = fin false m e

  abbrev n : ℕ
  n = m * up e

  abbrev d : ℕ
  d = down e

  equal_one : n ≡ d → eq x unit ≡ true
  unfolding eq
  equal_one h = ap (λ (b : Bool). b && (beq false false || eqb (n * 1) 0)) (eq-eqb (n * 1) (1 * d) (ones n d h))
    where
      ones : (n d : ℕ) → n ≡ d → n * 1 ≡ 1 * d
      ones n d h = omega arith

  one_equal : eq x unit ≡ true → n ≡ d
  unfolding eq
  one_equal h = ones n d (eqb→eq (n * 1) (1 * d) (and_l (eqb (n * 1) (1 * d)) (beq false false || eqb (n * 1) 0) (subst T (sym h) tt)))
    where
      ones : (n d : ℕ) → n * 1 ≡ 1 * d → n ≡ d
      ones n d h = omega arith

  -- at 1
  at_one : eq x unit ≡ true → Joined (log_of x) n d 0 0
  unfolding is_nan lt eq
  at_one h =
      let s = one_equal h in
      let k : log_of x ≡ nought = log_one x refl (not_negative m e) (not_zero h) refl h in (
        subst (λ (y : Float). HasDifference y 0 0 (2 ^ 53)) (sym k) refl,
        λ l. subst (λ (a : ℕ). NearLog 0 0 a (n + d)) (none n d s) (nothing (n + d)),
        λ l. subst (λ (a : ℕ). NearLog 0 0 a (n + d)) (none d n (sym s)) (nothing (n + d)),
      )
    where
      some : (n d : ℕ) → n ≡ d → 0 < d → n * 1 ≡ 0 * 1 * d → ⊥
      some n d e p z = omega arith

      not_zero : eq x unit ≡ true → eq x nought ≡ false
      not_zero h = ap (λ (b : Bool). b && (beq false false || eqb (n * 1) 0)) (ne_eqb (n * 1) (0 * 1 * d) (some n d (one_equal h) (down_pos e)))

      none : (n d : ℕ) → n ≡ d → 0 ≡ n - d
      none n d e = omega arith

      nothing : (b : ℕ) → NearLog 0 0 0 b
      nothing b = subst (λ (z : ℕ). NearLog 0 0 0 z) (one-mul b) (subst (λ (z : ℕ). NearLog 0 0 z (1 * b)) (zero-mul b) (near_raised 0 0 0 1 b (record { above = leb→le _ _ tt; under = leb→le _ _ tt })))

  apart : eq x unit ≡ false → n ≡ d → ⊥
  apart h e = clash (sym (equal_one e) ∙ h)

  -- below 1
  at_below : eq x unit ≡ false → d ≤ 2 * n → n < d → (p : ℕ) × (q : ℕ) × Joined (log_of x) n d p q
  at_below o h l =
      let z = log_near_below m e fx o h l in
      let w = z.0 in (
        w,
        6243314768165359 + 2 ^ 53,
        (
          subst (λ (y : Float). HasDifference y w (6243314768165359 + 2 ^ 53) (2 ^ 53)) (sym z.2) (difference_value w (6243314768165359 + 2 ^ 53) (first w z.1.1) (second w z.1.0)),
          λ g. absurd (no n d l g),
          λ g. z.3,
        ),
      )
    where
      first : (w : ℕ) → w ≤ 15300000000000000 → w < 6243314768165359 + 2 ^ 53 + 2 ^ 53
      first w h = omega arith

      second : (w : ℕ) → 8929000000000000 ≤ w → 6243314768165359 + 2 ^ 53 < w + 2 ^ 53
      second w h = omega arith

      no : (n d : ℕ) → n < d → d ≤ n → ⊥
      no n d l g = omega arith

  -- between 1 and 2
  at_above : eq x unit ≡ false → d ≤ n → n < 2 * d → (p : ℕ) × (q : ℕ) × Joined (log_of x) n d p q
  at_above o h l =
      let z = log_near_above m e fx o h l in
      let w = z.0 in (
        w,
        2 ^ 53,
        (
          subst (λ (y : Float). HasDifference y w (2 ^ 53) (2 ^ 53)) (sym z.2) (difference_value w (2 ^ 53) (first w z.1.1) (second w z.1.0)),
          λ g. z.3,
          λ g. absurd (apart o (same n d h g)),
        ),
      )
    where
      first : (w : ℕ) → w ≤ 15300000000000000 → w < 2 ^ 53 + 2 ^ 53
      first w h = omega arith

      second : (w : ℕ) → 8929000000000000 ≤ w → 2 ^ 53 < w + 2 ^ 53
      second w h = omega arith

      same : (n d : ℕ) → d ≤ n → n ≤ d → n ≡ d
      same n d h g = omega arith

  -- at 2
  at_two : n ≡ 2 * d → Joined (log_of x) n d 15250514022906408 (2 ^ 53)
  unfolding fits
  at_two h =
      let k : x ≡ fin false 1 (pos 1) = whole_unique binary64 x (fin false 1 (pos 1)) false 2 fx tt (refl, value n d h) (refl, refl) in (
        subst (λ (y : Float). HasDifference y 15250514022906408 (2 ^ 53) (2 ^ 53)) (sym (ap log_of k ∙ log_two)) (difference_value 15250514022906408 (2 ^ 53) (leb→le _ _ tt) (leb→le _ _ tt)),
        λ g. subst (λ (a : ℕ). NearLog 15250514022906408 (2 ^ 53) a (n + d)) (first n d h) (subst (λ (b : ℕ). NearLog 15250514022906408 (2 ^ 53) (1 * d) b) (second n d h) (near_raised 15250514022906408 (2 ^ 53) 1 3 d log_two_near)),
        λ g. absurd (no n d h g (down_pos e)),
      )
    where
      value : (n d : ℕ) → n ≡ 2 * d → n * 1 ≡ 2 * d
      value n d h = omega arith

      first : (n d : ℕ) → n ≡ 2 * d → 1 * d ≡ n - d
      first n d h = omega arith

      second : (n d : ℕ) → n ≡ 2 * d → 3 * d ≡ n + d
      second n d h = omega arith

      no : (n d : ℕ) → n ≡ 2 * d → n ≤ d → 0 < d → ⊥
      no n d h g p = omega arith

  joined : d ≤ 2 * n → n ≤ 2 * d → (p : ℕ) × (q : ℕ) × Joined (log_of x) n d p q
  joined h k = go (eq x unit) refl (ltb n d) refl (ltb n (2 * d)) refl
    where
      two : (n d : ℕ) → n ≤ 2 * d → 2 * d ≤ n → n ≡ 2 * d
      two n d h k = omega arith

      go : (a : Bool) → eq x unit ≡ a → (b : Bool) → ltb n d ≡ b → (c : Bool) → ltb n (2 * d) ≡ c → (p : ℕ) × (q : ℕ) × Joined (log_of x) n d p q
      go true o b u c v = (0, 0, at_one o)
      go false o true u c v = at_below o h (ltb-true n d u)
      go false o false u true v = at_above o (ltb-false n d u) (ltb-true n (2 * d) v)
      go false o false u false v = (15250514022906408, 2 ^ 53, at_two (two n d k (ltb-false n (2 * d) v)))

pub LogNear_is : LogNear
LogNear_is nan fx s h k = absurd (no h)
  where
    no : 1 ≤ 2 * 0 → ⊥
    no h = omega arith
LogNear_is (inf s) fx t h k = absurd (no h)
  where
    no : 1 ≤ 2 * 0 → ⊥
    no h = omega arith
LogNear_is (fin true m e) fx s h k = clash s
LogNear_is (fin false m e) fx s h k =
    let z = joined m e fx h k in
    (z.0, z.1, z.2.0, z.2.1, z.2.2)

pub LogTail_is : LogTail
LogTail_is = log_tail_lem

-- ---- sizes

pub LogSize_is : LogSize
LogSize_is = log_size

pub ExpSome_is : ExpSome
ExpSome_is = exp_some

pub ExpPlus_is : ExpPlus
ExpPlus_is = exp_plus

pub SinSize_is : SinSize
SinSize_is = sin_size

pub CosSize_is : CosSize
CosSize_is = cos_size

-- ---- the square root

pub SqrtNear_is : SqrtNear
SqrtNear_is nan fx s h = absurd (not-suc-le-zero h)
SqrtNear_is (inf s) fx t h = absurd (not-suc-le-zero h)
SqrtNear_is (fin true m e) fx s h = clash s
SqrtNear_is (fin false m e) fx s h = root_near m e fx h

-- ---- special values

pub ExpZero_is : ExpZero
unfolding exp_of is_nan lt coarse fine round
ExpZero_is true = refl
ExpZero_is false = refl

pub ExpEnds_is : ExpEnds
unfolding exp_of is_nan
ExpEnds_is = (refl, λ x h. exp_most x (passes_right most x h) h, λ x h. exp_least x (passes_left x least h) (least_most x h) h)

log_zeros : (s : Bool) → log_of (fin s 0 (pos 0)) ≡ inf true
unfolding log_of is_nan lt eq
log_zeros true = refl
log_zeros false = refl

pub LogEnds_is : LogEnds
unfolding log_of is_nan lt eq
LogEnds_is = (refl, λ x h. log_negative x (passes_left x nought h) h, log_zeros, refl, refl)

log_plus : (x : Float) → eq x (inf false) ≡ true → log_of x ≡ inf false
unfolding log_of is_nan lt eq
log_plus nan e = clash (sym e)
log_plus (inf true) e = clash (sym e)
log_plus (inf false) e = refl
log_plus (fin s m i) e = clash (sym e)

pub LogMinus_is : LogMinus
LogMinus_is x fx = (λ h. only h (eq x nought) refl (lt nought x) refl (eq x (inf false)) refl, λ e. log_zero x (zeroes x e).0 (zeroes x e).1 e)
  where
    only : log_of x ≡ inf true → (z : Bool) → eq x nought ≡ z → (a : Bool) → lt nought x ≡ a → (i : Bool) → eq x (inf false) ≡ i → z ≡ true
    only h true e a l i f = refl
    only h false e false l i f = cc (log_else x l e)
    only h false e true l true f = cc (log_plus x f)
    only h false e true l false f = absurd (subst (λ (y : Float). Within y 1024) h (log_size x fx l f))

pub SinCosZero_is : SinCosZero
unfolding sin_of cos_of sines cosines round
SinCosZero_is true = (refl, refl)
SinCosZero_is false = (refl, refl)

beyond : (x : Float) → 65536 * denominator x < numerator x → over 65536 x ≡ true
beyond nan h = refl
beyond (inf s) h = refl
beyond (fin s m e) h = lt-ltb (65536 * down e) (m * up e) h

pub SinBeyond_is : SinBeyond
SinBeyond_is = (λ x h. sin_over x (beyond x h), λ s. sin_over (inf s) refl, sin_over nan refl)

pub CosBeyond_is : CosBeyond
CosBeyond_is = (λ x h. cos_over x (beyond x h), λ s. cos_over (inf s) refl, cos_over nan refl)

sqrt_zeros : (s : Bool) → sqrt_of (fin s 0 (pos 0)) ≡ fin s 0 (pos 0)
unfolding sqrt_of is_nan lt eq
sqrt_zeros true = refl
sqrt_zeros false = refl

pub SqrtEnds_is : SqrtEnds
unfolding sqrt_of is_nan lt eq
SqrtEnds_is = (sqrt_zeros, refl, refl, λ x h. sqrt_negative x (passes_left x nought h) h)

pub PowTwo_is : PowTwo
PowTwo_is = pow_two

pow_zeros : (b : Float) (s : Bool) → pow_of b (fin s 0 (pos 0)) ≡ unit
unfolding pow_of eq
pow_zeros b true = refl
pow_zeros b false = refl

pub PowRules_is : PowRules
unfolding pow_of whole_exponent eq lt to_unsigned of_int round
PowRules_is = (pow_zeros, λ b. refl)

-- the whole numbers from 1 to k are found to be whole
abbrev whole : ℕ → Bool
whole n = eqb (whole_exponent (of_int binary64 (pos n))) n && not (eq (of_int binary64 (pos n)) nought)

abbrev wholes : ℕ → Bool
wholes zero = true
wholes (suc n) = whole (suc n) && wholes n

wholes_test : T (wholes 32)
unfolding whole_exponent eq lt to_unsigned of_int round
wholes_test = tt

wholes_are : (k n : ℕ) → T (wholes k) → 1 ≤ n → n ≤ k → T (whole n)
wholes_are zero n t h l = absurd (not-suc-le-zero (le_trans h l))
wholes_are (suc k) n t h l = go (λ g. wholes_are k n (and_r (whole (suc k)) (wholes k) t) h (le_of_suc-le-suc g)) (eq-or-lt_of_le l)
  where
    go : (n < suc k → T (whole n)) → (n ≡ suc k) ⊎ (n < suc k) → T (whole n)
    go f (inl e) = subst (λ (z : ℕ). T (whole z)) (sym e) (and_l (whole (suc k)) (wholes k) t)
    go f (inr g) = f g

negated : (b : Bool) → T (not b) → b ≡ false
negated true h = absurd h
negated false h = refl

pub PowWhole_is : PowWhole
PowWhole_is b n h l =
    let x = of_int binary64 (pos n) in
    let t = wholes_are 32 n wholes_test h l in
    let w : whole_exponent x ≡ n = eqb→eq (whole_exponent x) n (and_l (eqb (whole_exponent x) n) (not (eq x nought)) t) in
    let z : eq x nought ≡ false = negated (eq x nought) (and_r (eqb (whole_exponent x) n) (not (eq x nought)) t) in
    pow_whole b x z (subst (λ (k : ℕ). 1 ≤ k) (sym w) h) ∙ ap (λ (k : ℕ). power_product b (k - 1)) w

pub PowLast_is : PowLast
PowLast_is b e z w h = (
  λ o a. pow_of_zero b e z w h o ∙ sides_above nought (inf false) b e a,
  λ o a c. pow_of_zero b e z w h o ∙ sides_below nought (inf false) b e a c,
  λ o i a. pow_of_infinity b e z w h o i ∙ sides_above (inf false) nought b e a,
  λ o i a c. pow_of_infinity b e z w h o i ∙ sides_below (inf false) nought b e a c,
  λ o i n. pow_rest b e z w h o i ∙ rest_negative b e n,
  λ o i n m. pow_rest b e z w h o i ∙ rest_nan b e n m,
  λ o i n m k. pow_rest b e z w h o i ∙ rest_nan_exponent b e n m k,
  λ o i n m k. pow_rest b e z w h o i ∙ rest_is b e n m k,
)
