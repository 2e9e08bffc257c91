-- log's series as polynomials in the digits: what the tests' lists stand for. Assumes nothing.
use mathlib.Core.Path.{◌≡◌, refl, sym, ap, ◌∙◌}
use mathlib.Core.Bool.{Bool, true, false, ◌&&◌}
use mathlib.Core.List.{List, [], ◌∷◌}
use Prim.Native.Nat.{ℕ, suc, ◌+◌, ◌-◌, ◌*◌, ◌^◌, ◌≤◌, ◌<◌}
use native.Mathlib.Omega.{arith}
use native.Mathlib.Nat.{le_of_mul-le-mul_left}
use lib.Dec.{T, leb, leb→le}
use lib.Pow.{pow-add}
use lib.Ieee.Fits.{and_l, and_r}
use Rattle.elementary_bounds.specs.Series.{ev, homogeneous, log_factors, odd_sum, log_series, NearLog}
use Rattle.elementary_bounds.proofs.Homogeneous.{mul_pow, pow_positive}
use Rattle.elementary_bounds.proofs.Series.{shift, times, times_is, plus, plus_is, product, product_is, part, below_centre}
use Rattle.elementary_bounds.proofs.LogSeries.{upper, lower_adding, lower_taking, single, single_is, moved_is}

-- ---- from 1 to 2: a is t and b is 2 ^ 53 + t

abbrev upper_lists : ℕ → List ℕ → ℕ → List ℕ
upper_lists d [] k = []
upper_lists d (c ∷ cs) k = plus (times c (product (single k) (shift (2 ^ 53) (single (d - k))))) (upper_lists d cs (suc (suc k)))

upper_lists_lem : (d : ℕ) (cs : List ℕ) (k t : ℕ) → ev (upper_lists d cs k) t ≡ odd_sum d cs k t (2 ^ 53 + t)
upper_lists_lem d [] k t = refl
upper_lists_lem d (c ∷ cs) k t =
    plus_is (times c (product (single k) (shift (2 ^ 53) (single (d - k))))) (upper_lists d cs (suc (suc k))) t
    ∙ (λ i. (times_is c (product (single k) (shift (2 ^ 53) (single (d - k)))) t ∙ ap (λ (z : ℕ). c * z) (product_is (single k) (shift (2 ^ 53) (single (d - k))) t ∙ (λ j. single_is k t j * moved_is (2 ^ 53) (d - k) t j))) i + upper_lists_lem d cs (suc (suc k)) t i)

upper_list : upper_lists 39 log_factors 1 ≡ homogeneous (2 ^ 53) upper
upper_list = refl

pub upper_is : (t : ℕ) → ev (homogeneous (2 ^ 53) upper) t ≡ log_series t (2 ^ 53 + t)
upper_is t = ap (λ (p : List ℕ). ev p t) (sym upper_list) ∙ upper_lists_lem 39 log_factors 1 t

-- ---- from 1 / 2 to 1: a is 2 ^ 52 - t and b is 3 * 2 ^ 52 + t; the powers of a are even terms less odd ones

abbrev lower_lists : Bool → ℕ → List ℕ → ℕ → List ℕ
lower_lists s d [] k = []
lower_lists s d (c ∷ cs) k = plus (times c (product (part s (shift (2 ^ 52) (single k))) (shift (3 * 2 ^ 52) (single (d - k))))) (lower_lists s d cs (suc (suc k)))

lower_list : (s : Bool) (d c : ℕ) (cs : List ℕ) (k t : ℕ) → ev (lower_lists s d (c ∷ cs) k) t ≡ c * (ev (part s (shift (2 ^ 52) (single k))) t * (3 * 2 ^ 52 + t) ^ (d - k)) + ev (lower_lists s d cs (suc (suc k))) t
lower_list s d c cs k t =
    plus_is (times c (product (part s (shift (2 ^ 52) (single k))) (shift (3 * 2 ^ 52) (single (d - k))))) (lower_lists s d cs (suc (suc k))) t
    ∙ ap (λ (z : ℕ). z + ev (lower_lists s d cs (suc (suc k))) t) (times_is c (product (part s (shift (2 ^ 52) (single k))) (shift (3 * 2 ^ 52) (single (d - k)))) t ∙ ap (λ (z : ℕ). c * z) (product_is (part s (shift (2 ^ 52) (single k))) (shift (3 * 2 ^ 52) (single (d - k))) t ∙ ap (λ (z : ℕ). ev (part s (shift (2 ^ 52) (single k))) t * z) (moved_is (3 * 2 ^ 52) (d - k) t)))

lower_lists_lem : (d : ℕ) (cs : List ℕ) (k a t : ℕ) → a + t ≡ 2 ^ 52 → ev (lower_lists true d cs k) t ≡ ev (lower_lists false d cs k) t + odd_sum d cs k a (3 * 2 ^ 52 + t)
lower_lists_lem d [] k a t e = refl
lower_lists_lem d (c ∷ cs) k a t e =
    let B = (3 * 2 ^ 52 + t) ^ (d - k) in
    lower_list true d c cs k t
    ∙ step c (ev (part true (shift (2 ^ 52) (single k))) t) (ev (part false (shift (2 ^ 52) (single k))) t) (a ^ k) B (ev (lower_lists true d cs (suc (suc k))) t) (ev (lower_lists false d cs (suc (suc k))) t) (odd_sum d cs (suc (suc k)) a (3 * 2 ^ 52 + t))
    (ap (λ (z : ℕ). z + ev (part false (shift (2 ^ 52) (single k))) t) (sym (single_is k a)) ∙ below_centre (2 ^ 52) (single k) a t e) (lower_lists_lem d cs (suc (suc k)) a t e)
    ∙ ap (λ (z : ℕ). z + (c * (a ^ k * B) + odd_sum d cs (suc (suc k)) a (3 * 2 ^ 52 + t))) (sym (lower_list false d c cs k t))
  where
    step : (c x y p B u v w : ℕ) → p + y ≡ x → u ≡ v + w → c * (x * B) + u ≡ c * (y * B) + v + (c * (p * B) + w)
    step c x y p B u v w e f = omega (arith, ap (λ (z : ℕ). c * z * B) e)

-- what both have in common is left out of the tests' lists
lower_same : plus (lower_lists true 39 log_factors 1) (homogeneous (2 ^ 52) lower_taking) ≡ plus (lower_lists false 39 log_factors 1) (homogeneous (2 ^ 52) lower_adding)
lower_same = refl

pub lower_is : (a t : ℕ) → a + t ≡ 2 ^ 52 → ev (homogeneous (2 ^ 52) lower_adding) t ≡ ev (homogeneous (2 ^ 52) lower_taking) t + log_series a (3 * 2 ^ 52 + t)
lower_is a t e =
    cancel (ev (lower_lists true 39 log_factors 1) t) (ev (lower_lists false 39 log_factors 1) t) (ev (homogeneous (2 ^ 52) lower_adding) t) (ev (homogeneous (2 ^ 52) lower_taking) t) (log_series a (3 * 2 ^ 52 + t)) (lower_lists_lem 39 log_factors 1 a t e)
    (sym (plus_is (lower_lists true 39 log_factors 1) (homogeneous (2 ^ 52) lower_taking) t) ∙ ap (λ (p : List ℕ). ev p t) lower_same ∙ plus_is (lower_lists false 39 log_factors 1) (homogeneous (2 ^ 52) lower_adding) t)
  where
    cancel : (T F A O S : ℕ) → T ≡ F + S → T + O ≡ F + A → A ≡ O + S
    cancel T F A O S e f = omega arith

-- ---- both a and b times m

powers : (a b m k n l : ℕ) → k + n ≡ l → (a * m) ^ k * (b * m) ^ n ≡ m ^ l * (a ^ k * b ^ n)
powers a b m k n l e =
    (λ i. mul_pow a m k i * mul_pow b m n i) ∙ regroup (a ^ k) (m ^ k) (b ^ n) (m ^ n) (m ^ l) (sym (pow-add m k n) ∙ ap (λ (z : ℕ). m ^ z) e)
  where
    regroup : (x u y v w : ℕ) → u * v ≡ w → x * u * (y * v) ≡ w * (x * y)
    regroup x u y v w e = omega (arith, ap (λ (z : ℕ). x * y * z) e)

-- no power is above d
abbrev fitting : ℕ → List ℕ → ℕ → Bool
fitting d [] k = true
fitting d (c ∷ cs) k = leb k d && fitting d cs (suc (suc k))

odd_scaled : (d : ℕ) (cs : List ℕ) (k a b m : ℕ) → T (fitting d cs k) → odd_sum d cs k (a * m) (b * m) ≡ m ^ d * odd_sum d cs k a b
odd_scaled d [] k a b m t = none (m ^ d)
  where
    none : (x : ℕ) → 0 ≡ x * 0
    none x = omega arith
odd_scaled d (c ∷ cs) k a b m t =
    step c ((a * m) ^ k * (b * m) ^ (d - k)) (a ^ k * b ^ (d - k)) (m ^ d) (odd_sum d cs (suc (suc k)) (a * m) (b * m)) (odd_sum d cs (suc (suc k)) a b)
    (powers a b m k (d - k) d (meets k (leb→le k d (and_l (leb k d) (fitting d cs (suc (suc k))) t)))) (odd_scaled d cs (suc (suc k)) a b m (and_r (leb k d) (fitting d cs (suc (suc k))) t))
  where
    meets : (k : ℕ) → k ≤ d → k + (d - k) ≡ d
    meets k h = omega arith

    step : (c x y M u v : ℕ) → x ≡ M * y → u ≡ M * v → c * x + u ≡ M * (c * y + v)
    step c x y M u v e f = omega (arith, ap (λ (z : ℕ). c * z) e)

pub series_scaled : (a b m : ℕ) → log_series (a * m) (b * m) ≡ m ^ 39 * log_series a b
series_scaled a b m = odd_scaled 39 log_factors 1 a b m tt

-- the same fraction by another numerator and denominator
pub near_scaled : (p n a b m : ℕ) → 0 < m → NearLog p n (a * m) (b * m) → NearLog p n a b
near_scaled p n a b m h x =
    let e = series_scaled a b m in
    let f : (b * m) ^ 39 ≡ b ^ 39 * m ^ 39 = mul_pow b m 39 in
    record {
      above = le_of_mul-le-mul_left (up (m ^ 39) (log_series a b) (b ^ 39) (log_series (a * m) (b * m)) ((b * m) ^ 39) e f x.above) (pow_positive m 39 h);
      under = le_of_mul-le-mul_left (low (m ^ 39) (log_series a b) (b ^ 39) (log_series (a * m) (b * m)) ((b * m) ^ 39) e f x.under) (pow_positive m 39 h);
    }
  where
    up : (M S B S' B' : ℕ) → S' ≡ M * S → B' ≡ B * M → 2 ^ 53 * S' + n * (166966608033225 * B') ≤ (p + 512) * (166966608033225 * B') → M * (2 ^ 53 * S + n * (166966608033225 * B)) ≤ M * ((p + 512) * (166966608033225 * B))
    up M S B S' B' e f h = omega (arith, ap (λ (z : ℕ). n * z) f, ap (λ (z : ℕ). p * z) f)

    low : (M S B S' B' : ℕ) → S' ≡ M * S → B' ≡ B * M → p * (166966608033225 * B') ≤ 2 ^ 53 * S' + (n + 512) * (166966608033225 * B') → M * (p * (166966608033225 * B)) ≤ M * (2 ^ 53 * S + (n + 512) * (166966608033225 * B))
    low M S B S' B' e f h = omega (arith, ap (λ (z : ℕ). n * z) f, ap (λ (z : ℕ). p * z) f)
