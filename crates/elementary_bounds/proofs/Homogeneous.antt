-- Series at a fraction u / D: the coefficients over the powers of D. For any number of terms. Assumes nothing.
use mathlib.Core.Path.{◌≡◌, refl, sym, ap, ◌∙◌, subst}
use mathlib.Core.List.{List, [], ◌∷◌}
use Prim.Native.Nat.{ℕ, zero, suc, ◌+◌, ◌*◌, ◌^◌, ◌≤◌, ◌<◌}
use native.Mathlib.Omega.{arith}
use native.Mathlib.Nat.{mul-le-mul_left, mul-le-mul_right, pow-zero, pow-succ', le_trans, le_of_eq, le_of_mul-le-mul_left, eq_of_mul-eq-mul_right, mul_comm, mul-pos}
use lib.Dec.{lit<}
use lib.ListN.{length}
use Rattle.elementary_bounds.proofs.Series.{slope, nearby, upward}
use Rattle.elementary_bounds.specs.Series.{ev, homogeneous}

pub mul_pow : (D k l : ℕ) → (D * k) ^ l ≡ D ^ l * k ^ l
mul_pow D k zero = pow-zero (D * k) ∙ sym (omega (arith, pow-zero D, pow-zero k, ap (λ (z : ℕ). z * k ^ 0) (pow-zero D)))
mul_pow D k (suc l) = step D k (D ^ l) (k ^ l) ((D * k) ^ l) ((D * k) ^ suc l) (D ^ suc l) (k ^ suc l) (pow-succ' (D * k) l) (pow-succ' D l) (pow-succ' k l) (mul_pow D k l)
  where
    step : (D k A K B B' A' K' : ℕ) → B' ≡ D * k * B → A' ≡ D * A → K' ≡ k * K → B ≡ A * K → B' ≡ A' * K'
    step D k A K B B' A' K' e f g h = omega (arith, ap (λ (z : ℕ). D * k * z) h, ap (λ (z : ℕ). z * K') f, ap (λ (z : ℕ). D * A * z) g)

pub pow_positive : (m k : ℕ) → 0 < m → 0 < m ^ k
pow_positive m zero h = subst (λ (z : ℕ). 0 < z) (sym (pow-zero m)) (lit< {m = 0} {n = 1} tt)
pow_positive m (suc k) h = subst (λ (z : ℕ). 0 < z) (sym (pow-succ' m k)) (mul-pos h (pow_positive m k h))

-- both parts of the fraction times k
pub scale_is : (D k : ℕ) (p : List ℕ) (u : ℕ) → ev (homogeneous (D * k) p) (u * k) * k ≡ k ^ length p * ev (homogeneous D p) u
scale_is D k [] u = omega arith
scale_is D k (a ∷ p) u =
    step a (D ^ length p) (k ^ length p) k u (ev (homogeneous (D * k) p) (u * k)) (ev (homogeneous D p) u) ((D * k) ^ length p) (k ^ suc (length p)) (mul_pow D k (length p)) (pow-succ' k (length p)) (scale_is D k p u)
  where
    step : (a A K k u x y B C : ℕ) → B ≡ A * K → C ≡ k * K → x * k ≡ K * y → (a * B + u * k * x) * k ≡ C * (a * A + u * y)
    step a A K k u x y B C e f g = omega (arith, ap (λ (z : ℕ). a * z * k) e, ap (λ (z : ℕ). z * (a * A + u * y)) f, ap (λ (z : ℕ). u * k * z) g)

-- the sum of the coefficients, and that of each times its place
abbrev pub total : List ℕ → ℕ
total [] = 0
total (a ∷ p) = a + total p

abbrev pub rank : List ℕ → ℕ
rank [] = 0
rank (a ∷ p) = total p + rank p

at_one : (w : ℕ) (p : List ℕ) → ev (homogeneous w p) w * w ≡ total p * w ^ length p
at_one w [] = omega arith
at_one w (a ∷ p) = step a w (ev (homogeneous w p) w) (total p) (w ^ length p) (w ^ suc (length p)) (pow-succ' w (length p)) (at_one w p)
  where
    step : (a w x t K C : ℕ) → C ≡ w * K → x * w ≡ t * K → (a * K + w * x) * w ≡ (a + t) * C
    step a w x t K C e f = omega (arith, ap (λ (z : ℕ). (a + t) * z) e, ap (λ (z : ℕ). w * z) f)

slope_is : (w : ℕ) (p : List ℕ) → slope (homogeneous w p) w * (w * w) ≡ rank p * w ^ length p
slope_is w [] = omega arith
slope_is w (a ∷ p) = step w (ev (homogeneous w p) w) (slope (homogeneous w p) w) (total p) (rank p) (w ^ length p) (w ^ suc (length p)) (pow-succ' w (length p)) (at_one w p) (slope_is w p)
  where
    step : (w x s t r K C : ℕ) → C ≡ w * K → x * w ≡ t * K → s * (w * w) ≡ r * K → (x + w * s) * (w * w) ≡ (t + r) * C
    step w x s t r K C e f g = omega (arith, ap (λ (z : ℕ). (t + r) * z) e, ap (λ (z : ℕ). w * z) f, ap (λ (z : ℕ). w * z) g)

-- ---- from m / D to n / E, where m is n / E in units of 1 / D, cut down: both by the common denominator w = D * E; for a series through the power d

module _ (D E m n r : ℕ) (Dp : 0 < D) (Ep : 0 < E) (e : m * E + r ≡ n * D) (l : r ≤ E) (h : n ≤ E) (A : List ℕ) (d : ℕ) (k : length A ≡ suc d) where
  lift : (D E u : ℕ) → 0 < E → ev (homogeneous (D * E) A) (u * E) ≡ E ^ d * ev (homogeneous D A) u
  lift D E u p =
      eq_of_mul-eq-mul_right E p (ev (homogeneous (D * E) A) (u * E)) (E ^ d * ev (homogeneous D A) u)
      (scale_is D E A u ∙ ap (λ (z : ℕ). E ^ z * ev (homogeneous D A) u) k ∙ ap (λ (z : ℕ). z * ev (homogeneous D A) u) (pow-succ' E d) ∙ regroup E (E ^ d) (ev (homogeneous D A) u))
    where
      regroup : (a b c : ℕ) → a * b * c ≡ b * c * a
      regroup a b c = omega arith

  low_end : ev (homogeneous (D * E) A) (m * E) ≡ E ^ d * ev (homogeneous D A) m
  low_end = lift D E m Ep

  high_end : ev (homogeneous (D * E) A) (m * E + r) ≡ D ^ d * ev (homogeneous E A) n
  high_end = ap (λ (z : ℕ). ev (homogeneous (D * E) A) z) e ∙ ap (λ (z : ℕ). ev (homogeneous z A) (n * D)) (mul_comm D E) ∙ lift E D n Dp

  pub moved_low : E ^ d * ev (homogeneous D A) m ≤ D ^ d * ev (homogeneous E A) n
  moved_low = subst (λ (z : ℕ). z ≤ D ^ d * ev (homogeneous E A) n) low_end (subst (λ (z : ℕ). ev (homogeneous (D * E) A) (m * E) ≤ z) high_end (upward (homogeneous (D * E) A) (m * E) r))

  -- the slope at w, times D * E
  steep : D * (r * slope (homogeneous (D * E) A) (D * E)) ≤ rank A * (D * E) ^ d
  steep =
      let w = D * E in
      let s = slope (homogeneous w A) w in
      let wp : 0 < w = mul-pos Dp Ep in
      let q : s * (w * w) ≡ rank A * w ^ suc d = slope_is w A ∙ ap (λ (z : ℕ). rank A * w ^ z) k in
      le_of_mul-le-mul_left (bound D E r s w (rank A) (w ^ d) (w ^ suc d) refl (pow-succ' w d) l q) wp
    where
      bound : (D E r s w R p p' : ℕ) → w ≡ D * E → p' ≡ w * p → r ≤ E → s * (w * w) ≡ R * p' → w * (D * (r * s)) ≤ w * (R * p)
      bound D E r s w R p p' a b l q =
          le_trans (first D E r s w a l) (le_of_eq (second s w R p p' b q))
        where
          first : (D E r s w : ℕ) → w ≡ D * E → r ≤ E → w * (D * (r * s)) ≤ s * (w * w)
          first D E r s w a l = omega (arith, mul-le-mul_left (w * D * s) l, ap (λ (z : ℕ). w * s * z) a)

          second : (s w R p p' : ℕ) → p' ≡ w * p → s * (w * w) ≡ R * p' → s * (w * w) ≡ w * (R * p)
          second s w R p p' b q = omega (arith, ap (λ (z : ℕ). R * z) b)

  pub moved_high : D * (D ^ d * ev (homogeneous E A) n) ≤ D * (E ^ d * ev (homogeneous D A) m) + rank A * (D * E) ^ d
  moved_high =
      let w = D * E in
      let b : m * E + r ≤ w = subst (λ (z : ℕ). z ≤ w) (sym e) (subst (λ (z : ℕ). n * D ≤ z) (mul_comm E D) (mul-le-mul_right D h)) in
      let y : D ^ d * ev (homogeneous E A) n ≤ E ^ d * ev (homogeneous D A) m + r * slope (homogeneous w A) w =
      subst (λ (z : ℕ). z ≤ E ^ d * ev (homogeneous D A) m + r * slope (homogeneous w A) w) high_end
      (subst (λ (z : ℕ). ev (homogeneous w A) (m * E + r) ≤ z + r * slope (homogeneous w A) w) low_end (nearby (homogeneous w A) (m * E) r w b)) in
      last D (D ^ d * ev (homogeneous E A) n) (E ^ d * ev (homogeneous D A) m) (r * slope (homogeneous w A) w) (rank A * w ^ d) y steep
    where
      last : (D a b c f : ℕ) → a ≤ b + c → D * c ≤ f → D * a ≤ D * b + f
      last D a b c f h k = omega (arith, mul-le-mul_left D h)
