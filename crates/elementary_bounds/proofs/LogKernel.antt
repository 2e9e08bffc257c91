-- The kernel of log lies near its series. Assumes nothing.
use mathlib.Core.Path.{◌≡◌, sym, ap, subst}
use mathlib.Core.List.{List, [], ◌∷◌}
use Prim.Native.Nat.{ℕ, ◌+◌, ◌*◌, ◌/◌, ◌%◌, ◌^◌, ◌≤◌, ◌<◌}
use native.Mathlib.Omega.{arith}
use native.Mathlib.Nat.{le_trans, mul-le-mul, mul-le-mul_left, mul-le-mul_right}
use lib.Dec.{leb→le}
use lib.Pow.{pow_pos, shr-shr}
use Rattle.elementary_bounds.specs.Series.{ev}
use Rattle.fixed_point.specs.Fixed.{term_of}
use Rattle.natural_logarithm.specs.Log.{log_tail, log_square, log1m_of}
use Rattle.fixed_point.proofs.Product.{below_mul}
use Rattle.elementary_bounds.proofs.Series.{times, gap, slope, dilate, Below, start, term, cut_close}
use Rattle.natural_logarithm.proofs.LogBound.{s_le, tail_le, square_le}
use Rattle.elementary_bounds.proofs.LogSeries.{tails, log1ms}

-- ---- 1 / 2 + z / 3 + .. + z ^ 5 / 7, cut down

-- the exact polynomial that log_tail cuts down, over 2 ^ 190
abbrev nests : List ℕ
nests = 4294967296 * 2 ^ 190 ∷ 2863311530 * 2 ^ 152 ∷ 2147483648 * 2 ^ 114 ∷ 1717986918 * 2 ^ 76 ∷ 1431655765 * 2 ^ 38 ∷ 1227133513 ∷ []

tail_below : (s : ℕ) → s ≤ 2355575561 → Below (log_tail s) 2 (ev nests s) (2 ^ 190)
tail_below s h =
    let b₁ = term 1431655765 (2 ^ 38) s 1227133513 0 0 1227133513 1 (pow_pos 38) (none s) (start 1227133513) in
    let b₂ = term 1717986918 (2 ^ 38) s (term_of 1431655765 38 s 1227133513) 1 1 _ _ (pow_pos 38) (omega arith) b₁ in
    let b₃ = term 2147483648 (2 ^ 38) s (term_of 1717986918 38 s (term_of 1431655765 38 s 1227133513)) 2 1 _ _ (pow_pos 38) (omega arith) b₂ in
    let b₄ = term 2863311530 (2 ^ 38) s (term_of 2147483648 38 s (term_of 1717986918 38 s (term_of 1431655765 38 s 1227133513))) 2 1 _ _ (pow_pos 38) (omega arith) b₃ in
    let b₅ = term 4294967296 (2 ^ 38) s (term_of 2863311530 38 s (term_of 2147483648 38 s (term_of 1717986918 38 s (term_of 1431655765 38 s 1227133513)))) 2 1 _ _ (pow_pos 38) (omega arith) b₄ in
    subst (λ (z : ℕ). Below (log_tail s) 2 z (2 ^ 190)) (nested s 4294967296 2863311530 2147483648 1717986918 1431655765 1227133513 (2 ^ 190) (2 ^ 152) (2 ^ 114) (2 ^ 76) (2 ^ 38)) b₅
  where
    none : (s : ℕ) → s * 0 ≤ 0 * 2 ^ 38
    none s = omega arith

    nested : (s a b c d e f m₁ m₂ m₃ m₄ m₅ : ℕ) → a * m₁ + s * (b * m₂ + s * (c * m₃ + s * (d * m₄ + s * (e * m₅ + s * f)))) ≡ ev (a * m₁ ∷ b * m₂ ∷ c * m₃ ∷ d * m₄ ∷ e * m₅ ∷ f ∷ []) s
    nested s a b c d e f m₁ m₂ m₃ m₄ m₅ = omega arith

-- Z is z in units of 2 ^ -62
module _ (Z : ℕ) (h : Z / 16 ≤ 2470000000000000) where
  abbrev z : ℕ
  z = Z / 16

  abbrev s : ℕ
  s = z / 2 ^ 20

  abbrev l : ℕ
  l = z % 2 ^ 20

  abbrev q : ℕ
  q = log_square s l

  abbrev y : ℕ
  y = log_tail s

  s_is : Z / 2 ^ 24 ≡ s
  s_is = sym (shr-shr Z 4 20)

  -- in units of 1 / 64 of tailOf's own
  tail_close : (420 * 2 ^ 271 * (64 * y) ≤ ev tails Z + 1 * (420 * 2 ^ 271)) × (ev tails Z ≤ 420 * 2 ^ 271 * (64 * y + 130))
  tail_close =
      cut_close tails nests (2 ^ 24) 2355575562 (420 * 2 ^ 271) 64 (2 ^ 190) 2 1 1 y Z (pow_pos 24) (pow_pos 190) (small Z h)
      (subst (λ (u : ℕ). Below y 2 (ev nests u) (2 ^ 190)) (sym s_is) (tail_below s (s_le z h)))
      (leb→le (gap (times (2 ^ 190) (dilate (2 ^ 24) 1 tails)) (times (420 * 2 ^ 271 * 64) nests) 2355575562) (2 ^ 190 * (1 * (420 * 2 ^ 271))) tt)
      (leb→le (2 ^ 24 * slope tails (2355575562 * 2 ^ 24)) (1 * (420 * 2 ^ 271)) tt)
    where
      small : (Z : ℕ) → Z / 16 ≤ 2470000000000000 → Z < 2355575562 * 2 ^ 24
      small Z h = omega arith

  -- ---- the square

  z_is : Z ≡ 16 * z + Z % 16
  z_is = split Z
    where
      split : (Z : ℕ) → Z ≡ 16 * (Z / 16) + Z % 16
      split Z = omega arith

  zs_is : z ≡ 2 ^ 20 * s + l
  zs_is = split z
    where
      split : (z : ℕ) → z ≡ 2 ^ 20 * (z / 2 ^ 20) + z % 2 ^ 20
      split z = omega arith

  square_of : (z s l : ℕ) → z ≡ 2 ^ 20 * s + l → z * z ≡ 2 ^ 40 * (s * s) + 2 ^ 21 * (s * l) + l * l
  square_of z s l e = omega (arith, ap (λ (u : ℕ). z * u) e, ap (λ (u : ℕ). u * (2 ^ 20 * s + l)) e)

  nest : (a b : ℕ) → ((a + b / 2 ^ 19) / 2 ^ 31 * 2 ^ 50 ≤ 2 ^ 19 * a + b) × (2 ^ 19 * a + b ≤ (a + b / 2 ^ 19) / 2 ^ 31 * 2 ^ 50 + 2 ^ 50)
  nest a b = (omega arith, omega arith)

  square_low : q * 2 ^ 79 ≤ Z * Z
  square_low = go Z z (Z % 16) q (s * s) (s * l) (l * l) z_is (square_of z s l zs_is) (nest (s * s) (s * l)).0 (mul-le-mul (low Z) (low Z))
    where
      low : (Z : ℕ) → 16 * (Z / 16) ≤ Z
      low Z = omega arith

      go : (Z z r q a b c : ℕ) → Z ≡ 16 * z + r → z * z ≡ 2 ^ 40 * a + 2 ^ 21 * b + c → q * 2 ^ 50 ≤ 2 ^ 19 * a + b → 16 * z * (16 * z) ≤ Z * Z → q * 2 ^ 79 ≤ Z * Z
      go Z z r q a b c e f g k = omega arith

  square_up : Z * Z ≤ (131072 * q + 131073) * 2 ^ 62
  square_up = le_trans (mul-le-mul (top Z) (top Z)) (go z q (s * s) (s * l) (l * l) (square_of z s l zs_is) (nest (s * s) (s * l)).1 (below_mul (2 ^ 20) (2 ^ 20) (rest z) (rest z)) h)
    where
      top : (Z : ℕ) → Z ≤ 16 * (Z / 16) + 16
      top Z = omega arith

      rest : (z : ℕ) → z % 2 ^ 20 ≤ 2 ^ 20
      rest z = omega arith

      go : (z q a b c : ℕ) → z * z ≡ 2 ^ 40 * a + 2 ^ 21 * b + c → 2 ^ 19 * a + b ≤ q * 2 ^ 50 + 2 ^ 50 → c ≤ 2 ^ 20 * 2 ^ 20 → z ≤ 2470000000000000 → (16 * z + 16) * (16 * z + 16) ≤ (131072 * q + 131073) * 2 ^ 62
      go z q a b c f g i k = omega arith

  -- ---- both, over 420 * 2 ^ 376, and then over 420 * 2 ^ 434

  pub log1m_close : (420 * 2 ^ 434 * log1m_of z ≤ 2 ^ 58 * ev log1ms Z + 39 * (420 * 2 ^ 434)) × (2 ^ 58 * ev log1ms Z ≤ 420 * 2 ^ 434 * (log1m_of z + 9140))
  log1m_close =
      let F = q * y / 2 ^ 20 in
      let X = ev tails Z in (
        lift_low (2 ^ 58) (420 * 2 ^ 376) (log1m_of z) (ev log1ms Z)
            (low_end (420 * 2 ^ 350) Z z q y F X (cut (q * y)).0 (first_low Z) (low_product (420 * 2 ^ 271) (2 ^ 79) Z q y X square_low tail_close.0) (square_le z h)),
        lift_top (2 ^ 58) (420 * 2 ^ 376) (log1m_of z) (ev log1ms Z)
            (top_end (420 * 2 ^ 333) Z z q y F X (cut (q * y)).1 (first_top Z) (top_product (420 * 2 ^ 271) (2 ^ 62) Z q y X square_up tail_close.1) (square_le z h) (tail_le s (s_le z h))),
      )
    where
      cut : (x : ℕ) → (x / 2 ^ 20 * 2 ^ 20 ≤ x) × (x ≤ x / 2 ^ 20 * 2 ^ 20 + 2 ^ 20)
      cut x = (omega arith, omega arith)

      first_low : (Z : ℕ) → 16 * (Z / 16) ≤ Z
      first_low Z = omega arith

      first_top : (Z : ℕ) → Z ≤ 16 * (Z / 16) + 16
      first_top Z = omega arith

      lift_low : (K A w Q : ℕ) → A * w ≤ Q + 39 * A → K * A * w ≤ K * Q + 39 * (K * A)
      lift_low K A w Q h = omega (arith, mul-le-mul_left K h)

      lift_top : (K A w Q : ℕ) → Q ≤ A * (w + 9140) → K * Q ≤ K * A * (w + 9140)
      lift_top K A w Q h = omega (arith, mul-le-mul_left K h)

      low_product : (G P Z k v X : ℕ) → k * P ≤ Z * Z → G * (64 * v) ≤ X + 1 * G → 64 * (k * v * (P * G)) ≤ Z * Z * X + k * (P * G)
      low_product G P Z k v X a b = omega (arith, mul-le-mul_left (k * P) b, mul-le-mul_right X a)

      top_product : (G P Z k v X : ℕ) → Z * Z ≤ (131072 * k + 131073) * P → X ≤ G * (64 * v + 130) → Z * Z * X ≤ (131072 * k + 131073) * (64 * v + 130) * (P * G)
      top_product G P Z k v X a b = le_trans (mul-le-mul a b) (regroup (131072 * k + 131073) P G (64 * v + 130))
        where
          regroup : (u P G w : ℕ) → u * P * (G * w) ≤ u * w * (P * G)
          regroup u P G w = omega arith

      low_end : (N Z d k v F X : ℕ) → F * 2 ^ 20 ≤ k * v → 16 * d ≤ Z → 64 * (k * v * N) ≤ Z * Z * X + k * N → k ≤ 2584000000
          → 2 ^ 26 * N * (d + F) ≤ 0 + Z * (2 ^ 22 * N + Z * X) + 39 * (2 ^ 26 * N)
      low_end N Z d k v F X a b c e = omega (arith, mul-le-mul_left N a, mul-le-mul_left N b, mul-le-mul_left N e)

      top_end : (N Z d k v F X : ℕ) → k * v ≤ F * 2 ^ 20 + 2 ^ 20 → Z ≤ 16 * d + 16 → Z * Z * X ≤ (131072 * k + 131073) * (64 * v + 130) * N → k ≤ 2584000000 → v ≤ 4330000000
          → 0 + Z * (2 ^ 39 * N + Z * X) ≤ 2 ^ 43 * N * (d + F + 9140)
      top_end N Z d k v F X a b c e f = omega (arith, mul-le-mul_left N a, mul-le-mul_left N b, mul-le-mul_left N e, mul-le-mul_left N f)
