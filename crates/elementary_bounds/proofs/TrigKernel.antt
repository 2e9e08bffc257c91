-- The kernels of sin and cos lie near their power series. W stands for 20! * D ^ 20 and L for 20! * D ^ 19, with D = 2 ^ 58. Assumes nothing.
use mathlib.Core.Path.{◌≡◌, refl, sym, ap, ◌∙◌, subst}
use mathlib.Core.List.{[], ◌∷◌}
use Prim.Native.Nat.{ℕ, ◌+◌, ◌-◌, ◌*◌, ◌/◌, ◌%◌, ◌^◌, ◌≤◌, ◌<◌}
use native.Mathlib.Omega.{arith}
use native.Mathlib.Nat.{le_trans, le_of_lt, mul-le-mul, mul-le-mul_left, div-add-mod', mod-lt, zero-add, le-add_right}
use lib.Dec.{T, leb→le}
use lib.ListN.{get_or}
use lib.Pow.{pow_pos, shr-shr}
use Rattle.elementary_bounds.specs.Series.{ev, homogeneous, sin_adding, sin_taking, cos_adding, cos_taking}
use Rattle.circular_tables.specs.Tables.{sines, cosines}
use Rattle.circular_functions.specs.Trig.{circular_square, cube_of, fourth_of, sine_cubic, versine_of, scaling_of, decrement_of, sine_from, cosine_from, sine_of, cosine_of}
use Rattle.elementary_bounds.proofs.Series.{times, gap, slope, dilate, Below, start, factor, product_cut, cut_close}
use Rattle.elementary_bounds.proofs.Nearness.{whole, slice, Kernel}
use Rattle.circular_functions.proofs.TrigBound.{sines_le, sines_less, cosines_le, cosines_ge, s_le, square_le, cube_le, fourth_le, cubic_le, versine_le, scaling_le, decrement_le, decrement_less}
use Rattle.elementary_bounds.proofs.TrigSeries.{second, third, fourth, sine_adds, sine_takes, cosine_adds, cosine_takes, sine_fits, cosine_fits}

-- ---- the powers of d, each cut down

module _ (d : ℕ) (h : d < 2 ^ 50) where
  abbrev s : ℕ
  s = d / 2 ^ 18

  square_below : Below (circular_square s) 1 (s * s) (2 ^ 32)
  square_below = factor (2 ^ 32) s s 0 0 s 1 (pow_pos 32) (none s) (start s)
    where
      none : (s : ℕ) → s * 0 ≤ 0 * 2 ^ 32
      none s = omega arith

  cube_below : Below (cube_of s) 9 (s * (715827883 * (s * s))) (2 ^ 94)
  cube_below =
      factor (2 ^ 30) s (715827883 * circular_square s / 2 ^ 32) 2 8 (715827883 * (s * s)) (2 ^ 64) (pow_pos 30) (omega (arith, s_le d h))
      (factor (2 ^ 32) 715827883 (circular_square s) 1 1 (s * s) (2 ^ 32) (pow_pos 32) (leb→le (715827883 * 1) (1 * 2 ^ 32) tt) square_below)

  fourth_below : Below (fourth_of (circular_square s)) 2 (s * s * (178956971 * (s * s))) (2 ^ 143)
  fourth_below =
      let q = circular_square s in
      let k = 178956971 * q / 2 ^ 40 in
      product_cut q k 2 (178956971 * (s * s)) (2 ^ 72) (s * s) (2 ^ 32) (2 ^ 39) 1 (pow_pos 39) square_below (factor (2 ^ 40) 178956971 q 1 1 (s * s) (2 ^ 32) (pow_pos 40) (leb→le (178956971 * 1) (1 * 2 ^ 40) tt) square_below)
      (small q (square_le d h))
    where
      small : (q : ℕ) → q ≤ 4294967295 → q * 2 + 178956971 * q / 2 ^ 40 + 2 ≤ 1 * 2 ^ 39
      small q h = omega arith

  -- ---- and against the series' own terms

  abbrev squared : ℕ
  squared = ev (0 ∷ 0 ∷ second ∷ []) d

  abbrev cubed : ℕ
  cubed = ev (0 ∷ 0 ∷ 0 ∷ third ∷ []) d

  abbrev raised : ℕ
  raised = ev (0 ∷ 0 ∷ 0 ∷ 0 ∷ fourth ∷ []) d

  square_close : (slice * (512 * circular_square s) ≤ squared + 0 * slice) × (squared ≤ slice * (512 * circular_square s + (512 * 1 + 0 + 1024)))
  square_close =
      cut_close (0 ∷ 0 ∷ second ∷ []) (0 ∷ 0 ∷ 1 ∷ []) (2 ^ 18) (2 ^ 32) slice 512 (2 ^ 32) 1 0 1024 (circular_square s) d (pow_pos 18) (pow_pos 32) h
      (subst (λ (z : ℕ). Below (circular_square s) 1 z (2 ^ 32)) (power s) square_below)
      (leb→le (gap (times (2 ^ 32) (dilate (2 ^ 18) 1 (0 ∷ 0 ∷ second ∷ []))) (times (slice * 512) (0 ∷ 0 ∷ 1 ∷ [])) (2 ^ 32)) (2 ^ 32 * (0 * slice)) tt)
      (leb→le (2 ^ 18 * slope (0 ∷ 0 ∷ second ∷ []) (2 ^ 50)) (1024 * slice) tt)
    where
      power : (s : ℕ) → s * s ≡ ev (0 ∷ 0 ∷ 1 ∷ []) s
      power s = omega arith

  cube_close : (slice * (1 * cube_of s) ≤ cubed + 2 * slice) × (cubed ≤ slice * (1 * cube_of s + (1 * 9 + 2 + 2)))
  cube_close =
      cut_close (0 ∷ 0 ∷ 0 ∷ third ∷ []) (0 ∷ 0 ∷ 0 ∷ 715827883 ∷ []) (2 ^ 18) (2 ^ 32) slice 1 (2 ^ 94) 9 2 2 (cube_of s) d (pow_pos 18) (pow_pos 94) h
      (subst (λ (z : ℕ). Below (cube_of s) 9 z (2 ^ 94)) (power s) cube_below)
      (leb→le (gap (times (2 ^ 94) (dilate (2 ^ 18) 1 (0 ∷ 0 ∷ 0 ∷ third ∷ []))) (times (slice * 1) (0 ∷ 0 ∷ 0 ∷ 715827883 ∷ [])) (2 ^ 32)) (2 ^ 94 * (2 * slice)) tt)
      (leb→le (2 ^ 18 * slope (0 ∷ 0 ∷ 0 ∷ third ∷ []) (2 ^ 50)) (2 * slice) tt)
    where
      power : (s : ℕ) → s * (715827883 * (s * s)) ≡ ev (0 ∷ 0 ∷ 0 ∷ 715827883 ∷ []) s
      power s = omega arith

  fourth_close : (slice * (512 * fourth_of (circular_square s)) ≤ raised + 1 * slice) × (raised ≤ slice * (512 * fourth_of (circular_square s) + (512 * 2 + 1 + 1)))
  fourth_close =
      cut_close (0 ∷ 0 ∷ 0 ∷ 0 ∷ fourth ∷ []) (0 ∷ 0 ∷ 0 ∷ 0 ∷ 178956971 ∷ []) (2 ^ 18) (2 ^ 32) slice 512 (2 ^ 143) 2 1 1 (fourth_of (circular_square s)) d (pow_pos 18) (pow_pos 143) h
      (subst (λ (z : ℕ). Below (fourth_of (circular_square s)) 2 z (2 ^ 143)) (power s) fourth_below)
      (leb→le (gap (times (2 ^ 143) (dilate (2 ^ 18) 1 (0 ∷ 0 ∷ 0 ∷ 0 ∷ fourth ∷ []))) (times (slice * 512) (0 ∷ 0 ∷ 0 ∷ 0 ∷ 178956971 ∷ [])) (2 ^ 32)) (2 ^ 143 * (1 * slice)) tt)
      (leb→le (2 ^ 18 * slope (0 ∷ 0 ∷ 0 ∷ 0 ∷ fourth ∷ []) (2 ^ 50)) (1 * slice) tt)
    where
      power : (s : ℕ) → s * s * (178956971 * (s * s)) ≡ ev (0 ∷ 0 ∷ 0 ∷ 0 ∷ 178956971 ∷ []) s
      power s = omega arith

-- ---- the products with a table's entry

-- a * g, for g in units of 2 ^ -58 that is cut to 2 ^ -50
scaling_close : (a g : ℕ) → a ≤ 2 ^ 58 → g / 2 ^ 8 ≤ 2 ^ 42 → (scaling_of a (g / 2 ^ 8) * 2 ^ 58 ≤ a * g) × (a * g ≤ (scaling_of a (g / 2 ^ 8) + 513) * 2 ^ 58)
scaling_close a g h k =
    let p = g / 2 ^ 8 in
    let C = a / 2 ^ 16 in
    let u = a / 2 ^ 38 in
    let v = a / 2 ^ 16 % 2 ^ 22 in
    let e : u * 2 ^ 22 + v ≡ C = ap (λ (z : ℕ). z * 2 ^ 22 + v) (sym (shr-shr a 16 22)) ∙ div-add-mod' C (2 ^ 22) in
    let n = nest (p * u) (p * v) in
    let f = whole_product p C u v e in
    let c = sym (div-add-mod' a (2 ^ 16)) in
    let d = sym (div-add-mod' g (2 ^ 8)) in (
      low a g (scaling_of a p) p C (a % 2 ^ 16) (g % 2 ^ 8) (p * u * 2 ^ 22 + p * v) n.0 f c d,
      top a g (scaling_of a p) p C (a % 2 ^ 16) (g % 2 ^ 8) (p * u * 2 ^ 22 + p * v) n.1 f c d (mul-le-mul {n₂ = 2 ^ 42} {m₂ = 2 ^ 16} k (le_of_lt (mod-lt a (pow_pos 16)))) (mul-le-mul {n₂ = 2 ^ 58} {m₂ = 2 ^ 8} h (le_of_lt (mod-lt g (pow_pos 8)))),
    )
  where
    nest : (x y : ℕ) → ((x + y / 2 ^ 22) / 2 ^ 12 * 2 ^ 34 ≤ x * 2 ^ 22 + y) × (x * 2 ^ 22 + y < (x + y / 2 ^ 22) / 2 ^ 12 * 2 ^ 34 + 2 ^ 34)
    nest x y = (omega arith, omega arith)

    whole_product : (p C u v : ℕ) → u * 2 ^ 22 + v ≡ C → p * u * 2 ^ 22 + p * v ≡ p * C
    whole_product p C u v e = omega (arith, ap (λ (z : ℕ). p * z) e)

    expand : (a g p C r t : ℕ) → a ≡ C * 2 ^ 16 + r → g ≡ p * 2 ^ 8 + t → a * g ≡ p * C * 2 ^ 24 + p * r * 2 ^ 8 + a * t
    expand a g p C r t c d = omega (arith, ap (λ (z : ℕ). a * z) d, ap (λ (z : ℕ). z * p) c)

    low : (a g F p C r t N : ℕ) → F * 2 ^ 34 ≤ N → N ≡ p * C → a ≡ C * 2 ^ 16 + r → g ≡ p * 2 ^ 8 + t → F * 2 ^ 58 ≤ a * g
    low a g F p C r t N n f c d = omega (arith, expand a g p C r t c d)

    top : (a g F p C r t N : ℕ) → N < F * 2 ^ 34 + 2 ^ 34 → N ≡ p * C → a ≡ C * 2 ^ 16 + r → g ≡ p * 2 ^ 8 + t → p * r ≤ 2 ^ 42 * 2 ^ 16 → a * t ≤ 2 ^ 58 * 2 ^ 8 → a * g ≤ (F + 513) * 2 ^ 58
    top a g F p C r t N n f c d i j = omega (arith, expand a g p C r t c d)

-- a * 512 * e
decrement_close : (a e : ℕ) → e ≤ 2 ^ 32 → (decrement_of a e * 2 ^ 58 ≤ a * (512 * e)) × (a * (512 * e) ≤ (decrement_of a e + 1025) * 2 ^ 58)
decrement_close a e k =
    let A = a / 2 ^ 27 in
    let r = a % 2 ^ 27 in
    let c : a ≡ A * 2 ^ 27 + r = sym (div-add-mod' a (2 ^ 27)) in
    let n = cut (e * A) in
    (low a e A r (e * A) (decrement_of a e) n.0 refl c, top a e A r (e * A) (decrement_of a e) n.1 refl c (mul-le-mul {n₂ = 2 ^ 32} {m₂ = 2 ^ 27} k (le_of_lt (mod-lt a (pow_pos 27)))))
  where
    cut : (x : ℕ) → (x / 2 ^ 22 * 2 ^ 22 ≤ x) × (x < x / 2 ^ 22 * 2 ^ 22 + 2 ^ 22)
    cut x = (omega arith, omega arith)

    low : (a e A r x F : ℕ) → F * 2 ^ 22 ≤ x → x ≡ e * A → a ≡ A * 2 ^ 27 + r → F * 2 ^ 58 ≤ a * (512 * e)
    low a e A r x F h d c = omega (arith, ap (λ (z : ℕ). z * e) c)

    top : (a e A r x F : ℕ) → x < F * 2 ^ 22 + 2 ^ 22 → x ≡ e * A → a ≡ A * 2 ^ 27 + r → e * r ≤ 2 ^ 32 * 2 ^ 27 → a * (512 * e) ≤ (F + 1025) * 2 ^ 58
    top a e A r x F h d c i = omega (arith, ap (λ (z : ℕ). z * e) c)

-- ---- the pieces over L. X is D; g is the cubic, and y what the cube takes off d; e is the versine, q the square and v the fourth power

module _ (X L : ℕ) where
  cubic_up : (b g y d x : ℕ) → x * X ≤ b * g → g + y ≡ d → x * (L * X) + b * (L * y) ≤ b * (L * d)
  cubic_up b g y d x f i = omega (arith, ap (λ (u : ℕ). b * L * u) i, mul-le-mul_left L f)

  cubic_low : (b g y d x : ℕ) → b * g ≤ (x + 513) * X → g + y ≡ d → b * (L * d) ≤ x * (L * X) + 513 * (L * X) + b * (L * y)
  cubic_low b g y d x f i = omega (arith, ap (λ (u : ℕ). b * L * u) i, mul-le-mul_left L f)

  versine_up : (a e v q z : ℕ) → a * (512 * e) ≤ (z + 1025) * X → e + v ≡ q → a * (L * (512 * q)) ≤ z * (L * X) + 1025 * (L * X) + a * (L * (512 * v))
  versine_up a e v q z f i = omega (arith, ap (λ (u : ℕ). a * L * u) i, mul-le-mul_left L f)

  versine_low : (a e v q z : ℕ) → z * X ≤ a * (512 * e) → e + v ≡ q → z * (L * X) + a * (L * (512 * v)) ≤ a * (L * (512 * q))
  versine_low a e v q z f i = omega (arith, ap (λ (u : ℕ). a * L * u) i, mul-le-mul_left L f)

  -- a power of d times an entry
  entry_up : (a P y E : ℕ) → a ≤ X → P ≤ L * (y + E) → a * P ≤ a * (L * y) + E * (L * X)
  entry_up a P y E h f = omega (arith, mul-le-mul_left a f, mul-le-mul_left (L * E) h)

  entry_low : (a P y E : ℕ) → a ≤ X → L * y ≤ P + E * L → a * (L * y) ≤ a * P + E * (L * X)
  entry_low a P y E h f = omega (arith, mul-le-mul_left a f, mul-le-mul_left (L * E) h)

  sum : (K z a x : ℕ) → K + z ≡ a + x → K * (L * X) + z * (L * X) ≡ a * (L * X) + x * (L * X)
  sum K z a x k = omega (arith, ap (λ (u : ℕ). u * (L * X)) k)

  sums : (K x z b : ℕ) → K + x + z ≡ b → K * (L * X) + x * (L * X) + z * (L * X) ≡ b * (L * X)
  sums K x z b k = omega (arith, ap (λ (u : ℕ). u * (L * X)) k)

less_more : (a b : ℕ) → b ≤ a → a - b + b ≡ a
less_more a b h = omega arith

module _ (a b d : ℕ) (h : d < 2 ^ 50) (ha : a ≤ 2 ^ 58) (hb : b ≤ 2 ^ 58) where
  abbrev cut : ℕ
  cut = cube_of (d / 2 ^ 18)

  abbrev sq : ℕ
  sq = circular_square (d / 2 ^ 18)

  abbrev fo : ℕ
  fo = fourth_of sq

  cubic_is : d - cut + 1 * cut ≡ d
  cubic_is = once d cut (less_more d cut (cube_le d h))
    where
      once : (d c : ℕ) → d - c + c ≡ d → d - c + 1 * c ≡ d
      once d c h = omega arith

  versine_is : versine_of d + fo ≡ sq
  versine_is = less_more sq fo (fourth_le d h)

  abbrev X : ℕ
  X = 2 ^ 58

  abbrev L : ℕ
  L = slice

  -- the powers times an entry c
  module _ (c : ℕ) (hc : c ≤ 2 ^ 58) where
    two_up : c * squared d h ≤ c * (L * (512 * sq)) + 1536 * (L * X)
    two_up = entry_up X L c (squared d h) (512 * sq) 1536 hc (square_close d h).1

    two_low : c * (L * (512 * sq)) ≤ c * squared d h + 0 * (L * X)
    two_low = entry_low X L c (squared d h) (512 * sq) 0 hc (square_close d h).0

    three_up : c * cubed d h ≤ c * (L * (1 * cut)) + 13 * (L * X)
    three_up = entry_up X L c (cubed d h) (1 * cut) 13 hc (cube_close d h).1

    three_low : c * (L * (1 * cut)) ≤ c * cubed d h + 2 * (L * X)
    three_low = entry_low X L c (cubed d h) (1 * cut) 2 hc (cube_close d h).0

    four_up : c * raised d h ≤ c * (L * (512 * fo)) + 1026 * (L * X)
    four_up = entry_up X L c (raised d h) (512 * fo) 1026 hc (fourth_close d h).1

    four_low : c * (L * (512 * fo)) ≤ c * raised d h + 1 * (L * X)
    four_low = entry_low X L c (raised d h) (512 * fo) 1 hc (fourth_close d h).0

  sine_kernel : decrement_of a (versine_of d) ≤ a + scaling_of b (sine_cubic d)
      → (sine_from a b d * whole + (a * squared d h + b * cubed d h) ≤ a * whole + b * (slice * d) + a * raised d h + 3100 * whole)
      × (a * whole + b * (slice * d) + a * raised d h ≤ sine_from a b d * whole + (a * squared d h + b * cubed d h) + 3100 * whole)
  sine_kernel z =
      let x = scaling_of b (sine_cubic d) in
      let y = decrement_of a (versine_of d) in
      let c = scaling_close b (d - cut) hb (cubic_le d h) in
      let e = decrement_close a (versine_of d) (versine_le d h) in
      let k = sum X L (sine_from a b d) y a x (less_more (a + x) y z) in (
        up (sine_from a b d * whole) (y * whole) (a * whole) (x * whole) (b * (L * (1 * cut))) (b * (L * d)) (a * (L * (512 * sq))) (a * (L * (512 * fo))) (a * squared d h) (b * cubed d h) (a * raised d h) whole
            k (cubic_up X L b (d - cut) (1 * cut) d x c.0 cubic_is) (versine_up X L a (versine_of d) fo sq y e.1 versine_is) (two_up a ha) (three_up b hb) (four_low a ha),
        low (sine_from a b d * whole) (y * whole) (a * whole) (x * whole) (b * (L * (1 * cut))) (b * (L * d)) (a * (L * (512 * sq))) (a * (L * (512 * fo))) (a * squared d h) (b * cubed d h) (a * raised d h) whole
            k (cubic_low X L b (d - cut) (1 * cut) d x c.1 cubic_is) (versine_low X L a (versine_of d) fo sq y e.0 versine_is) (two_low a ha) (three_low b hb) (four_up a ha),
      )
    where
      up : (K Y A M by bd aq av p₂ p₃ p₄ W : ℕ) → K + Y ≡ A + M → M + by ≤ bd → aq ≤ Y + 1025 * W + av → p₂ ≤ aq + 1536 * W → p₃ ≤ by + 13 * W → av ≤ p₄ + 1 * W → K + (p₂ + p₃) ≤ A + bd + p₄ + 3100 * W
      up K Y A M by bd aq av p₂ p₃ p₄ W k f g i j l = omega arith

      low : (K Y A M by bd aq av p₂ p₃ p₄ W : ℕ) → K + Y ≡ A + M → bd ≤ M + 513 * W + by → Y + av ≤ aq → aq ≤ p₂ + 0 * W → by ≤ p₃ + 2 * W → p₄ ≤ av + 1026 * W → A + bd + p₄ ≤ K + (p₂ + p₃) + 3100 * W
      low K Y A M by bd aq av p₂ p₃ p₄ W k f g i j l = omega arith

  cosine_kernel : scaling_of a (sine_cubic d) + decrement_of b (versine_of d) ≤ b
      → (cosine_from a b d * whole + (a * (slice * d) + b * squared d h) ≤ b * whole + a * cubed d h + b * raised d h + 3100 * whole)
      × (b * whole + a * cubed d h + b * raised d h ≤ cosine_from a b d * whole + (a * (slice * d) + b * squared d h) + 3100 * whole)
  cosine_kernel z =
      let x = scaling_of a (sine_cubic d) in
      let y = decrement_of b (versine_of d) in
      let c = scaling_close a (d - cut) ha (cubic_le d h) in
      let e = decrement_close b (versine_of d) (versine_le d h) in
      let k = sums X L (cosine_from a b d) x y b (twice b x y z) in (
        up (cosine_from a b d * whole) (y * whole) (b * whole) (x * whole) (a * (L * (1 * cut))) (a * (L * d)) (b * (L * (512 * sq))) (b * (L * (512 * fo))) (b * squared d h) (a * cubed d h) (b * raised d h) whole
            k (cubic_low X L a (d - cut) (1 * cut) d x c.1 cubic_is) (versine_up X L b (versine_of d) fo sq y e.1 versine_is) (two_up b hb) (three_low a ha) (four_low b hb),
        low (cosine_from a b d * whole) (y * whole) (b * whole) (x * whole) (a * (L * (1 * cut))) (a * (L * d)) (b * (L * (512 * sq))) (b * (L * (512 * fo))) (b * squared d h) (a * cubed d h) (b * raised d h) whole
            k (cubic_up X L a (d - cut) (1 * cut) d x c.0 cubic_is) (versine_low X L b (versine_of d) fo sq y e.0 versine_is) (two_low b hb) (three_up a ha) (four_up b hb),
      )
    where
      twice : (b x y : ℕ) → x + y ≤ b → b - x - y + x + y ≡ b
      twice b x y h = omega arith

      up : (K Y B M ay ad bq bv p₂ p₃ p₄ W : ℕ) → K + M + Y ≡ B → ad ≤ M + 513 * W + ay → bq ≤ Y + 1025 * W + bv → p₂ ≤ bq + 1536 * W → ay ≤ p₃ + 2 * W → bv ≤ p₄ + 1 * W → K + (ad + p₂) ≤ B + p₃ + p₄ + 3100 * W
      up K Y B M ay ad bq bv p₂ p₃ p₄ W k f g i j l = omega arith

      low : (K Y B M ay ad bq bv p₂ p₃ p₄ W : ℕ) → K + M + Y ≡ B → M + ay ≤ ad → Y + bv ≤ bq → bq ≤ p₂ + 0 * W → p₃ ≤ ay + 13 * W → p₄ ≤ bv + 1026 * W → B + p₃ + p₄ ≤ K + (ad + p₂) + 3100 * W
      low K Y B M ay ad bq bv p₂ p₃ p₄ W k f g i j l = omega arith

-- ---- the kernels

-- each row by the powers
sine_adds_is : (a b d W L F : ℕ) → ev (a * W ∷ b * L ∷ 0 ∷ 0 ∷ a * F ∷ []) d ≡ a * W + b * (L * d) + a * ev (0 ∷ 0 ∷ 0 ∷ 0 ∷ F ∷ []) d
sine_adds_is a b d W L F = omega arith

sine_takes_is : (a b d S T : ℕ) → ev (0 ∷ 0 ∷ a * S ∷ b * T ∷ []) d ≡ a * ev (0 ∷ 0 ∷ S ∷ []) d + b * ev (0 ∷ 0 ∷ 0 ∷ T ∷ []) d
sine_takes_is a b d S T = omega arith

cosine_adds_is : (a b d W T F : ℕ) → ev (b * W ∷ 0 ∷ 0 ∷ a * T ∷ b * F ∷ []) d ≡ b * W + a * ev (0 ∷ 0 ∷ 0 ∷ T ∷ []) d + b * ev (0 ∷ 0 ∷ 0 ∷ 0 ∷ F ∷ []) d
cosine_adds_is a b d W T F = omega arith

cosine_takes_is : (a b d L S : ℕ) → ev (0 ∷ a * L ∷ b * S ∷ []) d ≡ a * (L * d) + b * ev (0 ∷ 0 ∷ S ∷ []) d
cosine_takes_is a b d L S = omega arith

-- with D times the series there, the rows and the kernel's value
joined : (z_a z_o T S t s K W : ℕ) → (z_a + T ≤ z_o + S + 2200 * W) × (z_o + S ≤ z_a + T + 2200 * W) → T ≡ t → S ≡ s → (K * W + t ≤ s + 3100 * W) × (s ≤ K * W + t + 3100 * W)
    → (z_a ≤ z_o + (K + 5300) * W) × (K * W + z_o ≤ z_a + 5300 * W)
joined z_a z_o T S t s K W f e g k = (up (K * W) f.0 k.1, low (K * W) f.1 k.0)
  where
    up : (X : ℕ) → z_a + T ≤ z_o + S + 2200 * W → s ≤ X + t + 3100 * W → z_a ≤ z_o + (K + 5300) * W
    up X a b = omega arith

    low : (X : ℕ) → z_o + S ≤ z_a + T + 2200 * W → X + t ≤ s + 3100 * W → X + z_o ≤ z_a + 5300 * W
    low X a b = omega arith

module _ (r : ℕ) (h : r ≤ 2 ^ 58) where
  abbrev at : ℕ
  at = r / 2 ^ 50

  abbrev a₀ : ℕ
  a₀ = get_or sines at 0

  abbrev b₀ : ℕ
  b₀ = get_or cosines at 0

  abbrev d₀ : ℕ
  d₀ = r % 2 ^ 50

  d_lt : d₀ < 2 ^ 50
  d_lt = mod-lt r (pow_pos 50)

  at_lt : at < 257
  at_lt = omega arith

  whole_is : (0 + at) * 2 ^ 50 + d₀ ≡ r
  whole_is = ap (λ (z : ℕ). z * 2 ^ 50 + d₀) (zero-add at) ∙ div-add-mod' r (2 ^ 50)

  scaling_in : (c : ℕ) → c ≤ 2 ^ 58 → scaling_of c (sine_cubic d₀) ≤ 2 ^ 51
  scaling_in c k = scaling_le c (sine_cubic d₀) k (cubic_le d₀ d_lt)

  decrement_in : (c : ℕ) → c ≤ 2 ^ 58 → (decrement_of c (versine_of d₀) ≤ c) × (decrement_of c (versine_of d₀) ≤ 2 ^ 41)
  decrement_in c k = (decrement_less c (versine_of d₀) k (versine_le d₀ d_lt), decrement_le c (versine_of d₀) k (versine_le d₀ d_lt))

  pub sine_close : Kernel sin_adding sin_taking (sine_of r) 5300 r
  sine_close =
      let A = homogeneous (2 ^ 58) sin_adding in
      let O = homogeneous (2 ^ 58) sin_taking in
      let f = subst (λ (z : ℕ). (2 ^ 58 * ev A z + ev (sine_takes a₀ b₀) d₀ ≤ 2 ^ 58 * ev O z + ev (sine_adds a₀ b₀) d₀ + 2200 * whole) × (2 ^ 58 * ev O z + ev (sine_adds a₀ b₀) d₀ ≤ 2 ^ 58 * ev A z + ev (sine_takes a₀ b₀) d₀ + 2200 * whole)) whole_is (sine_fits at at_lt d₀ (le_of_lt d_lt)) in
      joined (2 ^ 58 * ev A r) (2 ^ 58 * ev O r) (ev (sine_takes a₀ b₀) d₀) (ev (sine_adds a₀ b₀) d₀) _ _ (sine_of r) whole f
      (sine_takes_is a₀ b₀ d₀ second third) (sine_adds_is a₀ b₀ d₀ whole slice fourth)
      (sine_kernel a₀ b₀ d₀ d_lt (sines_le at) (cosines_le at) (le_trans (decrement_in a₀ (sines_le at)).0 (le-add_right a₀ (scaling_of b₀ (sine_cubic d₀)))))

  pub cosine_close : Kernel cos_adding cos_taking (cosine_of r) 5300 r
  cosine_close =
      let A = homogeneous (2 ^ 58) cos_adding in
      let O = homogeneous (2 ^ 58) cos_taking in
      let f = subst (λ (z : ℕ). (2 ^ 58 * ev A z + ev (cosine_takes a₀ b₀) d₀ ≤ 2 ^ 58 * ev O z + ev (cosine_adds a₀ b₀) d₀ + 2200 * whole) × (2 ^ 58 * ev O z + ev (cosine_adds a₀ b₀) d₀ ≤ 2 ^ 58 * ev A z + ev (cosine_takes a₀ b₀) d₀ + 2200 * whole)) whole_is (cosine_fits at at_lt d₀ (le_of_lt d_lt)) in
      joined (2 ^ 58 * ev A r) (2 ^ 58 * ev O r) (ev (cosine_takes a₀ b₀) d₀) (ev (cosine_adds a₀ b₀) d₀) _ _ (cosine_of r) whole f
      (cosine_takes_is a₀ b₀ d₀ slice second) (cosine_adds_is a₀ b₀ d₀ whole third fourth)
      (cosine_kernel a₀ b₀ d₀ d_lt (sines_le at) (cosines_le at) (room b₀ (scaling_of a₀ (sine_cubic d₀)) (decrement_of b₀ (versine_of d₀)) (cosines_ge at at_lt) (scaling_in a₀ (sines_le at)) (decrement_in b₀ (cosines_le at)).1))
    where
      room : (b x y : ℕ) → 2 ^ 57 ≤ b → x ≤ 2 ^ 51 → y ≤ 2 ^ 41 → x + y ≤ b
      room b x y h k l = omega arith

  -- neither is above 1
  pub sine_one : sine_of r ≤ 2 ^ 58
  sine_one = most a₀ (scaling_of b₀ (sine_cubic d₀)) (decrement_of a₀ (versine_of d₀)) (sines_less at) (scaling_in b₀ (cosines_le at))
    where
      most : (a x y : ℕ) → a ≤ 244000000000000000 → x ≤ 2 ^ 51 → a + x - y ≤ 2 ^ 58
      most a x y h k = omega arith

  pub cosine_one : cosine_of r ≤ 2 ^ 58
  cosine_one = most b₀ (scaling_of a₀ (sine_cubic d₀)) (decrement_of b₀ (versine_of d₀)) (cosines_le at)
    where
      most : (b x y : ℕ) → b ≤ 2 ^ 58 → b - x - y ≤ 2 ^ 58
      most b x y h = omega arith
