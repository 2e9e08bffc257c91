-- The kernel of exp lies near the power series. W stands for 20! * D ^ 20 and L for 20! * D ^ 19, with D = 2 ^ 58. Assumes nothing.
use mathlib.Core.Path.{◌≡◌, sym, ap, ◌∙◌, subst}
use mathlib.Core.List.{List, [], ◌∷◌}
use Prim.Native.Nat.{ℕ, ◌+◌, ◌-◌, ◌*◌, ◌/◌, ◌%◌, ◌^◌, ◌≤◌, ◌<◌}
use native.Mathlib.Omega.{arith}
use native.Mathlib.Nat.{le_trans, le_of_lt, le_of_eq, le_of_mul-le-mul_left, mul-le-mul, mul-le-mul_left, mul-le-mul_right, mul_assoc, div-add-mod', div-mul-le_self, mod-lt, zero-add}
use lib.Dec.{leb→le}
use lib.ListN.{get_or}
use lib.Pow.{pow_pos, shr-shr, mod-pow-add}
use Rattle.exponential_tables.specs.Tables.{coarse, fine}
use Rattle.natural_exponential.specs.Exp.{exp_tail, remainder_of, expm1_of, compounded_of, kernel_of}
use Rattle.fixed_point.specs.Fixed.{high_of, term_of}
use Rattle.natural_exponential.proofs.Bound.{coarse_le, fine_le, high_le, remainder_product, upper_le, lower_le}
use Rattle.elementary_bounds.specs.Series.{ev}
use Rattle.elementary_bounds.proofs.Nearness.{whole, slice}
use Rattle.elementary_bounds.proofs.Series.{times, gap, slope, dilate, Below, start, term, cut_close, ev_mono}
use Rattle.elementary_bounds.proofs.ExpSeries.{lower, series, short, coarse_close, fine_close}

-- ---- the remainder: d ^ 2 / 2 + d ^ 3 / 6 + d ^ 4 / 24

-- the exact polynomial that remainder_of cuts down, over 2 ^ 142, and the series' own terms
abbrev bent : List ℕ
bent = 0 ∷ 0 ∷ 2147483648 * (1 * 2 ^ 42 * 2 ^ 42) ∷ 715827883 * (1 * 2 ^ 42) ∷ 178956971 ∷ []

abbrev bends : List ℕ
bends = 0 ∷ 0 ∷ 1216451004088320000 * (2 ^ 58) ^ 18 ∷ 405483668029440000 * (2 ^ 58) ^ 17 ∷ 101370917007360000 * (2 ^ 58) ^ 16 ∷ []

nested : (a b c m₁ m₂ m₃ m₄ s : ℕ) → 0 * m₄ + s * (0 * m₃ + s * (a * m₂ + s * (b * m₁ + s * c))) ≡ ev (0 ∷ 0 ∷ a * m₂ ∷ b * m₁ ∷ c ∷ []) s
nested a b c m₁ m₂ m₃ m₄ s = omega arith

remainder_below : (s : ℕ) → s < 2 ^ 32 → Below (remainder_of s) 193 (ev bent s) (2 ^ 142)
remainder_below s h =
    let b₁ = term 715827883 (2 ^ 42) s 178956971 0 0 178956971 1 (pow_pos 42) (omega arith) (start 178956971) in
    let b₂ = term 2147483648 (2 ^ 42) s (term_of 715827883 42 s 178956971) 1 1 _ _ (pow_pos 42) (omega arith) b₁ in
    let b₃ = term 0 (2 ^ 32) s (exp_tail s) 2 2 _ _ (pow_pos 32) (omega arith) b₂ in
    let b₃' = subst (λ (z : ℕ). Below z 3 (0 * (1 * 2 ^ 42 * 2 ^ 42 * 2 ^ 32) + s * (2147483648 * (1 * 2 ^ 42 * 2 ^ 42) + s * (715827883 * (1 * 2 ^ 42) + s * 178956971))) (1 * 2 ^ 42 * 2 ^ 42 * 2 ^ 32)) (zero-add (s * exp_tail s / 2 ^ 32)) b₃ in
    let b₄ = term 0 (2 ^ 26) s (s * exp_tail s / 2 ^ 32) 3 192 _ _ (pow_pos 26) (omega arith) b₃' in
    subst (λ (z : ℕ). Below z 193 (ev bent s) (2 ^ 142)) (zero-add (remainder_of s))
    (subst (λ (z : ℕ). Below (0 + remainder_of s) 193 z (2 ^ 142)) (nested 2147483648 715827883 178956971 (1 * 2 ^ 42) (1 * 2 ^ 42 * 2 ^ 42) (1 * 2 ^ 42 * 2 ^ 42 * 2 ^ 32) (1 * 2 ^ 42 * 2 ^ 42 * 2 ^ 32 * 2 ^ 26) s) b₄)

-- the remainder in all: L * y is at most L above the terms, and they at most 259 * L above it
remainder_close : (d : ℕ) → d < 2 ^ 48 → (slice * remainder_of (d / 2 ^ 16) ≤ ev bends d + slice) × (ev bends d ≤ slice * (remainder_of (d / 2 ^ 16) + 259))
remainder_close d h =
    let y = remainder_of (d / 2 ^ 16) in
    let c = cut_close bends bent (2 ^ 16) (2 ^ 32) slice 1 (2 ^ 142) 193 1 65 y d (pow_pos 16) (pow_pos 142) h (remainder_below (d / 2 ^ 16) (omega arith))
    (leb→le (gap (times (2 ^ 142) (dilate (2 ^ 16) 1 bends)) (times (slice * 1) bent) (2 ^ 32)) (2 ^ 142 * (1 * slice)) tt) (leb→le (2 ^ 16 * slope bends (2 ^ 48)) (65 * slice) tt) in
    (low slice y (ev bends d) c.0, top slice y (ev bends d) c.1)
  where
    low : (L y A : ℕ) → L * (1 * y) ≤ A + 1 * L → L * y ≤ A + L
    low L y A h = omega arith

    top : (L y A : ℕ) → A ≤ L * (1 * y + (1 * 193 + 1 + 65)) → A ≤ L * (y + 259)
    top L y A h = omega arith

-- ---- the short series by the remainder

short_split : (a b c e f d : ℕ) → a + d * (b + d * (c + d * (e + d * (f + d * 0)))) ≡ a + d * b + (0 + d * (0 + d * (c + d * (e + d * (f + d * 0)))))
short_split a b c e f d = omega arith

-- with g = d + remainder_of (d / 2 ^ 16), the short series is W + L * g, at most L too small and 259 * L too large
short_close : (d : ℕ) → d < 2 ^ 48 → (whole + slice * (d + remainder_of (d / 2 ^ 16)) ≤ ev short d + slice) × (ev short d ≤ whole + slice * (d + remainder_of (d / 2 ^ 16) + 259))
short_close d h =
    let e : ev short d ≡ whole + d * slice + ev bends d = short_split whole slice (1216451004088320000 * (2 ^ 58) ^ 18) (405483668029440000 * (2 ^ 58) ^ 17) (101370917007360000 * (2 ^ 58) ^ 16) d in
    let b = remainder_close d h in
    (low (ev short d) whole slice d (remainder_of (d / 2 ^ 16)) (ev bends d) e b.0, top (ev short d) whole slice d (remainder_of (d / 2 ^ 16)) (ev bends d) e b.1)
  where
    low : (S W L d y A : ℕ) → S ≡ W + d * L + A → L * y ≤ A + L → W + L * (d + y) ≤ S + L
    low S W L d y A e b = omega arith

    top : (S W L d y A : ℕ) → S ≡ W + d * L + A → A ≤ L * (y + 259) → S ≤ W + L * (d + y + 259)
    top S W L d y A e b = omega arith

-- ---- c + c * p

-- F, by which compounded_of exceeds c: p * (c / 2 ^ 16) / 2 ^ 35
compounded_by : (c p : ℕ) → (((p * (c / 2 ^ 38) + p * (c / 2 ^ 16 % 2 ^ 22) / 2 ^ 22) / 2 ^ 13) * 2 ^ 35 ≤ p * (c / 2 ^ 16)) × (p * (c / 2 ^ 16) < ((p * (c / 2 ^ 38) + p * (c / 2 ^ 16 % 2 ^ 22) / 2 ^ 22) / 2 ^ 13) * 2 ^ 35 + 2 ^ 35)
compounded_by c p =
    let e : c / 2 ^ 38 * 2 ^ 22 + c / 2 ^ 16 % 2 ^ 22 ≡ c / 2 ^ 16 = ap (λ (z : ℕ). z * 2 ^ 22 + c / 2 ^ 16 % 2 ^ 22) (sym (shr-shr c 16 22)) ∙ div-add-mod' (c / 2 ^ 16) (2 ^ 22) in
    parts p (c / 2 ^ 16) (c / 2 ^ 38) (c / 2 ^ 16 % 2 ^ 22) (ap (λ (z : ℕ). p * z) e)
  where
    nest : (x y : ℕ) → ((x + y / 2 ^ 22) / 2 ^ 13 * 2 ^ 35 ≤ x * 2 ^ 22 + y) × (x * 2 ^ 22 + y < (x + y / 2 ^ 22) / 2 ^ 13 * 2 ^ 35 + 2 ^ 35)
    nest x y = (omega arith, omega arith)

    parts : (p C u v : ℕ) → p * (u * 2 ^ 22 + v) ≡ p * C → (((p * u + p * v / 2 ^ 22) / 2 ^ 13) * 2 ^ 35 ≤ p * C) × (p * C < ((p * u + p * v / 2 ^ 22) / 2 ^ 13) * 2 ^ 35 + 2 ^ 35)
    parts p C u v e =
        let n = nest (p * u) (p * v) in
        let f : p * u * 2 ^ 22 + p * v ≡ p * C = omega (arith, e) in
        (le_trans n.0 (le_of_eq f), subst (λ (z : ℕ). z < ((p * u + p * v / 2 ^ 22) / 2 ^ 13) * 2 ^ 35 + 2 ^ 35) f n.1)

-- c * g lies at or above F * 2 ^ 58, by at most 2 ^ 68
compounded_close : (c g : ℕ) → c ≤ 808000000000000000 → g / 2 ^ 7 ≤ 2200097350000
    → ((compounded_of c (g / 2 ^ 7) - c) * 2 ^ 58 ≤ c * g) × (c * g ≤ (compounded_of c (g / 2 ^ 7) - c) * 2 ^ 58 + 2 ^ 68)
compounded_close c g h k =
    let p = g / 2 ^ 7 in
    let F = (p * (c / 2 ^ 38) + p * (c / 2 ^ 16 % 2 ^ 22) / 2 ^ 22) / 2 ^ 13 in
    let e : compounded_of c p - c ≡ F = cancel c F in
    let b = compounded_by c p in
    let x = low c g F p (c / 2 ^ 16) (c / 2 ^ 16 * 2 ^ 16) b.0 (omega arith) (omega arith) (omega arith) in
    let y = top c g F p (c / 2 ^ 16) (c % 2 ^ 16) (g % 2 ^ 7) b.1 (sym (div-add-mod' c (2 ^ 16))) (sym (div-add-mod' g (2 ^ 7))) h k (mod-lt c (pow_pos 16)) (mod-lt g (pow_pos 7)) in
    subst (λ (z : ℕ). (z * 2 ^ 58 ≤ c * g) × (c * g ≤ z * 2 ^ 58 + 2 ^ 68)) (sym e) (x, y)
  where
    cancel : (c F : ℕ) → c + F - c ≡ F
    cancel c F = omega arith

    low : (c g F p C c' : ℕ) → F * 2 ^ 35 ≤ p * C → c' ≡ C * 2 ^ 16 → c' ≤ c → p * 2 ^ 7 ≤ g → F * 2 ^ 58 ≤ c * g
    low c g F p C c' a b l m = le_trans (chain F p C c' a b) (mul-le-mul l m)
      where
        chain : (F p C c' : ℕ) → F * 2 ^ 35 ≤ p * C → c' ≡ C * 2 ^ 16 → F * 2 ^ 58 ≤ c' * (p * 2 ^ 7)
        chain F p C c' a b = omega (arith, ap (λ (z : ℕ). z * p) b)

    top : (c g F p C r q : ℕ) → p * C < F * 2 ^ 35 + 2 ^ 35 → c ≡ C * 2 ^ 16 + r → g ≡ p * 2 ^ 7 + q → c ≤ 808000000000000000 → p ≤ 2200097350000 → r < 2 ^ 16 → q < 2 ^ 7 → c * g ≤ F * 2 ^ 58 + 2 ^ 68
    top c g F p C r q a b d h k l m =
        omega (arith, product c g C p r q b d, mul-le-mul {n₂ = 2200097350000} {m₂ = 2 ^ 16} k (le_of_lt l), mul-le-mul {n₂ = 808000000000000000} {m₂ = 2 ^ 7} h (le_of_lt m))
      where
        product : (c g C p r q : ℕ) → c ≡ C * 2 ^ 16 + r → g ≡ p * 2 ^ 7 + q → c * g ≡ p * C * 2 ^ 23 + p * r * 2 ^ 7 + c * q
        product c g C p r q b d = omega (arith, ap (λ (z : ℕ). c * z) d, ap (λ (z : ℕ). z * p) b)

-- ---- the kernel against the short series at its entries, with W as L * 2 ^ 58

rise_up : (L c G F H : ℕ) → H ≤ L * 2 ^ 58 + L * (G + 259) → c * G ≤ F * 2 ^ 58 + 2 ^ 68 → c ≤ 808000000000000000 → c * H ≤ (c + F + 1801) * (L * 2 ^ 58)
rise_up L c G F H a b d = omega (arith, mul-le-mul_left c a, mul-le-mul_left L b, mul-le-mul_left L d)

rise_low : (L c G F H : ℕ) → L * 2 ^ 58 + L * G ≤ H + L → F * 2 ^ 58 ≤ c * G → c ≤ 808000000000000000 → (c + F) * (L * 2 ^ 58) ≤ c * H + 3 * (L * 2 ^ 58)
rise_low L c G F H a b d = omega (arith, mul-le-mul_left c a, mul-le-mul_left L b, mul-le-mul_left L d)

module _ (c d : ℕ) (h : d < 2 ^ 48) (k : c ≤ 808000000000000000) where
  expm1_le : expm1_of d ≤ 2200097350000
  expm1_le = omega (arith, remainder_product d h)

  by_short : (c * ev short d ≤ (compounded_of c (expm1_of d) + 1801) * whole) × (compounded_of c (expm1_of d) * whole ≤ c * ev short d + 3 * whole)
  by_short =
      let G = d + remainder_of (d / 2 ^ 16) in
      let K = compounded_of c (expm1_of d) in
      let s = short_close d h in
      let g = compounded_close c G k expm1_le in
      let e : c + (K - c) ≡ K = back c _ in (
        subst (λ (z : ℕ). c * ev short d ≤ (z + 1801) * whole) e (rise_up slice c G (K - c) (ev short d) s.1 g.1 k),
        subst (λ (z : ℕ). z * whole ≤ c * ev short d + 3 * whole) e (rise_low slice c G (K - c) (ev short d) s.0 g.0 k),
      )
    where
      back : (c F : ℕ) → c + (c + F - c) ≡ c + F
      back c F = omega arith

-- ---- both tables

join_up : (k₁ k₂ P U H a b e₁ e₂ : ℕ) → k₁ * P ≤ a * U + e₁ → k₂ * U ≤ b * H + e₂ → k₂ * (k₁ * P) ≤ a * b * H + (a * e₂ + k₂ * e₁)
join_up k₁ k₂ P U H a b e₁ e₂ h g = omega (arith, mul-le-mul_left k₂ h, mul-le-mul_left a g)

join_low : (k₁ k₂ P U H a b e₁ e₂ : ℕ) → a * U ≤ k₁ * P + e₁ → b * H ≤ k₂ * U + e₂ → a * b * H ≤ k₂ * (k₁ * P) + (a * e₂ + k₂ * e₁)
join_low k₁ k₂ P U H a b e₁ e₂ h g = omega (arith, mul-le-mul_left k₂ h, mul-le-mul_left a g)

slack : (a W : ℕ) → a ≤ 3134000000000000000 → a * (64 * W) + 2 ^ 62 * (2 * W) ≤ 2 ^ 64 * (17 * W)
slack a W h = omega (arith, mul-le-mul_right W h)

-- with X = 2 ^ 64, x the upper half of a * b, E the slack
end_up : (X x P H K W ab Q E : ℕ) → Q ≤ ab * H + E → E ≤ X * (17 * W) → ab ≤ x * X + X → H ≤ 2 * W → x * H ≤ (K + 1801) * W → Q ≤ X * ((K + 1820) * W)
end_up X x P H K W ab Q E a b c d e = omega (arith, mul-le-mul_right H c, mul-le-mul_left X d, mul-le-mul_left X e)

end_low : (X x P H K W ab Q E : ℕ) → ab * H ≤ Q + E → E ≤ X * (17 * W) → x * X ≤ ab → K * W ≤ x * H + 3 * W → X * (K * W) ≤ Q + X * (20 * W)
end_low X x P H K W ab Q E a b c e = omega (arith, mul-le-mul_right H c, mul-le-mul_left X e)

-- the kernel is within 1820 units of 2 ^ -58 of the series about -1
pub kernel_close : (t : ℕ) → t ≤ 2 ^ 59 → (2 ^ 58 * ev lower t ≤ (kernel_of t + 1820) * whole) × (kernel_of t * whole ≤ 2 ^ 58 * ev lower t + 1820 * whole)
kernel_close t h =
    let i = t / 2 ^ 53 in
    let u = t % 2 ^ 53 in
    let j = t / 2 ^ 48 % 32 in
    let d = t % 2 ^ 48 in
    let a = get_or coarse i 0 in
    let b = get_or fine j 0 in
    let x = high_of a b in
    let K = kernel_of t in
    let H = ev short d in
    let ti : i * 2 ^ 53 + u ≡ t = div-add-mod' t (2 ^ 53) in
    let uj : u ≡ j * 2 ^ 48 + d = mod-pow-add t 5 48 in
    let dl : d < 2 ^ 48 = mod-lt t (pow_pos 48) in
    let f = coarse_close i (omega arith) u (le_of_lt (mod-lt t (pow_pos 53))) in
    let g = fine_close j (mod-lt (t / 2 ^ 48) (pow_pos 5)) d (le_of_lt dl) in
    let g' = subst (λ (z : ℕ). (2 ^ 62 * ev series z ≤ b * H + 64 * whole) × (b * H ≤ 2 ^ 62 * ev series z + 64 * whole)) (sym uj) g in
    let f' = subst (λ (z : ℕ). (2 ^ 60 * ev lower z ≤ a * ev series u + 2 * whole) × (a * ev series u ≤ 2 ^ 60 * ev lower z + 2 * whole)) ti f in
    let s = by_short x d dl (high_le (coarse_le i) (fine_le j)) in
    let Q = 2 ^ 62 * (2 ^ 60 * ev lower t) in
    let q : Q ≡ 2 ^ 64 * (2 ^ 58 * ev lower t) = sym (mul_assoc (2 ^ 62) (2 ^ 60) (ev lower t)) ∙ mul_assoc (2 ^ 64) (2 ^ 58) (ev lower t) in
    let E = a * (64 * whole) + 2 ^ 62 * (2 * whole) in
    let n : a * b ≡ x * 2 ^ 64 + a * b % 2 ^ 64 = sym (div-add-mod' (a * b) (2 ^ 64)) in
    let two : H ≤ 2 * whole = le_trans (ev_mono short d (2 ^ 48) (le_of_lt dl)) (leb→le (ev short (2 ^ 48)) (2 * whole) tt) in
    let sl = slack a whole (coarse_le i) in
    let up = end_up (2 ^ 64) x (ev lower t) H K whole (a * b) Q E (join_up (2 ^ 60) (2 ^ 62) (ev lower t) (ev series u) H a b (2 * whole) (64 * whole) f'.0 g'.0) sl (above (a * b) (x * 2 ^ 64) (a * b % 2 ^ 64) (2 ^ 64) n (mod-lt (a * b) (pow_pos 64))) two s.0 in
    let low = end_low (2 ^ 64) x (ev lower t) H K whole (a * b) Q E (join_low (2 ^ 60) (2 ^ 62) (ev lower t) (ev series u) H a b (2 * whole) (64 * whole) f'.1 g'.1) sl (div-mul-le_self (a * b) (2 ^ 64)) s.1 in (
      le_of_mul-le-mul_left (subst (λ (z : ℕ). z ≤ 2 ^ 64 * ((K + 1820) * whole)) q up) (pow_pos 64),
      le_of_mul-le-mul_left (wide (2 ^ 64) (K * whole) (2 ^ 58 * ev lower t) whole (subst (λ (z : ℕ). 2 ^ 64 * (K * whole) ≤ z + 2 ^ 64 * (20 * whole)) q low)) (pow_pos 64),
    )
  where
    above : (n x r X : ℕ) → n ≡ x + r → r < X → n ≤ x + X
    above n x r X e h = omega arith

    wide : (X k p W : ℕ) → X * k ≤ X * p + X * (20 * W) → X * k ≤ X * (p + 1820 * W)
    wide X k p W h = omega arith

pub kernel_lt : (t : ℕ) → t ≤ 2 ^ 59 → kernel_of t < 2 ^ 60
kernel_lt t h =
    let c = high_of (get_or coarse (t / 2 ^ 53) 0) (get_or fine (t / 2 ^ 48 % 32) 0) in
    let d = t % 2 ^ 48 in
    let k = high_le (coarse_le (t / 2 ^ 53)) (fine_le (t / 2 ^ 48 % 32)) in
    let g = expm1_le c d (mod-lt t (pow_pos 48)) k in
    small c (expm1_of d) k g
  where
    small : (c p : ℕ) → c ≤ 808000000000000000 → p ≤ 2200097350000 → compounded_of c p < 2 ^ 60
    small c p k g = omega (arith, upper_le c p k g, lower_le c p k g)
