-- A whole number less 2 ^ 63, rounded once: its upper and its lower digits are floats exactly, and so is all but the last sum. Assumes nothing.
use mathlib.Core.Path.{◌≡◌, refl, sym, ap, ◌∙◌, subst}
use mathlib.Core.Bool.{Bool, true, false, not, ◌&&◌, cond, beq}
use Prim.Native.Nat.{ℕ, suc, ◌+◌, ◌-◌, ◌*◌, ◌/◌, ◌%◌, ◌^◌, ◌≤◌, ◌<◌}
use native.Mathlib.Omega.{arith}
use native.Mathlib.Nat.{mul_comm, mul-sub, mul-pos, mul-le-mul_right, eq_of_mul-eq-mul_right, lt_of_lt_of_le}
use borrow.Author.Tests.{lt-ltb, le-ltb, ltb-true, ltb-false, lt-leb, ne_eqb}
use lib.Dec.{T, ltb, eqb, lit≤}
use lib.IntN.{negsuc}
use lib.Pow.{pow_pos, pow_mono, shl_lt}
use lib.Ieee.{Float, nan, inf, fin, binary64, up, down, odd, of_bits, of_fields, nan_bits, neg, sum, add, sub, round}
use lib.Ieee.Fits.{down_pos}
use lib.Ieee.Bits.{nan_bits_above}
use lib.Ieee.Exact.{HasValue, odd_sign, round_exact}
use lib.Ieee.Scale.{round_same}
use Rattle.fixed_point.proofs.Negative.{neg_round}
use Rattle.natural_logarithm.specs.Log.{difference_of}
use Rattle.natural_logarithm.proofs.LogCases.{difference_plus, difference_minus}

-- ---- a sum by its terms' values

-- equal fractions in another form: M / D and a / c, N / D and b / c
module _ (M N D a b c : ℕ) (p : 0 < D) (q : 0 < c) (e : M * c ≡ a * D) (f : N * c ≡ b * D) where
  less_same : ltb M N ≡ ltb a b
  less_same = go (ltb M N) (ltb a b) refl refl
    where
      go : (u v : Bool) → ltb M N ≡ u → ltb a b ≡ v → u ≡ v
      go true true g h = refl
      go false false g h = refl
      go true false g h = absurd (clash (mul-le-mul_right c (ltb-true M N g)) (mul-le-mul_right D (ltb-false a b h)))
        where
          clash : suc M * c ≤ N * c → b * D ≤ a * D → ⊥
          clash g h = omega (arith, e, f, q)
      go false true g h = absurd (clash (mul-le-mul_right c (ltb-false M N g)) (mul-le-mul_right D (ltb-true a b h)))
        where
          clash : N * c ≤ M * c → suc a * D ≤ b * D → ⊥
          clash g h = omega (arith, e, f, p)

  plus_same : (M + N) * c ≡ (a + b) * D
  plus_same = omega (arith, e, f)

  minus_same : (N - M) * c ≡ (b - a) * D
  minus_same = mul_comm (N - M) c ∙ mul-sub c N M ∙ both ∙ sym (mul-sub D b a) ∙ mul_comm D (b - a)
    where
      both : c * N - c * M ≡ D * b - D * a
      both = omega (arith, e, f)

sum_same : (s t : Bool) (M N D a b c : ℕ) → 0 < D → 0 < c → M * c ≡ a * D → N * c ≡ b * D → sum binary64 s M t N D ≡ sum binary64 s a t b c
unfolding sum
sum_same s t M N D a b c p q e f =
    ap (λ (x : Float). cond (beq s t) x (cond (ltb M N) (round binary64 t (N - M) D) (round binary64 (s && ltb N M) (M - N) D))) (round_same binary64 s (M + N) D (a + b) c p q (plus_same M N D a b c p q e f))
    ∙ ap (λ (x : Float). cond (beq s t) (round binary64 s (a + b) c) (cond (ltb M N) x (round binary64 (s && ltb N M) (M - N) D))) (round_same binary64 t (N - M) D (b - a) c p q (minus_same M N D a b c p q e f))
    ∙ ap (λ (x : Float). cond (beq s t) (round binary64 s (a + b) c) (cond (ltb M N) (round binary64 t (b - a) c) x)) (round_same binary64 (s && ltb N M) (M - N) D (a - b) c p q (minus_same N M D b a c p q f e))
    ∙ ap (λ (g : Bool). cond (beq s t) (round binary64 s (a + b) c) (cond g (round binary64 t (b - a) c) (round binary64 (s && ltb N M) (a - b) c))) (less_same M N D a b c p q e f)
    ∙ ap (λ (g : Bool). cond (beq s t) (round binary64 s (a + b) c) (cond (ltb a b) (round binary64 t (b - a) c) (round binary64 (s && g) (a - b) c))) (less_same N M D b a c p q f e)

add_at : (x y : Float) (s t : Bool) (a b c : ℕ) → 0 < c → HasValue x s a c → HasValue y t b c → add binary64 x y ≡ sum binary64 s a t b c
unfolding add
add_at nan y s t a b c q v w = absurd v
add_at (inf i) y s t a b c q v w = absurd v
add_at (fin i m e) nan s t a b c q v w = absurd w
add_at (fin i m e) (inf j) s t a b c q v w = absurd w
add_at (fin i m e) (fin j n d) s t a b c q v w =
    ap (λ (i : Bool). sum binary64 i (m * up e * down d) j (n * up d * down e) (down e * down d)) v.0
    ∙ ap (λ (j : Bool). sum binary64 s (m * up e * down d) j (n * up d * down e) (down e * down d)) w.0
    ∙ sum_same s t (m * up e * down d) (n * up d * down e) (down e * down d) a b c (mul-pos (down_pos e) (down_pos d)) q
    (first (m * up e) a (down e) (down d) v.1)
    (second (n * up d) b (down d) (down e) w.1)
  where
    first : (M a E F : ℕ) → M * c ≡ a * E → M * F * c ≡ a * (E * F)
    first M a E F h = omega (arith, ap (λ (z : ℕ). z * F) h)

    second : (N b E F : ℕ) → N * c ≡ b * E → N * F * c ≡ b * (F * E)
    second N b E F h = omega (arith, ap (λ (z : ℕ). z * F) h)

-- the same value by another fraction
revalue : (x : Float) (s : Bool) (a c b d : ℕ) → 0 < c → b * c ≡ a * d → HasValue x s a c → HasValue x s b d
revalue nan s a c b d p h v = v
revalue (inf t) s a c b d p h v = v
revalue (fin t m e) s a c b d p h v = (v.0, eq_of_mul-eq-mul_right c p (m * up e * d) (b * down e) (cross (m * up e) (down e) v.1))
  where
    cross : (M E : ℕ) → M * c ≡ a * E → M * d * c ≡ b * E * c
    cross M E g = omega (arith, ap (λ (z : ℕ). z * d) g, ap (λ (z : ℕ). z * E) h)

-- ---- the terms

-- a number by its exponent's field and its digits
bits_value : (y t : ℕ) → suc y ≤ 2046 → t < 2 ^ 52 → HasValue (of_bits binary64 (suc y * 2 ^ 52 + t)) false ((2 ^ 52 + t) * 2 ^ y) (2 ^ 1074)
unfolding of_bits of_fields
bits_value y t h k =
    subst (λ (x : Float). HasValue x false ((2 ^ 52 + t) * 2 ^ y) (2 ^ 1074)) (sym is) (odd_sign 53 false (2 ^ 52 + t) y 1074)
  where
    b : ℕ
    b = suc y * 2 ^ 52 + t

    small : b < 2 ^ 63
    small = omega arith

    field : b % 2 ^ 63 / 2 ^ 52 ≡ suc y
    field = omega arith

    rest : b % 2 ^ 52 ≡ t
    rest = omega arith

    apart : suc y ≡ 2047 → ⊥
    apart e = omega arith

    is : of_bits binary64 b ≡ odd 53 false (2 ^ 52 + t) y 1074
    is =
        ap (λ (s : Bool). of_fields binary64 s (b % 2 ^ 63 / 2 ^ 52) (b % 2 ^ 52)) (lt-leb (2 ^ 63) b small)
        ∙ ap (λ (n : ℕ). of_fields binary64 false n (b % 2 ^ 52)) field
        ∙ ap (λ (n : ℕ). of_fields binary64 false (suc y) n) rest
        ∙ ap (λ (g : Bool). cond g (cond (eqb t 0) (inf false) nan) (odd 53 false (2 ^ 52 + t) y 1074)) (ne_eqb (suc y) 2047 apart)

pub bits_no_nan : (b : ℕ) → b < 2047 * 2 ^ 52 → T (not (nan_bits binary64 b))
bits_no_nan b h = subst (λ (g : Bool). T (not g)) (sym (nan_bits_above binary64 b ∙ le-ltb (2047 * 2 ^ 52) (b % 2 ^ 63) (below b h))) tt
  where
    below : (b : ℕ) → b < 2047 * 2 ^ 52 → b % 2 ^ 63 ≤ 2047 * 2 ^ 52
    below b h = omega arith

-- 2 ^ 31 and h / 2 ^ 21; 1 / 2 and l / 2 ^ 53
abbrev pub upper : ℕ → Float
upper h = of_bits binary64 (4746794007248502784 + h)

abbrev pub lower : ℕ → Float
lower l = of_bits binary64 (4602678819172646912 + l)

scale : (q P A B : ℕ) → A ≡ P * B → q * A ≡ q * P * B
scale q P A B e = omega (arith, ap (λ (z : ℕ). q * z) e)

upper_value : (h : ℕ) → h < 2 ^ 32 → HasValue (upper h) false (2 ^ 52 + h) (2 ^ 21)
upper_value h k = revalue (upper h) false ((2 ^ 52 + h) * 2 ^ 1053) (2 ^ 1074) (2 ^ 52 + h) (2 ^ 21) (pow_pos 1074) (scale (2 ^ 52 + h) (2 ^ 1053) (2 ^ 1074) (2 ^ 21) refl) (bits_value 1053 h (lit≤ {m = 1054} {n = 2046} tt) (omega arith))

lower_value : (l : ℕ) → l < 2 ^ 32 → HasValue (lower l) false (2 ^ 52 + l) (2 ^ 53)
lower_value l k = revalue (lower l) false ((2 ^ 52 + l) * 2 ^ 1021) (2 ^ 1074) (2 ^ 52 + l) (2 ^ 53) (pow_pos 1074) (scale (2 ^ 52 + l) (2 ^ 1021) (2 ^ 1074) (2 ^ 53) refl) (bits_value 1021 l (lit≤ {m = 1022} {n = 2046} tt) (omega arith))

-- 2 ^ 31 + 2 ^ 10 + 1 / 2
abbrev pub bias : Float
bias = fin false 4294969345 (negsuc 0)

bias_value : HasValue (neg bias) true (2 ^ 52 + 2 ^ 31 + 2 ^ 20) (2 ^ 21)
unfolding neg
bias_value = (refl, refl)

-- a whole number below 2 ^ 53 over 2 ^ 21 is a float, and the same over 2 ^ 53
exact : (s : Bool) (d : ℕ) → d < 2 ^ 53 → HasValue (round binary64 s d (2 ^ 21)) s (d * 2 ^ 32) (2 ^ 53)
exact s d h =
    revalue (round binary64 s d (2 ^ 21)) s d (2 ^ 21) (d * 2 ^ 32) (2 ^ 53) (pow_pos 21) (omega arith)
    (round_exact binary64 s d (2 ^ 21) d 1053 (pow_pos 21) h (lt_of_lt_of_le (shl_lt 53 1053 h) (pow_mono {i = 1106} {j = 2098} (lit≤ {m = 1106} {n = 2098} tt))) (scale d (2 ^ 1053) (2 ^ 1074) (2 ^ 21) refl))

-- ---- the sum

-- A less B with a minus sign, for A - B = 2 ^ 63 - u
unlike_is : (A B u : ℕ) → A + u ≡ 2 ^ 63 + B → sum binary64 true A false B (2 ^ 53) ≡ difference_of u (2 ^ 63)
unfolding sum
unlike_is A B u e = go (ltb u (2 ^ 63)) (ltb A B) refl refl
  where
    chosen : Bool → Bool → Float
    chosen f g = cond f (round binary64 false (B - A) (2 ^ 53)) (round binary64 g (A - B) (2 ^ 53))

    under : (A B u : ℕ) → A + u ≡ 2 ^ 63 + B → A - B ≡ 2 ^ 63 - u
    under A B u e = omega arith

    over : (A B u : ℕ) → A + u ≡ 2 ^ 63 + B → B - A ≡ u - 2 ^ 63
    over A B u e = omega arith

    none : (A B u : ℕ) → A + u ≡ 2 ^ 63 + B → B ≤ A → 2 ^ 63 ≤ u → A - B ≡ u - 2 ^ 63
    none A B u e h k = omega arith

    go : (b f : Bool) → ltb u (2 ^ 63) ≡ b → ltb A B ≡ f → chosen (ltb A B) (ltb B A) ≡ difference_of u (2 ^ 63)
    go true f h k =
        let l = ltb-true u (2 ^ 63) h in
        ap (λ (f : Bool). chosen f (ltb B A)) (le-ltb A B (omega (arith, e, l)))
        ∙ ap (chosen false) (lt-ltb B A (omega (arith, e, l)))
        ∙ ap (λ (n : ℕ). round binary64 true n (2 ^ 53)) (under A B u e)
        ∙ sym (difference_minus u (2 ^ 63) l ∙ neg_round binary64 (2 ^ 63 - u) (2 ^ 53))
    go false true h k =
        let l = ltb-false u (2 ^ 63) h in
        ap (λ (f : Bool). chosen f (ltb B A)) k
        ∙ ap (λ (n : ℕ). round binary64 false n (2 ^ 53)) (over A B u e)
        ∙ sym (difference_plus u (2 ^ 63) l)
    go false false h k =
        let l = ltb-false u (2 ^ 63) h in
        ap (λ (f : Bool). chosen f (ltb B A)) k
        ∙ ap (chosen false) (le-ltb B A (omega (arith, e, l)))
        ∙ ap (λ (n : ℕ). round binary64 false n (2 ^ 53)) (none A B u e (ltb-false A B k) l)
        ∙ sym (difference_plus u (2 ^ 63) l)

like_is : (A B u : ℕ) → A + B + 2 ^ 63 ≡ u → sum binary64 false A false B (2 ^ 53) ≡ difference_of u (2 ^ 63)
unfolding sum
like_is A B u e = ap (λ (n : ℕ). round binary64 false n (2 ^ 53)) (over A B u e) ∙ sym (difference_plus u (2 ^ 63) (omega (arith, e)))
  where
    over : (A B u : ℕ) → A + B + 2 ^ 63 ≡ u → A + B ≡ u - 2 ^ 63
    over A B u e = omega arith

module _ (h l : ℕ) (i : h < 2 ^ 32) (j : l < 2 ^ 32) where
  abbrev u : ℕ
  u = h * 2 ^ 32 + l

  abbrev first : Float
  first = sub binary64 (upper h) bias

  first_is : first ≡ sum binary64 false (2 ^ 52 + h) true (2 ^ 52 + 2 ^ 31 + 2 ^ 20) (2 ^ 21)
  unfolding sub
  first_is = add_at (upper h) (neg bias) false true (2 ^ 52 + h) (2 ^ 52 + 2 ^ 31 + 2 ^ 20) (2 ^ 21) (pow_pos 21) (upper_value h i) bias_value

  abbrev G : ℕ
  G = 2 ^ 52 + 2 ^ 31 + 2 ^ 20

  first_less : 2 ^ 52 + h < G → first ≡ round binary64 true (G - (2 ^ 52 + h)) (2 ^ 21)
  unfolding sum
  first_less k = first_is ∙ ap (λ (g : Bool). cond g (round binary64 true (G - (2 ^ 52 + h)) (2 ^ 21)) (round binary64 false (2 ^ 52 + h - G) (2 ^ 21))) (lt-ltb (2 ^ 52 + h) G k)

  first_more : G ≤ 2 ^ 52 + h → first ≡ round binary64 false (2 ^ 52 + h - G) (2 ^ 21)
  unfolding sum
  first_more k = first_is ∙ ap (λ (g : Bool). cond g (round binary64 true (G - (2 ^ 52 + h)) (2 ^ 21)) (round binary64 false (2 ^ 52 + h - G) (2 ^ 21))) (le-ltb (2 ^ 52 + h) G k)

  total : (s : Bool) (d : ℕ) → d < 2 ^ 53 → first ≡ round binary64 s d (2 ^ 21) → add binary64 first (lower l) ≡ sum binary64 s (d * 2 ^ 32) false (2 ^ 52 + l) (2 ^ 53)
  total s d k e = ap (λ (x : Float). add binary64 x (lower l)) e ∙ add_at (round binary64 s d (2 ^ 21)) (lower l) s false (d * 2 ^ 32) (2 ^ 52 + l) (2 ^ 53) (pow_pos 53) (exact s d k) (lower_value l j)

  pub halves_is : add binary64 (sub binary64 (upper h) bias) (lower l) ≡ difference_of u (2 ^ 63)
  halves_is = go (ltb (2 ^ 52 + h) G) refl
    where
      go : (b : Bool) → ltb (2 ^ 52 + h) G ≡ b → add binary64 first (lower l) ≡ difference_of u (2 ^ 63)
      go true e =
          let k = ltb-true (2 ^ 52 + h) G e in
          total true (G - (2 ^ 52 + h)) (omega arith) (first_less k) ∙ unlike_is ((G - (2 ^ 52 + h)) * 2 ^ 32) (2 ^ 52 + l) u (omega (arith, k))
      go false e =
          let k = ltb-false (2 ^ 52 + h) G e in
          total false (2 ^ 52 + h - G) (omega arith) (first_more k) ∙ like_is ((2 ^ 52 + h - G) * 2 ^ 32) (2 ^ 52 + l) u (omega (arith, k))
