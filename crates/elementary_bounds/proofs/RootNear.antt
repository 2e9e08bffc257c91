-- The square root by its value: x lies between the squares of the root's neighbours' halves. Assumes nothing.
use mathlib.Core.Path.{◌≡◌, refl, sym, ap, ◌∙◌, subst}
use mathlib.Core.Bool.{Bool, true, false, cond, ◌&&◌, ◌||◌, beq}
use Prim.Native.Nat.{ℕ, zero, suc, ◌+◌, ◌-◌, ◌*◌, ◌/◌, ◌%◌, ◌^◌, ◌≤◌, ◌<◌}
use native.Mathlib.Omega.{arith}
use native.Mathlib.Nat.{add_comm, le-add_right, lt_of_lt_of_le, le_of_mul-le-mul_right, mul-le-mul_left, one-mul, mod-lt, mul-le-mul, pow-succ', zero-add, mul-lt-mul_of_pos_right, mul-le-mul_right, lt_of_mul-lt-mul_right, mul-pos}
use borrow.Author.Tests.{ltb-true, ltb-false, lt-ltb, le-ltb, lt-leb, ne_eqb}
use lib.Dec.{T, ltb, eqb, leb→le, lit≤}
use lib.Pow.{pow_pos, pow_mono, pow-add, shl_lt}
use lib.IntN.{ℤ}
use lib.Ieee.{Float, nan, inf, fin, binary64, up, down, odd, fits, is_nan, lt, eq, mul, round, of_fields, of_bits, to_bits}
use lib.Ieee.Exact.{HasValue, odd_sign, round_exact}
use lib.Ieee.Fits.{down_pos, round-fits}
use Rattle.fixed_point.proofs.Range.{not_negative}
use Rattle.square_root.proofs.RootCases.{sqrt_normal, sqrt_tiny}
use Rattle.square_root.proofs.Squares.{radicand_le}
use Rattle.fixed_point.proofs.Product.{below_mul}
use Rattle.fixed_point.proofs.Decode.{lead, field, digits, value}
use Rattle.square_root.specs.Root.{root_digits, nearest_of, radicand_of, root_of, sqrt_of}

-- ---- the definition's digits give the nearest root

abbrev Lower : ℕ → ℕ → Type 0
Lower a r = (2 * r - 1) * (2 * r - 1) < a * 2 ^ 54

abbrev Gts7Output : ℕ → ℕ → Type 0
Gts7Output a r = a * 2 ^ 54 ≤ (2 * r - 1) * (2 * r - 1)

digits_near : (a n r : ℕ) → Lower a r → Gts7Output a (r + 2 ^ n) → Lower a (root_digits a n r) × Gts7Output a (root_digits a n r + 1) × (root_digits a n r < r + 2 ^ n)
digits_near a zero r l u = (l, u, next r)
  where
    next : (r : ℕ) → r < r + 1
    next r = omega arith
digits_near a (suc n) r l u = go (digits_near a n (r + 2 ^ n)) (digits_near a n r) (ltb ((2 * (r + 2 ^ n) - 1) * (2 * (r + 2 ^ n) - 1)) (a * 2 ^ 54)) refl
  where
    m : ℕ
    m = r + 2 ^ n

    halves : r + 2 ^ suc n ≡ m + 2 ^ n
    halves = twice r (2 ^ n) (2 ^ suc n) (pow-succ' 2 n)
      where
        twice : (r w v : ℕ) → v ≡ 2 * w → r + v ≡ r + w + w
        twice r w v e = omega arith

    wider : (R : ℕ) → R < r + 2 ^ n → R < r + 2 ^ suc n
    wider R h = more R r (2 ^ n) (2 ^ suc n) (pow-succ' 2 n) h
      where
        more : (R r w v : ℕ) → v ≡ 2 * w → R < r + w → R < r + v
        more R r w v e h = omega arith

    Found : ℕ → ℕ → Type 0
    Found R w = Lower a R × Gts7Output a (R + 1) × (R < w)

    go : (Lower a m → Gts7Output a (m + 2 ^ n) → Found (root_digits a n m) (m + 2 ^ n)) → (Lower a r → Gts7Output a (r + 2 ^ n) → Found (root_digits a n r) (r + 2 ^ n)) → (b : Bool) → ltb ((2 * m - 1) * (2 * m - 1)) (a * 2 ^ 54) ≡ b → Found (root_digits a n (cond b m r)) (r + 2 ^ suc n)
    go f g true e =
        let z = f (ltb-true ((2 * m - 1) * (2 * m - 1)) (a * 2 ^ 54) e) (subst (Gts7Output a) halves u) in
        (z.0, z.1, subst (λ (w : ℕ). root_digits a n m < w) (sym halves) z.2)
    go f g false e =
        let z = g l (ltb-false ((2 * m - 1) * (2 * m - 1)) (a * 2 ^ 54) e) in
        (z.0, z.1, wider (root_digits a n r) z.2)

-- both ends, and 53 digits
pub record Found (a r : ℕ) : Type 0 where
  pub under : (2 * r - 1) * (2 * r - 1) < a * 2 ^ 54
  pub over : a * 2 ^ 54 < (2 * r + 1) * (2 * r + 1)
  pub least : 2 ^ 52 ≤ r
  pub most : r < 2 ^ 53

pub nearest_found : (a : ℕ) → 2 ^ 52 ≤ a → a + 2 ≤ 2 ^ 54 → Found a (nearest_of a)
unfolding nearest_of
nearest_found a h k =
    let z = digits_near a 53 0 (first a h) (last a k) in
    let o = odd_end a (root_digits a 53 0) z.1 in
    record { under = z.0; over = o; least = lt_of_not_le_suc (root_digits a 53 0) o; most = subst (λ (n : ℕ). root_digits a 53 0 < n) (zero-add (2 ^ 53)) z.2 }
  where
    first : (a : ℕ) → 2 ^ 52 ≤ a → Lower a 0
    first a h = omega arith

    last : (a : ℕ) → a + 2 ≤ 2 ^ 54 → Gts7Output a (0 + 2 ^ 53)
    last a k = omega arith

    odd_end : (a r : ℕ) → a * 2 ^ 54 ≤ (2 * (r + 1) - 1) * (2 * (r + 1) - 1) → a * 2 ^ 54 < (2 * r + 1) * (2 * r + 1)
    odd_end a r h = even a r (subst (λ (n : ℕ). a * 2 ^ 54 ≤ n * n) (same r) h)
      where
        same : (r : ℕ) → 2 * (r + 1) - 1 ≡ 2 * r + 1
        same r = omega arith

        even : (a r : ℕ) → a * 2 ^ 54 ≤ (2 * r + 1) * (2 * r + 1) → a * 2 ^ 54 < (2 * r + 1) * (2 * r + 1)
        even a r h = omega arith

    lt_of_not_le_suc : (r : ℕ) → a * 2 ^ 54 < (2 * r + 1) * (2 * r + 1) → 2 ^ 52 ≤ r
    lt_of_not_le_suc r o = go (ltb r (2 ^ 52)) refl
      where
        step : (r : ℕ) → r < 2 ^ 52 → 2 * r + 1 ≤ 9007199254740991
        step r h = omega arith

        no : (s : ℕ) → 2 ^ 52 ≤ a → a * 2 ^ 54 < s → s ≤ 9007199254740991 * 9007199254740991 → ⊥
        no s h o g = omega arith

        go : (b : Bool) → ltb r (2 ^ 52) ≡ b → 2 ^ 52 ≤ r
        go false e = ltb-false r (2 ^ 52) e
        go true e =
            let l = step r (ltb-true r (2 ^ 52) e) in
            absurd (no ((2 * r + 1) * (2 * r + 1)) h o (below_mul 9007199254740991 9007199254740991 l l))

-- ---- the float with given fields

fields : (F t : ℕ) → suc F ≤ 2046 → of_fields binary64 false (suc F) t ≡ odd 53 false (2 ^ 52 + t) F 1074
unfolding of_fields
fields F t h = ap (λ (b : Bool). cond b (cond (eqb t 0) (inf false) nan) (odd 53 false (2 ^ 52 + t) F 1074)) (ne_eqb (suc F) 2047 (apart (suc F) h))
  where
    apart : (k : ℕ) → k ≤ 2046 → k ≡ 2047 → ⊥
    apart k h e = omega arith

bits : (F t : ℕ) → suc F ≤ 2046 → t < 2 ^ 52 → of_bits binary64 (suc F * 2 ^ 52 + t) ≡ of_fields binary64 false (suc F) t
unfolding of_bits
bits F t h k =
    let b = suc F * 2 ^ 52 + t in
    ap (λ (s : Bool). of_fields binary64 s (b % 2 ^ 63 / 2 ^ 52) (b % 2 ^ 52)) (lt-leb (2 ^ 63) b (small (suc F) t h k))
    ∙ ap (λ (y : ℕ). of_fields binary64 false y (b % 2 ^ 52)) (upper (suc F) t h k)
    ∙ ap (of_fields binary64 false (suc F)) (lower (suc F) t h k)
  where
    small : (y t : ℕ) → y ≤ 2046 → t < 2 ^ 52 → y * 2 ^ 52 + t < 2 ^ 63
    small y t h k = omega arith

    upper : (y t : ℕ) → y ≤ 2046 → t < 2 ^ 52 → (y * 2 ^ 52 + t) % 2 ^ 63 / 2 ^ 52 ≡ y
    upper y t h k = omega arith

    lower : (y t : ℕ) → y ≤ 2046 → t < 2 ^ 52 → (y * 2 ^ 52 + t) % 2 ^ 52 ≡ t
    lower y t h k = omega arith

-- digits r with the leading one, over the field F
bits_value : (F r : ℕ) → suc F ≤ 2046 → 2 ^ 52 ≤ r → r < 2 ^ 53 → HasValue (of_bits binary64 (F * 2 ^ 52 + r)) false (r * 2 ^ F) (2 ^ 1074)
bits_value F r h l m =
    subst (λ (b : ℕ). HasValue (of_bits binary64 b) false (r * 2 ^ F) (2 ^ 1074)) (sym (lead F r l))
    (subst (λ (q : ℕ). HasValue (of_bits binary64 (suc F * 2 ^ 52 + (r - 2 ^ 52))) false (q * 2 ^ F) (2 ^ 1074)) (whole r l)
    (subst (λ (x : Float). HasValue x false ((2 ^ 52 + (r - 2 ^ 52)) * 2 ^ F) (2 ^ 1074)) (sym (bits F (r - 2 ^ 52) h (rest r m) ∙ fields F (r - 2 ^ 52) h)) (odd_sign 53 false (2 ^ 52 + (r - 2 ^ 52)) F 1074)))
  where
    lead : (F r : ℕ) → 2 ^ 52 ≤ r → F * 2 ^ 52 + r ≡ suc F * 2 ^ 52 + (r - 2 ^ 52)
    lead F r l = omega arith

    whole : (r : ℕ) → 2 ^ 52 ≤ r → 2 ^ 52 + (r - 2 ^ 52) ≡ r
    whole r l = omega arith

    rest : (r : ℕ) → r < 2 ^ 53 → r - 2 ^ 52 < 2 ^ 52
    rest r m = omega arith

-- ---- the radicand and the exponent

-- half the exponent: 2 ^ y is the square of 2 ^ (y / 2), once or twice
half : (y : ℕ) → (2 ^ y ≡ 2 ^ (y / 2) * 2 ^ (y / 2) * (2 - suc y % 2)) × ((suc y + 1021) / 2 ≡ 511 + y / 2)
half y = (go (y % 2) refl, other y)
  where
    other : (y : ℕ) → (suc y + 1021) / 2 ≡ 511 + y / 2
    other y = omega arith

    even : (y : ℕ) → y % 2 ≡ 0 → (y ≡ y / 2 + y / 2) × (2 - suc y % 2 ≡ 1)
    even y e = (omega arith, omega arith)

    uneven : (y r : ℕ) → y % 2 ≡ suc r → (y ≡ y / 2 + (y / 2 + 1)) × (2 - suc y % 2 ≡ 2)
    uneven y r e = (omega arith, omega arith)

    once : (P Q s : ℕ) → Q ≡ P * P → s ≡ 1 → Q ≡ P * P * s
    once P Q s e f = omega (arith, ap (λ (z : ℕ). P * P * z) f)

    twice : (P Q R s : ℕ) → Q ≡ P * R → R ≡ P * 2 → s ≡ 2 → Q ≡ P * P * s
    twice P Q R s e f g = omega (arith, ap (λ (z : ℕ). P * z) f, ap (λ (z : ℕ). P * P * z) g)

    go : (r : ℕ) → y % 2 ≡ r → 2 ^ y ≡ 2 ^ (y / 2) * 2 ^ (y / 2) * (2 - suc y % 2)
    go zero e =
        let z = even y e in
        once (2 ^ (y / 2)) (2 ^ y) (2 - suc y % 2) (ap (λ (n : ℕ). 2 ^ n) z.0 ∙ pow-add 2 (y / 2) (y / 2)) z.1
    go (suc r) e =
        let z = uneven y r e in
        twice (2 ^ (y / 2)) (2 ^ y) (2 ^ (y / 2 + 1)) (2 - suc y % 2) (ap (λ (n : ℕ). 2 ^ n) z.0 ∙ pow-add 2 (y / 2) (y / 2 + 1)) (pow-add 2 (y / 2) 1) z.1

-- the radicand in the root's units: K is 4 * 2 ^ 1074
radicand_is : (q y : ℕ) → q * (2 - suc y % 2) * 2 ^ 54 * (2 ^ ((suc y + 1021) / 2) * 2 ^ ((suc y + 1021) / 2)) ≡ 4 * 2 ^ 1074 * (q * 2 ^ y)
radicand_is q y =
    let h = half y in
    plain q (2 - suc y % 2) (2 ^ (y / 2)) (2 ^ 511) (2 ^ 54) (4 * 2 ^ 1074) (2 ^ ((suc y + 1021) / 2)) (2 ^ y) (ap (λ (n : ℕ). 2 ^ n) h.1 ∙ pow-add 2 511 (y / 2)) h.0 refl
  where
    ring : (q s P c C : ℕ) → q * s * C * (c * P * (c * P)) ≡ C * (c * c) * (q * (P * P * s))
    ring q s P c C = omega arith

    plain : (q s P c C K F Y : ℕ) → F ≡ c * P → Y ≡ P * P * s → K ≡ C * (c * c) → q * s * C * (F * F) ≡ K * (q * Y)
    plain q s P c C K F Y e f g = ap (λ (z : ℕ). q * s * C * (z * z)) e ∙ ring q s P c C ∙ sym (ap (λ (z : ℕ). K * (q * z)) f ∙ ap (λ (z : ℕ). z * (q * (P * P * s))) g)

-- ---- the root of the digits, for x from 2 ^ -1022 on

-- y is r units of 2 ^ f / 2 ^ 1074, and n / d lies strictly between the squares of r - 1 / 2 and r + 1 / 2 units
abbrev pub Between : Float → ℕ → ℕ → Type 0
Between y n d =
    (r : ℕ) × (f : ℕ) × (2 ^ 52 ≤ r) × (r < 2 ^ 53) × HasValue y false (r * 2 ^ f) (2 ^ 1074)
    × ((2 * r - 1) * (2 * r - 1) * (2 ^ f * 2 ^ f) * d < 4 * n * 2 ^ 2148) × (4 * n * 2 ^ 2148 < (2 * r + 1) * (2 * r + 1) * (2 ^ f * 2 ^ f) * d)

module _ (m : ℕ) (e : ℤ) (fx : T (fits binary64 (fin false m e))) (h : down e ≤ m * up e * 2 ^ 1022) where
  abbrev x : Float
  x = fin false m e

  abbrev n : ℕ
  n = m * up e

  abbrev d : ℕ
  d = down e

  abbrev t : ℕ
  t = digits x fx tt

  t_lt : t < 2 ^ 52
  t_lt = mod-lt (to_bits binary64 x % 2 ^ 63) (pow_pos 52)

  -- it has a leading one
  leading : (f : ℕ) → field x fx tt ≡ f → (y : ℕ) × (field x fx tt ≡ suc y)
  leading zero g = absurd (no n d t (2 ^ 1022) (2 ^ 1074) (ap (λ (f : ℕ). lead f t * d) g) h (value x fx tt) t_lt (down_pos e) refl)
    where
      no : (n d t P Q : ℕ) → lead (field x fx tt) t * d ≡ t * 2 ^ 0 * d → d ≤ n * P → n * Q ≡ lead (field x fx tt) t * d → t < 2 ^ 52 → 0 < d → Q ≡ 2 ^ 52 * P → ⊥
      no n d t P Q g h v l p q = less n d t P Q (v ∙ g) h (mul-le-mul_right d l) p q
        where
          less : (n d t P Q : ℕ) → n * Q ≡ t * 2 ^ 0 * d → d ≤ n * P → suc t * d ≤ 2 ^ 52 * d → 0 < d → Q ≡ 2 ^ 52 * P → ⊥
          less n d t P Q v h l p q = omega (arith, ap (λ (z : ℕ). n * z) q)
  leading (suc y) g = (y, g)

  -- the root over 2 ^ k by its fields, for the field y + 1
  module _ (k y : ℕ) (l : k ≤ 27) (g : field x fx tt ≡ suc y) where
    abbrev F : ℕ
    F = (suc y + 1021) / 2

    abbrev f : ℕ
    f = F - k

    abbrev a : ℕ
    a = radicand_of (suc y) t

    abbrev r : ℕ
    r = nearest_of a

    found : Found a r
    found = nearest_found a (low (t + 2 ^ 52) (2 - suc y % 2) (wide t) (one y)) (high a (radicand_le (t + 2 ^ 52) (suc y) (wide t) (narrow t t_lt)))
      where
        wide : (t : ℕ) → 2 ^ 52 ≤ t + 2 ^ 52
        wide t = omega arith

        narrow : (t : ℕ) → t < 2 ^ 52 → t + 2 ^ 52 < 2 ^ 53
        narrow t h = omega arith

        one : (y : ℕ) → 1 ≤ 2 - suc y % 2
        one y = omega arith

        low : (q s : ℕ) → 2 ^ 52 ≤ q → 1 ≤ s → 2 ^ 52 ≤ q * s
        low q s h k = mul-le-mul h k

        high : (a : ℕ) → a ≤ 9007199254740991 * 2 → a + 2 ≤ 2 ^ 54
        high a h = omega arith

    root_is : root_of x k ≡ of_bits binary64 (f * 2 ^ 52 + r)
    unfolding root_of
    root_is = ap (λ (F : ℕ). of_bits binary64 (((F + 1021) / 2 - k) * 2 ^ 52 + nearest_of (radicand_of F t))) g

    f_le : suc f ≤ 2046
    f_le = less y k (subst (λ (n : ℕ). n < 2048) g (field_lt (to_bits binary64 x)))
      where
        field_lt : (b : ℕ) → b % 2 ^ 63 / 2 ^ 52 < 2048
        field_lt b = omega arith

        less : (y k : ℕ) → suc y < 2048 → suc ((suc y + 1021) / 2 - k) ≤ 2046
        less y k h = omega arith

    shifted : 2 ^ F ≡ 2 ^ f * 2 ^ k
    shifted = ap (λ (n : ℕ). 2 ^ n) (whole y k l) ∙ pow-add 2 f k
      where
        whole : (y k : ℕ) → k ≤ 27 → (suc y + 1021) / 2 ≡ (suc y + 1021) / 2 - k + k
        whole y k l = omega arith

    -- 4 x in units of the square of the root's unit
    four : 4 * n * 2 ^ 2148 ≡ a * 2 ^ 54 * (2 ^ f * 2 ^ f) * (2 ^ k * 2 ^ k * d)
    four =
        plain n (2 ^ 1074) (2 ^ 2148) (t + 2 ^ 52) (2 ^ 52 + t) (2 ^ y) d (a * 2 ^ 54 * (2 ^ F * 2 ^ F)) refl (value x fx tt ∙ ap (λ (F : ℕ). lead F t * d) g) (add_comm (2 ^ 52) t) (radicand_is (t + 2 ^ 52) y)
        ∙ ap (λ (z : ℕ). a * 2 ^ 54 * (z * z) * d) shifted
        ∙ ring (a * 2 ^ 54) (2 ^ f) (2 ^ k) d
      where
        plain : (n Q S q p Y d s : ℕ) → S ≡ Q * Q → n * Q ≡ p * Y * d → p ≡ q → s ≡ 4 * Q * (q * Y) → 4 * n * S ≡ s * d
        plain n Q S q p Y d s i j k l = omega (arith, ap (λ (z : ℕ). 4 * n * z) i, ap (λ (z : ℕ). 4 * Q * z) j, ap (λ (z : ℕ). 4 * Q * (z * Y * d)) k, ap (λ (z : ℕ). z * d) l)

        ring : (s u v d : ℕ) → s * (u * v * (u * v)) * d ≡ s * (u * u) * (v * v * d)
        ring s u v d = omega arith

    above_all : {u v : ℕ} → u < v → u * (2 ^ f * 2 ^ f) * (2 ^ k * 2 ^ k * d) < v * (2 ^ f * 2 ^ f) * (2 ^ k * 2 ^ k * d)
    above_all h = mul-lt-mul_of_pos_right (mul-lt-mul_of_pos_right h (mul-pos (pow_pos f) (pow_pos f))) (mul-pos (mul-pos (pow_pos k) (pow_pos k)) (down_pos e))

    between : Between (root_of x k) n (2 ^ k * 2 ^ k * d)
    between =
        let s = found in (
          r,
          f,
          s.least,
          s.most,
          subst (λ (z : Float). HasValue z false (r * 2 ^ f) (2 ^ 1074)) (sym root_is) (bits_value f r f_le s.least s.most),
          subst (λ (z : ℕ). (2 * r - 1) * (2 * r - 1) * (2 ^ f * 2 ^ f) * (2 ^ k * 2 ^ k * d) < z) (sym four) (above_all s.under),
          subst (λ (z : ℕ). z < (2 * r + 1) * (2 * r + 1) * (2 ^ f * 2 ^ f) * (2 ^ k * 2 ^ k * d)) (sym four) (above_all s.over),
        )

  root_between : (k : ℕ) → k ≤ 27 → Between (root_of x k) n (2 ^ k * 2 ^ k * d)
  root_between k l =
      let z = leading (field x fx tt) refl in
      between k z.0 l z.1

  some : 0 < n
  some = positive n d (2 ^ 1022) (down_pos e) h
    where
      positive : (n d P : ℕ) → 0 < d → d ≤ n * P → 0 < n
      positive zero d P p h = absurd (no d P p h)
        where
          no : (d P : ℕ) → 0 < d → d ≤ 0 * P → ⊥
          no d P p h = omega arith
      positive (suc n) d P p h = omega arith

  -- the tests that lead to the root of the digits
  normal : sqrt_of x ≡ root_of x 0
  unfolding is_nan lt eq
  normal = sqrt_normal x refl (not_negative m e) (ap (λ (b : Bool). b && (beq false false || eqb (n * 1) 0)) (ne_eqb (n * 1) (0 * 1 * d) (apart n d some))) refl (le-ltb (n * 2 ^ 1022) (1 * 1 * d) (ones n d (2 ^ 1022) h))
    where
      apart : (n d : ℕ) → 0 < n → n * 1 ≡ 0 * 1 * d → ⊥
      apart n d h e = omega arith

      ones : (n d P : ℕ) → d ≤ n * P → 1 * 1 * d ≤ n * P
      ones n d P h = omega arith

  normal_between : Between (sqrt_of x) n d
  normal_between = subst (λ (y : Float). Between y n d) (sym normal) (subst (Between (root_of x 0) n) (one-mul d) (root_between 0 (lit≤ {m = 0} {n = 27} tt)))

-- ---- a smaller x, 2 ^ 54 times as large

-- a fraction that is 2 ^ 54 times another, with the root over 2 ^ 27
moved : (y : Float) (n d p q : ℕ) → 0 < d → p * d ≡ n * 2 ^ 54 * q → Between y p (2 ^ 27 * 2 ^ 27 * q) → Between y n d
moved y n d p q h e z = (
  z.0,
  z.1,
  z.2,
  z.3,
  z.4,
  lt_of_mul-lt-mul_right (2 ^ 54 * q) (low ((2 * z.0 - 1) * (2 * z.0 - 1) * (2 ^ z.1 * 2 ^ z.1)) (2 ^ 2148) (2 ^ 54) (mul-lt-mul_of_pos_right z.5 h) e),
  lt_of_mul-lt-mul_right (2 ^ 54 * q) (up ((2 * z.0 + 1) * (2 * z.0 + 1) * (2 ^ z.1 * 2 ^ z.1)) (2 ^ 2148) (2 ^ 54) (mul-lt-mul_of_pos_right z.6 h) e),
)
  where
    low : (s v C : ℕ) → s * (C * q) * d < 4 * p * v * d → p * d ≡ n * C * q → s * d * (C * q) < 4 * n * v * (C * q)
    low s v C g e = omega (arith, g, ap (λ (z : ℕ). 4 * v * z) e)

    up : (s v C : ℕ) → 4 * p * v * d < s * (C * q) * d → p * d ≡ n * C * q → 4 * n * v * (C * q) < s * d * (C * q)
    up s v C g e = omega (arith, g, ap (λ (z : ℕ). 4 * v * z) e)

-- the larger number: exact, positive, and not below 2 ^ -1022
lifted : (x' : Float) (n d : ℕ) → T (fits binary64 x') → 0 < d → d ≤ n * 2 ^ 1074 → HasValue x' false (n * (1 * 2 ^ 54)) (d * 1) → Between (root_of x' 27) n d
lifted nan n d fx p h v = absurd v
lifted (inf s) n d fx p h v = absurd v
lifted (fin true m e) n d fx p h v = absurd (subst T v.0 tt)
lifted (fin false m e) n d fx p h v =
    let w = across (m * up e) (down e) n d (2 ^ 54) v.1 in
    moved (root_of (fin false m e) 27) n d (m * up e) (down e) p w (root_between m e fx (le_of_mul-le-mul_right (far (m * up e) (down e) n d (2 ^ 1022) (2 ^ 1074) (2 ^ 54) h (leb→le (2 ^ 1074) (2 ^ 54 * 2 ^ 1022) tt) w) p) 27 (lit≤ {m = 27} {n = 27} tt))
  where
    across : (p q n d C : ℕ) → p * (d * 1) ≡ n * (1 * C) * q → p * d ≡ n * C * q
    across p q n d C e = omega arith

    far : (p q n d P Q C : ℕ) → d ≤ n * Q → Q ≤ C * P → p * d ≡ n * C * q → q * d ≤ p * P * d
    far p q n d P Q C h l e = omega (arith, mul-le-mul_left q h, mul-le-mul_left (q * n) l, ap (λ (z : ℕ). P * z) e)

module _ (m : ℕ) (e : ℤ) (fx : T (fits binary64 (fin false m e))) (p : 0 < m * up e) (h : m * up e * 2 ^ 1022 < down e) where
  abbrev xs : Float
  xs = fin false m e

  abbrev ns : ℕ
  ns = m * up e

  abbrev ds : ℕ
  ds = down e

  abbrev ts : ℕ
  ts = digits xs fx tt

  ts_lt : ts < 2 ^ 52
  ts_lt = mod-lt (to_bits binary64 xs % 2 ^ 63) (pow_pos 52)

  -- it has no leading one
  units : ns * 2 ^ 1074 ≡ ts * 2 ^ 0 * ds
  units = go (field xs fx tt) refl
    where
      no : (ns ds ts Y P Q : ℕ) → ns * Q ≡ (2 ^ 52 + ts) * Y * ds → ns * P < ds → 0 < Y → Q ≡ P * 2 ^ 52 → 2 ^ 52 * 1 * ds ≤ (2 ^ 52 + ts) * Y * ds → ⊥
      no ns ds ts Y P Q v h y q l = omega (arith, ap (λ (z : ℕ). ns * z) q)

      wide : (ts Y ds : ℕ) → 0 < Y → 2 ^ 52 * 1 * ds ≤ (2 ^ 52 + ts) * Y * ds
      wide ts Y ds y = mul-le-mul_right ds (mul-le-mul (le-add_right (2 ^ 52) ts) y)

      go : (f : ℕ) → field xs fx tt ≡ f → ns * 2 ^ 1074 ≡ ts * 2 ^ 0 * ds
      go zero g = value xs fx tt ∙ ap (λ (f : ℕ). lead f ts * ds) g
      go (suc y) g = absurd (no ns ds ts (2 ^ y) (2 ^ 1022) (2 ^ 1074) (value xs fx tt ∙ ap (λ (f : ℕ). lead f ts * ds) g) h (pow_pos y) refl (wide ts (2 ^ y) ds (pow_pos y)))

  pub smallest : ds ≤ ns * 2 ^ 1074
  smallest = subst (λ (z : ℕ). ds ≤ z) (sym units) (one ts (some ts units))
    where
      some : (ts : ℕ) → ns * 2 ^ 1074 ≡ ts * 2 ^ 0 * ds → 0 < ts
      some zero u = absurd (none (ns * 2 ^ 1074) (mul-pos p (pow_pos 1074)) u)
        where
          none : (a : ℕ) → 0 < a → a ≡ 0 * 2 ^ 0 * ds → ⊥
          none a h u = omega arith
      some (suc ts) u = omega arith

      one : (ts : ℕ) → 0 < ts → ds ≤ ts * 2 ^ 0 * ds
      one ts h = ones ts ds (mul-le-mul_right ds h)
        where
          ones : (ts ds : ℕ) → 1 * ds ≤ ts * ds → ds ≤ ts * 2 ^ 0 * ds
          ones ts ds h = omega arith

  pub exact : HasValue (round binary64 false (ns * (1 * 2 ^ 54)) (ds * 1)) false (ns * (1 * 2 ^ 54)) (ds * 1)
  exact = round_exact binary64 false (ns * (1 * 2 ^ 54)) (ds * 1) ts 54 (ones ds (down_pos e)) (lt_of_lt_of_le ts_lt (leb→le (2 ^ 52) (2 ^ 53) tt)) (lt_of_lt_of_le (shl_lt 52 54 ts_lt) (pow_mono {i = 106} {j = 2098} (lit≤ {m = 106} {n = 2098} tt))) (scale ns ts ds (2 ^ 54) (2 ^ 1074) units)
    where
      ones : (ds : ℕ) → 0 < ds → 0 < ds * 1
      ones ds h = omega arith

      scale : (ns ts ds C Q : ℕ) → ns * Q ≡ ts * 2 ^ 0 * ds → ns * (1 * C) * Q ≡ ts * C * (ds * 1)
      scale ns ts ds C Q u = omega (arith, ap (λ (z : ℕ). z * C) u)

  -- the tests that lead to it
  tiny_is : sqrt_of xs ≡ root_of (round binary64 false (ns * (1 * 2 ^ 54)) (ds * 1)) 27
  unfolding is_nan lt eq mul
  tiny_is = sqrt_tiny xs refl (not_negative m e) (ap (λ (b : Bool). b && (beq false false || eqb (ns * 1) 0)) (ne_eqb (ns * 1) (0 * 1 * ds) (apart ns ds p))) refl (lt-ltb (ns * 2 ^ 1022) (1 * 1 * ds) (ones ns ds (2 ^ 1022) h))
    where
      apart : (ns ds : ℕ) → 0 < ns → ns * 1 ≡ 0 * 1 * ds → ⊥
      apart ns ds h e = omega arith

      ones : (ns ds P : ℕ) → ns * P < ds → ns * P < 1 * 1 * ds
      ones ns ds P h = omega arith

  tiny_between : Between (sqrt_of xs) ns ds
  tiny_between = subst (λ (y : Float). Between y ns ds) (sym tiny_is) (lifted (round binary64 false (ns * (1 * 2 ^ 54)) (ds * 1)) ns ds (round-fits binary64 false (ns * (1 * 2 ^ 54)) (ds * 1)) (down_pos e) smallest exact)

-- ---- every x above 0

pub root_near : (m : ℕ) (e : ℤ) → T (fits binary64 (fin false m e)) → 0 < m * up e → Between (sqrt_of (fin false m e)) (m * up e) (down e)
root_near m e fx p = go (ltb (m * up e * 2 ^ 1022) (down e)) refl
  where
    go : (b : Bool) → ltb (m * up e * 2 ^ 1022) (down e) ≡ b → Between (sqrt_of (fin false m e)) (m * up e) (down e)
    go true b = tiny_between m e fx p (ltb-true (m * up e * 2 ^ 1022) (down e) b)
    go false b = normal_between m e fx (ltb-false (m * up e * 2 ^ 1022) (down e) b)
