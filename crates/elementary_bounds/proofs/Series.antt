-- Polynomials with whole coefficients, of any number of terms: moved to another centre, and compared coefficient by coefficient. Assumes nothing.
use mathlib.Core.Path.{◌≡◌, refl, sym, ap, ◌∙◌, subst}
use mathlib.Core.Bool.{Bool, true, false, ◌&&◌}
use mathlib.Core.List.{List, [], ◌∷◌}
use Prim.Native.Nat.{ℕ, zero, suc, ◌+◌, ◌-◌, ◌*◌, ◌/◌, ◌%◌, ◌^◌, ◌≤◌, ◌<◌, zero-le}
use native.Mathlib.Omega.{arith}
use native.Mathlib.Nat.{mul-le-mul, mul-le-mul_left, mul-le-mul_right, le_of_mul-le-mul_left, le_of_lt, div-lt_iff_lt-mul, div-add-mod', mod-lt, le-add_right, le_trans, le_of_suc-le-suc, not-suc-le-zero, zero-add, suc-add, add-suc, add-zero, pow-zero, pow-succ'}
use lib.ListN.{length, get_or}
use lib.Dec.{T, leb, leb→le}
use lib.Ieee.Fits.{and_l, and_r}
use Rattle.elementary_bounds.specs.Series.{ev}

-- r + (c + u) * p
abbrev pub linear : ℕ → ℕ → List ℕ → List ℕ
linear c r [] = r ∷ []
linear c r (b ∷ p) = (r + c * b) ∷ linear c b p

step : (c r b u v w : ℕ) → v ≡ b + (c + u) * w → r + c * b + u * v ≡ r + (c + u) * (b + u * w)
step c r b u v w e = omega (arith, ap (λ (z : ℕ). u * z) e)

linear_is : (c r : ℕ) (p : List ℕ) (u : ℕ) → ev (linear c r p) u ≡ r + (c + u) * ev p u
linear_is c r [] u = omega arith
linear_is c r (b ∷ p) u = step c r b u (ev (linear c b p) u) (ev p u) (linear_is c b p u)

-- the same polynomial about c
abbrev pub shift : ℕ → List ℕ → List ℕ
shift c [] = []
shift c (a ∷ p) = linear c a (shift c p)

pub shift_is : (c : ℕ) (p : List ℕ) (u : ℕ) → ev (shift c p) u ≡ ev p (c + u)
shift_is c [] u = refl
shift_is c (a ∷ p) u = linear_is c a (shift c p) u ∙ ap (λ (z : ℕ). a + (c + u) * z) (shift_is c p u)

-- each coefficient times k
abbrev pub times : ℕ → List ℕ → List ℕ
times k [] = []
times k (a ∷ p) = k * a ∷ times k p

pub times_is : (k : ℕ) (p : List ℕ) (u : ℕ) → ev (times k p) u ≡ k * ev p u
times_is k [] u = omega arith
times_is k (a ∷ p) u = times_step k a u (ev (times k p) u) (ev p u) (times_is k p u)
  where
    times_step : (k a u v w : ℕ) → v ≡ k * w → k * a + u * v ≡ k * (a + u * w)
    times_step k a u v w e = omega (arith, ap (λ (z : ℕ). u * z) e)

abbrev pub apart : ℕ → ℕ → ℕ
apart a b = (a - b) + (b - a)

-- how far two polynomials can be apart up to w
abbrev pub gap : List ℕ → List ℕ → ℕ → ℕ
gap [] q w = ev q w
gap (a ∷ p) [] w = ev (a ∷ p) w
gap (a ∷ p) (b ∷ q) w = apart a b + w * gap p q w

pub ev_mono : (p : List ℕ) (u w : ℕ) → u ≤ w → ev p u ≤ ev p w
ev_mono [] u w h = zero-le
ev_mono (a ∷ p) u w h = mono_step a u w (ev p u) (ev p w) (mul-le-mul_left u (ev_mono p u w h)) (mul-le-mul_right (ev p w) h)
  where
    mono_step : (a u w x y : ℕ) → u * x ≤ u * y → u * y ≤ w * y → a + u * x ≤ a + w * y
    mono_step a u w x y g k = omega arith

near_step : (a b u w x y g : ℕ) → u * x ≤ u * (y + g) → u * g ≤ w * g → a + u * x ≤ b + u * y + (apart a b + w * g)
near_step a b u w x y g h k = omega arith

pub near : (p q : List ℕ) (u w : ℕ) → u ≤ w → (ev p u ≤ ev q u + gap p q w) × (ev q u ≤ ev p u + gap p q w)
near [] q u w h = (zero-le, omega (arith, ev_mono q u w h))
near (a ∷ p) [] u w h = (omega (arith, ev_mono (a ∷ p) u w h), zero-le)
near (a ∷ p) (b ∷ q) u w h =
    let n = near p q u w h in
    let g = gap p q w in
    let k = mul-le-mul_right g h in
    (near_step a b u w (ev p u) (ev q u) g (mul-le-mul_left u n.0) k, turn (b + u * ev q u) (a + u * ev p u) (w * g) (near_step b a u w (ev q u) (ev p u) g (mul-le-mul_left u n.1) k))
  where
    turn : (x y c : ℕ) → x ≤ y + (apart b a + c) → x ≤ y + (apart a b + c)
    turn x y c h = omega arith

-- ---- a table of values: each entry times a series stays near the polynomial about its centre

-- the test at the entries from the i-th on, whose centres are `width` apart
abbrev pub fitting : List ℕ → List ℕ → ℕ → ℕ → ℕ → ℕ → List ℕ → Bool
fitting p q k width bound i [] = true
fitting p q k width bound i (x ∷ xs) = leb (gap (times k (shift (i * width) p)) (times x q) width) bound && fitting p q k width bound (suc i) xs

-- k * p (i * width + u) lies within `bound` of the i-th entry times q u
abbrev pub Close : List ℕ → List ℕ → ℕ → ℕ → ℕ → ℕ → ℕ → Type 0
Close p q k bound c x u = (k * ev p (c + u) ≤ x * ev q u + bound) × (x * ev q u ≤ k * ev p (c + u) + bound)

close : (p q : List ℕ) (k bound c x u width : ℕ) → u ≤ width → gap (times k (shift c p)) (times x q) width ≤ bound → Close p q k bound c x u
close p q k bound c x u width h g =
    let n = near (times k (shift c p)) (times x q) u width h in
    let a = times_is k (shift c p) u ∙ ap (λ (z : ℕ). k * z) (shift_is c p u) in
    let b = times_is x q u in
    (both (ev (times k (shift c p)) u) (ev (times x q) u) _ _ _ _ a b n.0 g, both (ev (times x q) u) (ev (times k (shift c p)) u) _ _ _ _ b a n.1 g)
  where
    both : (v w v' w' g b : ℕ) → v ≡ v' → w ≡ w' → v ≤ w + g → g ≤ b → v' ≤ w' + b
    both v w v' w' g b e f h k = omega arith

from : (p q : List ℕ) (k width bound i : ℕ) (xs : List ℕ) → T (fitting p q k width bound i xs) → (n : ℕ) → n < length xs → (u : ℕ) → u ≤ width → Close p q k bound ((i + n) * width) (get_or xs n 0) u
from p q k width bound i [] t n h u l = absurd (not-suc-le-zero h)
from p q k width bound i (x ∷ xs) t zero h u l =
    subst (λ (j : ℕ). Close p q k bound (j * width) x u) (sym (add-zero i))
    (close p q k bound (i * width) x u width l (leb→le (gap (times k (shift (i * width) p)) (times x q) width) bound (and_l (leb (gap (times k (shift (i * width) p)) (times x q) width) bound) (fitting p q k width bound (suc i) xs) t)))
from p q k width bound i (x ∷ xs) t (suc n) h u l =
    subst (λ (j : ℕ). Close p q k bound (j * width) (get_or xs n 0) u) (suc-add i n ∙ sym (add-suc i n))
    (from p q k width bound (suc i) xs (and_r (leb (gap (times k (shift (i * width) p)) (times x q) width) bound) (fitting p q k width bound (suc i) xs) t) n (le_of_suc-le-suc h) u l)

pub fitted : (p q : List ℕ) (k width bound : ℕ) (xs : List ℕ) → T (fitting p q k width bound 0 xs) → (n : ℕ) → n < length xs → (u : ℕ) → u ≤ width → Close p q k bound (n * width) (get_or xs n 0) u
fitted p q k width bound xs t n h u l = subst (λ (j : ℕ). Close p q k bound (j * width) (get_or xs n 0) u) (zero-add n) (from p q k width bound 0 xs t n h u l)

-- ---- how much a polynomial changes over a short way

-- a bound on the slope up to w
abbrev pub slope : List ℕ → ℕ → ℕ
slope [] w = 0
slope (a ∷ p) w = ev p w + w * slope p w

pub nearby : (p : List ℕ) (v r w : ℕ) → v + r ≤ w → ev p (v + r) ≤ ev p v + r * slope p w
nearby [] v r w h = zero-le
nearby (a ∷ p) v r w h =
    nearby_step a v r w (ev p (v + r)) (ev p v) (slope p w) (ev p w)
    (mul-le-mul_left v (nearby p v r w h)) (mul-le-mul_left r (ev_mono p (v + r) w h)) (mul-le-mul_right (r * slope p w) (le_trans (le-add_right v r) h))
  where
    nearby_step : (a v r w x y s z : ℕ) → v * x ≤ v * (y + r * s) → r * x ≤ r * z → v * (r * s) ≤ w * (r * s) → a + (v + r) * x ≤ a + v * y + r * (z + w * s)
    nearby_step a v r w x y s z g k l = omega arith

pub upward : (p : List ℕ) (v r : ℕ) → ev p v ≤ ev p (v + r)
upward p v r = ev_mono p v (v + r) (le-add_right v r)

-- at a multiple of k
abbrev pub dilate : ℕ → ℕ → List ℕ → List ℕ
dilate k m [] = []
dilate k m (a ∷ p) = m * a ∷ dilate k (k * m) p

pub dilate_is : (k m : ℕ) (p : List ℕ) (u : ℕ) → ev (dilate k m p) u ≡ m * ev p (u * k)
dilate_is k m [] u = omega arith
dilate_is k m (a ∷ p) u = dilate_step k m a u (ev (dilate k (k * m) p) u) (ev p (u * k)) (dilate_is k (k * m) p u)
  where
    dilate_step : (k m a u v w : ℕ) → v ≡ k * m * w → m * a + u * v ≡ m * (a + u * k * w)
    dilate_step k m a u v w e = omega (arith, ap (λ (z : ℕ). u * z) e)

-- ---- a nested series with each product cut down to a whole number, term by term

-- h stands for N / M, up to e too small
abbrev pub Below : ℕ → ℕ → ℕ → ℕ → Type 0
Below h e N M = (h * M ≤ N) × (N ≤ (h + e) * M)

-- one term more: a + s * h / P. It is at most one more too small than s / P times what h was
pub term : (a P s h e e' N M : ℕ) → 0 < P → s * e ≤ e' * P → Below h e N M → Below (a + s * h / P) (1 + e') (a * (M * P) + s * N) (M * P)
term a P s h e e' N M p l b =
    let q = s * h / P in
    let r = s * h % P in
    (low a P s h N M q r (div-add-mod' (s * h) P) b.0, top a P s h e e' N M q r (div-add-mod' (s * h) P) (mod-lt (s * h) p) l b.1)
  where
    low : (a P s h N M q r : ℕ) → q * P + r ≡ s * h → h * M ≤ N → (a + q) * (M * P) ≤ a * (M * P) + s * N
    low a P s h N M q r d b = omega (arith, ap (λ (z : ℕ). z * M) d, mul-le-mul_left s b)

    top : (a P s h e e' N M q r : ℕ) → q * P + r ≡ s * h → r < P → s * e ≤ e' * P → N ≤ (h + e) * M → a * (M * P) + s * N ≤ (a + q + (1 + e')) * (M * P)
    top a P s h e e' N M q r d l g b = omega (arith, ap (λ (z : ℕ). z * M) d, mul-le-mul_left s b, mul-le-mul_right M g, mul-le-mul_right M l)

-- the same with nothing added
pub factor : (P s h e e' N M : ℕ) → 0 < P → s * e ≤ e' * P → Below h e N M → Below (s * h / P) (1 + e') (s * N) (M * P)
factor P s h e e' N M p l b =
    let t = term 0 P s h e e' N M p l b in
    (low (s * h / P) (M * P) (s * N) t.0, top (s * h / P) e' (M * P) (s * N) t.1)
  where
    low : (y X Z : ℕ) → (0 + y) * X ≤ 0 * X + Z → y * X ≤ Z
    low y X Z h = omega arith

    top : (y e' X Z : ℕ) → 0 * X + Z ≤ (0 + y + (1 + e')) * X → Z ≤ (y + (1 + e')) * X
    top y e' X Z h = omega arith

pub start : (h : ℕ) → Below h 0 h 1
start h = (omega arith, omega arith)

-- the product of two numbers that are cut down, cut down
pub product_cut : (q k e K J N M P e' : ℕ) → 0 < P → Below q 1 N M → Below k e K J → q * e + k + e ≤ e' * P → Below (q * k / P) (1 + e') (N * K) (M * J * P)
product_cut q k e K J N M P e' p b d l =
    let y = q * k / P in
    let r = q * k % P in
    (le_trans (low q k J M P y r (div-add-mod' (q * k) P)) (mul-le-mul b.0 d.0), le_trans (mul-le-mul b.1 d.1) (top q k e J M P e' y r (div-add-mod' (q * k) P) (mod-lt (q * k) p) l))
  where
    low : (q k J M P y r : ℕ) → y * P + r ≡ q * k → y * (M * J * P) ≤ q * M * (k * J)
    low q k J M P y r d = omega (arith, ap (λ (z : ℕ). z * (M * J)) d)

    top : (q k e J M P e' y r : ℕ) → y * P + r ≡ q * k → r < P → q * e + k + e ≤ e' * P → (q + 1) * M * ((k + e) * J) ≤ (y + (1 + e')) * (M * J * P)
    top q k e J M P e' y r d h l = omega (arith, ap (λ (z : ℕ). z * (M * J)) d, mul-le-mul_right (M * J) h, mul-le-mul_right (M * J) l)

-- p at d by a number y, cut down from b at d / P over M: L * u * y is near p there
pub cut_close : (p b : List ℕ) (P S L u M e x g y d : ℕ) → 0 < P → 0 < M → d < S * P → Below y e (ev b (d / P)) M
    → gap (times M (dilate P 1 p)) (times (L * u) b) S ≤ M * (x * L) → P * slope p (S * P) ≤ g * L
    → (L * (u * y) ≤ ev p d + x * L) × (ev p d ≤ L * (u * y + (u * e + x + g)))
cut_close p b P S L u M e x g y d h k l B t w =
    let s = d / P in
    let r = d % P in
    let f : s * P + r ≡ d = div-add-mod' d P in
    let n = near (times M (dilate P 1 p)) (times (L * u) b) s S (le_of_lt ((div-lt_iff_lt-mul {k = P} {x = d} {y = S} h).1 l)) in
    let a = times_is M (dilate P 1 p) s ∙ ap (λ (z : ℕ). M * z) (dilate_is P 1 p s ∙ one_times (ev p (s * P))) in
    let c = times_is (L * u) b s in
    let v = both (ev (times M (dilate P 1 p)) s) (ev (times (L * u) b) s) _ _ _ _ a c n.0 t in
    let v' = both (ev (times (L * u) b) s) (ev (times M (dilate P 1 p)) s) _ _ _ _ c a n.1 t in
    let i = subst (λ (z : ℕ). ev p (s * P) ≤ ev p z) f (upward p (s * P) r) in
    let j = subst (λ (z : ℕ). ev p z ≤ ev p (s * P) + r * slope p (S * P)) f (nearby p (s * P) r (S * P) (le_of_lt (subst (λ (z : ℕ). z < S * P) (sym f) l))) in
    let j' = le_trans j (more (ev p (s * P)) (r * slope p (S * P)) (g * L) (le_trans (mul-le-mul_right (slope p (S * P)) (le_of_lt (mod-lt d h))) w)) in
    (le_of_mul-le-mul_left (low M L u y (ev b s) (ev p (s * P)) (ev p d) x B.0 v' i) k, le_of_mul-le-mul_left (top M L u y e (ev b s) (ev p (s * P)) (ev p d) x g B.1 v j') k)
  where
    one_times : (n : ℕ) → 1 * n ≡ n
    one_times n = omega arith

    both : (v w v' w' g b : ℕ) → v ≡ v' → w ≡ w' → v ≤ w + g → g ≤ b → v' ≤ w' + b
    both v w v' w' g b e f h k = omega arith

    more : (x y z : ℕ) → y ≤ z → x + y ≤ x + z
    more x y z h = omega arith

    low : (M L u y N B A x : ℕ) → y * M ≤ N → L * u * N ≤ M * B + M * (x * L) → B ≤ A → M * (L * (u * y)) ≤ M * (A + x * L)
    low M L u y N B A x a b c = omega (arith, mul-le-mul_left (L * u) a, mul-le-mul_left M c)

    top : (M L u y e N B A x g : ℕ) → N ≤ (y + e) * M → M * B ≤ L * u * N + M * (x * L) → A ≤ B + g * L → M * A ≤ M * (L * (u * y + (u * e + x + g)))
    top M L u y e N B A x g a b c = omega (arith, mul-le-mul_left (L * u) a, mul-le-mul_left M c)

-- ---- a series at a negative argument: its even terms less its odd ones

abbrev pub part : Bool → List ℕ → List ℕ
part b [] = []
part true (a ∷ p) = a ∷ part false p
part false (a ∷ p) = 0 ∷ part true p

-- r - (c - u) * q, where nothing is cut off
abbrev pub unlinear : ℕ → ℕ → List ℕ → List ℕ
unlinear c r [] = r ∷ []
unlinear c r (b ∷ q) = (r - c * b) ∷ unlinear c b q

abbrev pub fair : ℕ → ℕ → List ℕ → Bool
fair c r [] = true
fair c r (b ∷ q) = leb (c * b) r && fair c b q

unlinear_is : (c r : ℕ) (q : List ℕ) (v t : ℕ) → v + t ≡ c → T (fair c r q) → ev (unlinear c r q) t + v * ev q t ≡ r
unlinear_is c r [] v t e h = omega arith
unlinear_is c r (b ∷ q) v t e h =
    step c r b v t (ev (unlinear c b q) t) (ev q t) e (leb→le (c * b) r (and_l (leb (c * b) r) (fair c b q) h)) (unlinear_is c b q v t e (and_r (leb (c * b) r) (fair c b q) h))
  where
    step : (c r b v t x y : ℕ) → v + t ≡ c → c * b ≤ r → x + v * y ≡ b → r - c * b + t * x + v * (b + t * y) ≡ r
    step c r b v t x y e h f = omega (arith, ap (λ (z : ℕ). t * z) f, ap (λ (z : ℕ). z * b) e)

-- the series at -(c - t), as a polynomial in t
abbrev pub back : ℕ → List ℕ → List ℕ
back c [] = []
back c (a ∷ p) = unlinear c a (back c p)

abbrev pub fairs : ℕ → List ℕ → Bool
fairs c [] = true
fairs c (a ∷ p) = fair c a (back c p) && fairs c p

pub back_is : (c : ℕ) (p : List ℕ) (v t : ℕ) → v + t ≡ c → T (fairs c p) → ev (part true p) v ≡ ev (part false p) v + ev (back c p) t
back_is c [] v t e h = refl
back_is c (a ∷ p) v t e h =
    step a v (ev (part true p) v) (ev (part false p) v) (ev (back c p) t) (ev (unlinear c a (back c p)) t)
    (back_is c p v t e (and_r (fair c a (back c p)) (fairs c p) h)) (unlinear_is c a (back c p) v t e (and_l (fair c a (back c p)) (fairs c p) h))
  where
    step : (a v x y b u : ℕ) → x ≡ y + b → u + v * b ≡ a → a + v * y ≡ 0 + v * x + u
    step a v x y b u e f = omega (arith, ap (λ (z : ℕ). v * z) e)

-- ---- sums, products and powers of polynomials, for series with terms of both signs and for a common denominator

abbrev pub plus : List ℕ → List ℕ → List ℕ
plus [] q = q
plus (a ∷ p) [] = a ∷ p
plus (a ∷ p) (b ∷ q) = (a + b) ∷ plus p q

pub plus_is : (p q : List ℕ) (u : ℕ) → ev (plus p q) u ≡ ev p u + ev q u
plus_is [] q u = sym (zero-add (ev q u))
plus_is (a ∷ p) [] u = sym (add-zero (a + u * ev p u))
plus_is (a ∷ p) (b ∷ q) u = step a b u (ev p u) (ev q u) (ev (plus p q) u) (plus_is p q u)
  where
    step : (a b u x y z : ℕ) → z ≡ x + y → a + b + u * z ≡ a + u * x + (b + u * y)
    step a b u x y z e = omega (arith, ap (λ (w : ℕ). u * w) e)

abbrev pub product : List ℕ → List ℕ → List ℕ
product [] q = []
product (a ∷ p) q = plus (times a q) (0 ∷ product p q)

pub product_is : (p q : List ℕ) (u : ℕ) → ev (product p q) u ≡ ev p u * ev q u
product_is [] q u = omega arith
product_is (a ∷ p) q u =
    plus_is (times a q) (0 ∷ product p q) u
    ∙ step a u (ev p u) (ev q u) (ev (times a q) u) (ev (product p q) u) (times_is a q u) (product_is p q u)
  where
    step : (a u x y z w : ℕ) → z ≡ a * y → w ≡ x * y → z + (0 + u * w) ≡ (a + u * x) * y
    step a u x y z w e f = omega (arith, ap (λ (k : ℕ). u * k) f)

abbrev pub power : List ℕ → ℕ → List ℕ
power p zero = 1 ∷ []
power p (suc n) = product p (power p n)

pub power_is : (p : List ℕ) (n u : ℕ) → ev (power p n) u ≡ ev p u ^ n
power_is p zero u = one u ∙ sym (pow-zero (ev p u))
  where
    one : (u : ℕ) → 1 + u * 0 ≡ 1
    one u = omega arith
power_is p (suc n) u = product_is p (power p n) u ∙ ap (λ (z : ℕ). ev p u * z) (power_is p n u) ∙ sym (pow-succ' (ev p u) n)

-- ---- a polynomial at c - d: the even coefficients about c less the odd ones

evens : (c r : ℕ) (q : List ℕ) (d : ℕ) → (ev (part true (linear c r q)) d ≡ r + c * ev (part true q) d + d * ev (part false q) d) × (ev (part false (linear c r q)) d ≡ c * ev (part false q) d + d * ev (part true q) d)
evens c r [] d = (omega arith, omega arith)
evens c r (b ∷ q) d =
    let n = evens c b q d in
    (even c r b d (ev (part true q) d) (ev (part false q) d) (ev (part false (linear c b q)) d) n.1, odd c b d (ev (part true q) d) (ev (part false q) d) (ev (part true (linear c b q)) d) n.0)
  where
    even : (c r b d x y z : ℕ) → z ≡ c * y + d * x → r + c * b + d * z ≡ r + c * (b + d * y) + d * (0 + d * x)
    even c r b d x y z e = omega (arith, ap (λ (w : ℕ). d * w) e)

    odd : (c b d x y z : ℕ) → z ≡ b + c * x + d * y → 0 + d * z ≡ c * (0 + d * x) + d * (b + d * y)
    odd c b d x y z e = omega (arith, ap (λ (w : ℕ). d * w) e)

pub below_centre : (c : ℕ) (p : List ℕ) (v d : ℕ) → v + d ≡ c → ev p v + ev (part false (shift c p)) d ≡ ev (part true (shift c p)) d
below_centre c [] v d e = refl
below_centre c (a ∷ p) v d e =
    let n = evens c a (shift c p) d in
    step a c v d (ev p v) (ev (part true (shift c p)) d) (ev (part false (shift c p)) d) (ev (part true (linear c a (shift c p))) d) (ev (part false (linear c a (shift c p))) d) e (below_centre c p v d e) n.0 n.1
  where
    step : (a c v d x y z m n : ℕ) → v + d ≡ c → x + z ≡ y → m ≡ a + c * y + d * z → n ≡ c * z + d * y → a + v * x + n ≡ m
    step a c v d x y z m n e f g h = omega (arith, ap (λ (w : ℕ). v * w) f, ap (λ (w : ℕ). w * y) e, ap (λ (w : ℕ). w * z) e)

-- ---- two tables whose entries go with one series each way: k times what is added, about an entry's centre, and what the entries take off,
-- against k times what is taken off and what the entries add

abbrev pub fitting_pairs : List ℕ → List ℕ → (ℕ → ℕ → List ℕ) → (ℕ → ℕ → List ℕ) → ℕ → ℕ → ℕ → ℕ → List ℕ → List ℕ → Bool
fitting_pairs p o f g k width bound i [] ys = true
fitting_pairs p o f g k width bound i (x ∷ xs) [] = true
fitting_pairs p o f g k width bound i (x ∷ xs) (y ∷ ys) =
    leb (gap (plus (times k (shift (i * width) p)) (g x y)) (plus (times k (shift (i * width) o)) (f x y)) width) bound && fitting_pairs p o f g k width bound (suc i) xs ys

abbrev pub ClosePair : List ℕ → List ℕ → List ℕ → List ℕ → ℕ → ℕ → ℕ → ℕ → Type 0
ClosePair p o f g k bound c u = (k * ev p (c + u) + ev g u ≤ k * ev o (c + u) + ev f u + bound) × (k * ev o (c + u) + ev f u ≤ k * ev p (c + u) + ev g u + bound)

close_pair : (p o f g : List ℕ) (k bound c u width : ℕ) → u ≤ width → gap (plus (times k (shift c p)) g) (plus (times k (shift c o)) f) width ≤ bound → ClosePair p o f g k bound c u
close_pair p o f g k bound c u width h t =
    let P = plus (times k (shift c p)) g in
    let O = plus (times k (shift c o)) f in
    let n = near P O u width h in
    let a = side p g in
    let b = side o f in
    (both (ev P u) (ev O u) _ _ _ _ a b n.0 t, both (ev O u) (ev P u) _ _ _ _ b a n.1 t)
  where
    side : (p g : List ℕ) → ev (plus (times k (shift c p)) g) u ≡ k * ev p (c + u) + ev g u
    side p g = plus_is (times k (shift c p)) g u ∙ ap (λ (z : ℕ). z + ev g u) (times_is k (shift c p) u ∙ ap (λ (z : ℕ). k * z) (shift_is c p u))

    both : (v w v' w' g b : ℕ) → v ≡ v' → w ≡ w' → v ≤ w + g → g ≤ b → v' ≤ w' + b
    both v w v' w' g b e f h k = omega arith

module _ (p o : List ℕ) (f g : ℕ → ℕ → List ℕ) (k width bound : ℕ) where
  abbrev tested : ℕ → ℕ → ℕ → Bool
  tested i x y = leb (gap (plus (times k (shift (i * width) p)) (g x y)) (plus (times k (shift (i * width) o)) (f x y)) width) bound

  pub fitted_pairs : (i : ℕ) (xs ys : List ℕ) → T (fitting_pairs p o f g k width bound i xs ys) → (n : ℕ) → n < length xs → n < length ys → (u : ℕ) → u ≤ width
      → ClosePair p o (f (get_or xs n 0) (get_or ys n 0)) (g (get_or xs n 0) (get_or ys n 0)) k bound ((i + n) * width) u
  fitted_pairs i [] ys t n h l u w = absurd (not-suc-le-zero h)
  fitted_pairs i (x ∷ xs) [] t n h l u w = absurd (not-suc-le-zero l)
  fitted_pairs i (x ∷ xs) (y ∷ ys) t zero h l u w =
      subst (λ (j : ℕ). ClosePair p o (f x y) (g x y) k bound (j * width) u) (sym (add-zero i))
      (close_pair p o (f x y) (g x y) k bound (i * width) u width w (leb→le (gap (plus (times k (shift (i * width) p)) (g x y)) (plus (times k (shift (i * width) o)) (f x y)) width) bound (and_l (tested i x y) (fitting_pairs p o f g k width bound (suc i) xs ys) t)))
  fitted_pairs i (x ∷ xs) (y ∷ ys) t (suc n) h l u w =
      subst (λ (j : ℕ). ClosePair p o (f (get_or xs n 0) (get_or ys n 0)) (g (get_or xs n 0) (get_or ys n 0)) k bound (j * width) u) (suc-add i n ∙ sym (add-suc i n))
      (fitted_pairs (suc i) xs ys (and_r (tested i x y) (fitting_pairs p o f g k width bound (suc i) xs ys) t) n (le_of_suc-le-suc h) (le_of_suc-le-suc l) u w)
