-- The tables of log against its series: computed tests over the tables, piece by piece, and what they say of every argument. Assumes nothing.
use mathlib.Core.Path.{◌≡◌, sym, ap, ◌∙◌, subst}
use mathlib.Core.Bool.{Bool, true, false, ◌&&◌}
use mathlib.Core.List.{List, [], ◌∷◌}
use Prim.Native.Nat.{ℕ, zero, suc, ◌+◌, ◌-◌, ◌*◌, ◌^◌, ◌≤◌, ◌<◌}
use native.Mathlib.Omega.{arith}
use native.Mathlib.Nat.{not-suc-le-zero, le_of_suc-le-suc, suc-add, add-suc, add-zero, zero-add, pow-zero, pow-succ'}
use lib.ListN.{get_or}
use lib.Dec.{T, leb, leb→le}
use lib.Ieee.Fits.{and_l, and_r}
use Rattle.elementary_bounds.specs.Series.{ev, homogeneous}
use Rattle.logarithm_tables.specs.Tables.{reciprocals, logarithms}
use Rattle.elementary_bounds.proofs.Series.{shift, shift_is, times, times_is, plus, plus_is, product, product_is, part, below_centre, dilate, gap, near}

-- ---- polynomials at c - v, each as its even terms about c less its odd ones, with factors k and l that are polynomials in v

abbrev left : ℕ → List ℕ → List ℕ → List ℕ → List ℕ → List ℕ → List ℕ
left D p o B k l = plus (plus (times D (part true p)) (product k (part true B))) (plus (times D (part false o)) (product l (part false B)))

abbrev right : ℕ → List ℕ → List ℕ → List ℕ → List ℕ → List ℕ → List ℕ
right D p o B k l = plus (plus (times D (part true o)) (product l (part true B))) (plus (times D (part false p)) (product k (part false B)))

-- D p + B k and D o + B l, at x
abbrev pub Balanced : ℕ → List ℕ → List ℕ → List ℕ → List ℕ → List ℕ → ℕ → ℕ → ℕ → Type 0
Balanced D p o B k l x v bound = (D * ev p x + ev B x * ev k v ≤ D * ev o x + ev B x * ev l v + bound) × (D * ev o x + ev B x * ev l v ≤ D * ev p x + ev B x * ev k v + bound)

side_is : (D : ℕ) (p k B o l C : List ℕ) (v : ℕ) → ev (plus (plus (times D p) (product k B)) (plus (times D o) (product l C))) v ≡ D * ev p v + ev k v * ev B v + (D * ev o v + ev l v * ev C v)
side_is D p k B o l C v =
    plus_is (plus (times D p) (product k B)) (plus (times D o) (product l C)) v
    ∙ (λ i. half p k B i + half o l C i)
  where
    half : (p k B : List ℕ) → ev (plus (times D p) (product k B)) v ≡ D * ev p v + ev k v * ev B v
    half p k B = plus_is (times D p) (product k B) v ∙ (λ i. times_is D p v i + product_is k B v i)

pub balanced : (D : ℕ) (p o B k l : List ℕ) (c w x v bound : ℕ) → x + v ≡ c → v ≤ w → gap (left D (shift c p) (shift c o) (shift c B) k l) (right D (shift c p) (shift c o) (shift c B) k l) w ≤ bound → Balanced D p o B k l x v bound
balanced D p o B k l c w x v bound e h t =
    let P = shift c p in
    let O = shift c o in
    let Q = shift c B in
    let n = near (left D P O Q k l) (right D P O Q k l) v w h in
    let a = side_is D (part true P) k (part true Q) (part false O) l (part false Q) v in
    let b = side_is D (part true O) l (part true Q) (part false P) k (part false Q) v in
    let i = below_centre c p x v e in
    let j = below_centre c o x v e in
    let m = below_centre c B x v e in (
      one_way (ev p x) (ev (part false P) v) (ev (part true P) v) (ev o x) (ev (part false O) v) (ev (part true O) v) (ev B x) (ev (part false Q) v) (ev (part true Q) v) (ev k v) (ev l v) _ _ _ a b i j m n.0 t,
      one_way (ev o x) (ev (part false O) v) (ev (part true O) v) (ev p x) (ev (part false P) v) (ev (part true P) v) (ev B x) (ev (part false Q) v) (ev (part true Q) v) (ev l v) (ev k v) _ _ _ b a j i m n.1 t,
    )
  where
    one_way : (p po pe o oo oe B Bo Be k l X Y g : ℕ) → X ≡ D * pe + k * Be + (D * oo + l * Bo) → Y ≡ D * oe + l * Be + (D * po + k * Bo) → p + po ≡ pe → o + oo ≡ oe → B + Bo ≡ Be → X ≤ Y + g → g ≤ bound
        → D * p + B * k ≤ D * o + B * l + bound
    one_way p po pe o oo oe B Bo Be k l X Y g a b i j m h t = omega (arith, ap (λ (z : ℕ). D * z) i, ap (λ (z : ℕ). D * z) j, ap (λ (z : ℕ). k * z) m, ap (λ (z : ℕ). l * z) m)

-- ---- the test at n pieces from the i-th on, each w wide, with x below its upper end by v

abbrev testing : ℕ → List ℕ → List ℕ → ℕ → List ℕ → List ℕ → List ℕ → ℕ → Bool
testing D k l w p o B bound = leb (gap (left D p o B k l) (right D p o B k l) w) bound

module _ (D w : ℕ) (p o B : List ℕ) (k l : ℕ → List ℕ) (bound : ℕ → ℕ) where
  abbrev tested : ℕ → Bool
  tested i = testing D (k i) (l i) w (shift (suc i * w) p) (shift (suc i * w) o) (shift (suc i * w) B) (bound i)

  abbrev pub fitting_pieces : ℕ → ℕ → Bool
  fitting_pieces zero i = true
  fitting_pieces (suc n) i = tested i && fitting_pieces n (suc i)

  pub fitted_pieces : (n i : ℕ) → T (fitting_pieces n i) → (j : ℕ) → j < n → (x v : ℕ) → x + v ≡ suc (i + j) * w → v ≤ w → Balanced D p o B (k (i + j)) (l (i + j)) x v (bound (i + j))
  fitted_pieces zero i q j h x v e u = absurd (not-suc-le-zero h)
  fitted_pieces (suc n) i q zero h x v e u =
      subst (λ (j : ℕ). Balanced D p o B (k j) (l j) x v (bound j)) (sym (add-zero i))
      (balanced D p o B (k i) (l i) (suc i * w) w x v (bound i) (e ∙ ap (λ (j : ℕ). suc j * w) (add-zero i)) u (leb→le (gap (left D (shift (suc i * w) p) (shift (suc i * w) o) (shift (suc i * w) B) (k i) (l i)) (right D (shift (suc i * w) p) (shift (suc i * w) o) (shift (suc i * w) B) (k i) (l i)) w) (bound i) (and_l (tested i) (fitting_pieces n (suc i)) q)))
  fitted_pieces (suc n) i q (suc j) h x v e u =
      let s = suc-add i j ∙ sym (add-suc i j) in
      subst (λ (j : ℕ). Balanced D p o B (k j) (l j) x v (bound j)) s
      (fitted_pieces n (suc i) (and_r (tested i) (fitting_pieces n (suc i)) q) j (le_of_suc-le-suc h) x v (e ∙ ap (λ (j : ℕ). suc j * w) (sym s)) u)

-- ---- the series, in units of 1 / 166966608033225, times (y + 1) ^ 39: for y = 1 + t / 2 ^ 52 in units of 2 ^ -53, and for half of that. Made by scripts/elementary/generate.py.

abbrev pub upper : List ℕ
upper = 0 ∷ 333933216066450 ∷ 12689462210525100 ∷ 234866361966736500 ∷ 2821067809329369600 ∷ 24719473105962174540 ∷ 168412138138933448760 ∷ 928477378572595806240 ∷ 4256687235150519586560 ∷ 16550432172059022412890 ∷ 55383011924004857689740 ∷ 161321367626110014006060 ∷ 412677515592932672977440 ∷ 933666544931492069001360 ∷ 1878777046998653862939840 ∷ 3377592927462752795141280 ∷ 5444117101693058165694720 ∷ 7889165355499678778245380 ∷ 10299449501877500980792920 ∷ 12131208872376495722500680 ∷ 12902733811301962431323520 ∷ 12396308550008466895348680 ∷ 10756001658146931697277520 ∷ 8422456456159466069681280 ∷ 5944210471421757624510720 ∷ 3773922619228193647023588 ∷ 2149910718937327373747832 ∷ 1095291852456789646976408 ∷ 496918346612433438743232 ∷ 199700510747306375094288 ∷ 70618879978969329783776 ∷ 21790623944074734612864 ∷ 5804889726169386268416 ∷ 1316736288065697358314 ∷ 249705377416393847676 ∷ 38604550212591321348 ∷ 4691227438065663872 ∷ 423239597040881868 ∷ 25615100425974072 ∷ 828045249930848 ∷ []

abbrev pub lower_adding : List ℕ
lower_adding = 469012070180965621043574220456512 ∷ 5420515524585407501729572579474656 ∷ 30157309764476849816475642943207488 ∷ 107214381312618886757182245520322784 ∷ 272317239809238724127191032307388352 ∷ 522180563282378696809140598847491488 ∷ 775322232831885229712543128485841344 ∷ 890279949546066704062820856993316512 ∷ 753090852727853515288768400623708416 ∷ 369143034924342261670002047525298048 ∷ 0 ∷ 0 ∷ 0 ∷ 0 ∷ 0 ∷ 0 ∷ 0 ∷ 0 ∷ 0 ∷ 0 ∷ 0 ∷ 0 ∷ 0 ∷ 0 ∷ 0 ∷ 0 ∷ 0 ∷ 0 ∷ 0 ∷ 0 ∷ 0 ∷ 0 ∷ 0 ∷ 0 ∷ 0 ∷ 0 ∷ 0 ∷ 0 ∷ 0 ∷ 0 ∷ []

abbrev pub lower_taking : List ℕ
lower_taking = 0 ∷ 0 ∷ 0 ∷ 0 ∷ 0 ∷ 0 ∷ 0 ∷ 0 ∷ 0 ∷ 0 ∷ 124891120505550995550622618781605632 ∷ 543660493679306320990151702068799616 ∷ 760956375973343069569626581837018368 ∷ 761891529606719398625994292377777024 ∷ 618147001477821656862945939224431872 ∷ 425552391406559313529855708767315840 ∷ 254327298781705113769694288063982720 ∷ 133704854764905965812144678870004160 ∷ 62349086901140676925025108186724480 ∷ 25930752958219488038089233293730240 ∷ 9653026499142478117391078058625920 ∷ 3223682400577950846243037132964160 ∷ 966944080426544481098531775070080 ∷ 260582190882709210720845369387840 ∷ 63061795062512433009617475582720 ∷ 13687116268787302659215733343872 ∷ 2658772468518985250912649044736 ∷ 460893547355082506068389568128 ∷ 71019257869102913549561551104 ∷ 9678776189905824758308835712 ∷ 1159156357123771021299618048 ∷ 121002361768684709865661824 ∷ 10894611233850526146773952 ∷ 834669381581801193800736 ∷ 53421041871062863478208 ∷ 2787969584265718982688 ∷ 114142871446721492544 ∷ 3491919818104809312 ∷ 70166636956593216 ∷ 828045249930848 ∷ []

-- u ^ n as a list
abbrev pub single : ℕ → List ℕ
single zero = 1 ∷ []
single (suc n) = 0 ∷ single n

pub single_is : (n u : ℕ) → ev (single n) u ≡ u ^ n
single_is zero u = one u ∙ sym (pow-zero u)
  where
    one : (u : ℕ) → 1 + u * 0 ≡ 1
    one u = omega arith
single_is (suc n) u = zero-add (u * ev (single n) u) ∙ ap (λ (z : ℕ). u * z) (single_is n u) ∙ sym (pow-succ' u n)

-- (c + u) ^ n as a list in u
pub moved_is : (c n u : ℕ) → ev (shift c (single n)) u ≡ (c + u) ^ n
moved_is c n u = shift_is c (single n) u ∙ single_is n (c + u)

-- 1 / 2 + z / 3 + .. + z ^ 5 / 7 for z in units of 2 ^ -62, over 420 * 2 ^ 310; and z + z ^ 2 / 2 + .. + z ^ 7 / 7, over 420 * 2 ^ 434
abbrev pub tails : List ℕ
tails = 210 * 2 ^ 310 ∷ 140 * 2 ^ 248 ∷ 105 * 2 ^ 186 ∷ 84 * 2 ^ 124 ∷ 70 * 2 ^ 62 ∷ 60 ∷ []

abbrev pub log1ms : List ℕ
log1ms = 0 ∷ 420 * 2 ^ 372 ∷ tails

-- 420 * 2 ^ 434 * 166966608033225
abbrev pub units : ℕ
units = 420 * 2 ^ 434 * 166966608033225

-- 2 ^ 58 times -log (1 - z) at z = 2 ^ 62 - y r, about the piece's upper end
abbrev pub log1m_at : ℕ → List ℕ
log1m_at i = times (2 ^ 58 * 166966608033225) (dilate (get_or reciprocals i 0) 1 (shift (2 ^ 62 - (suc i * 2 ^ 45 + 2 ^ 52) * get_or reciprocals i 0) log1ms))

abbrev pub entry_at : ℕ → List ℕ
entry_at i = units * get_or logarithms i 0 ∷ []

-- log 2, and -log (1 - z)
abbrev pub turn_at : ℕ → List ℕ
turn_at i = plus (units * (32 * 6243314768165359) ∷ []) (log1m_at i)

-- 16 units of 2 ^ -58
abbrev pub allowance : ℕ → ℕ → ℕ
allowance c i = 16 * units * ev (single 39) (c + i * 2 ^ 45)

-- in units of 2 ^ -58: from 1 to 2 the series is the entry less -log (1 - z), and from 1 / 2 to 1 it is below 0 by log 2 and -log (1 - z) less the entry
abbrev upper_fits : ℕ → ℕ → Bool
upper_fits n i = fitting_pieces (420 * 2 ^ 492) (2 ^ 45) (homogeneous (2 ^ 53) upper) [] (shift (2 ^ 53) (single 39)) log1m_at entry_at (allowance (2 ^ 53)) n i

abbrev lower_fits : ℕ → ℕ → Bool
lower_fits n i = fitting_pieces (420 * 2 ^ 492) (2 ^ 45) (homogeneous (2 ^ 52) lower_adding) (homogeneous (2 ^ 52) lower_taking) (shift (3 * 2 ^ 52) (single 39)) entry_at turn_at (allowance (3 * 2 ^ 52)) n i

upper_test : T (upper_fits 128 0)
unfolding reciprocals logarithms
upper_test = tt

lower_test : T (lower_fits 128 0)
unfolding reciprocals logarithms
lower_test = tt

pub upper_fits_lem : (i : ℕ) → i < 128 → (x v : ℕ) → x + v ≡ suc (0 + i) * 2 ^ 45 → v ≤ 2 ^ 45
    → Balanced (420 * 2 ^ 492) (homogeneous (2 ^ 53) upper) [] (shift (2 ^ 53) (single 39)) (log1m_at (0 + i)) (entry_at (0 + i)) x v (allowance (2 ^ 53) (0 + i))
upper_fits_lem i h x v e u = fitted_pieces (420 * 2 ^ 492) (2 ^ 45) (homogeneous (2 ^ 53) upper) [] (shift (2 ^ 53) (single 39)) log1m_at entry_at (allowance (2 ^ 53)) 128 0 upper_test i h x v e u

pub lower_fits_lem : (i : ℕ) → i < 128 → (x v : ℕ) → x + v ≡ suc (0 + i) * 2 ^ 45 → v ≤ 2 ^ 45
    → Balanced (420 * 2 ^ 492) (homogeneous (2 ^ 52) lower_adding) (homogeneous (2 ^ 52) lower_taking) (shift (3 * 2 ^ 52) (single 39)) (entry_at (0 + i)) (turn_at (0 + i)) x v (allowance (3 * 2 ^ 52) (0 + i))
lower_fits_lem i h x v e u = fitted_pieces (420 * 2 ^ 492) (2 ^ 45) (homogeneous (2 ^ 52) lower_adding) (homogeneous (2 ^ 52) lower_taking) (shift (3 * 2 ^ 52) (single 39)) entry_at turn_at (allowance (3 * 2 ^ 52)) 128 0 lower_test i h x v e u
