-- The sets' values from the values of the calls, and the expansions' values from these.
use Prim.Native.Nat.{ℕ, zero, suc, ◌+◌, ◌*◌, ◌<◌, ◌≤◌}
use native.Mathlib.Omega.{arith}
use mathlib.Core.Path.{◌≡◌, refl, ap, ap₂, sym, ◌∙◌}
use mathlib.Core.Bool.{Bool, true, false, cond}
use mathlib.Core.List.{List, [], ◌∷◌}
use lib.Dec.{eqb, ltb}
use lib.ListN.{get_or, length, replicate}
use lib.IntN.{ℤ}
use lib.Ieee.{Float, binary64, of_int, eq, neg}
use Rattle.numbers.specs.Arithmetic.{◌‼◌}
use Rattle.numbers.specs.Literals.{0·0, 1·0}
use Rattle.setting.specs.declared.Input.{Input}
use Rattle.setting.specs.declared.View.{View}
use Rattle.setting.specs.Switches.{filled}
use Rattle.tables.specs.Tables.{pt_t, ps_t, pd_t0, pd_t1, pd_t2, pd_t3, pd_t4, pd_t5, pd_t6, pd_t7, pd_t8, ptl_t0, ptl_t1, ptl_t2, ptl_t3, pma_t0, pma_t1, pma_t2, pma_t3, pma_t4, pma_t5, pma_t6, pma_t7, pma_t8, pma_t9}
use Rattle.activity.specs.Activity.{apdf_next_of, apdf_from_of}
use Rattle.activity.specs.Responses.{apt_from}
use Rattle.expansion.specs.declared.Carried.{Carried}
use Rattle.expansion.specs.Expansion.{globe7_given, glob7s_from_given}
use Rattle.needed_sets.specs.declared.Need.{Need}
use Rattle.expansion_values.specs.declared.Activity.{Activity}
use Rattle.expansion_values.specs.ExpansionValues.{legendre_in, quiet_of, active_of, record_values_of}
use Rattle.needed_sets.specs.NeededSets.{glob7s_end}
use Rattle.needed_sets.specs.Sets.{globe7_sets, globe7_set, glob7s_sets, glob7s_set}
use Rattle.season.specs.Season.{seasons_at, longitude_seasons_at, season_into}
use Rattle.season.proofs.Filled.{seasoned}
use Rattle.expansion_parts.specs.declared.Seasons.{Seasons}
use Rattle.expansion_values.specs.Sets.{globe7_before, glob7s_before, wide_given, globe7_values_given, glob7s_at_given, glob7s_values_given, named_values, expansion_values_given, record_values_given}
use Rattle.expansion_values.specs.InSeason.{longitude_in, record_in_season}
use Rattle.expansion_values.specs.declared.RecordValues.{RecordValues}
use Rattle.expansion_values.specs.Activities.{activity_in, active_from, carrying, active_from_lem, in_ps, in_pd2, in_pd3, in_pd4, in_pd5, in_pd6, in_pd7, in_pd8}

kept_apdf : (b : Bool) (x y z : Float) → cond b x z ≡ cond b (cond b x y) z
kept_apdf true x y z = refl
kept_apdf false x y z = refl

-- what State carries after the set k, by its activity b: dfa and the sines of local time are c's before PD[8] too
carried_at : (q : Bool) (v : View) (c : Carried) (b : Activity) (p51 p138 : Float)
    → carrying c (cond (eq (v.sw ‼ 9) (neg 1·0)) c.apdf b.apdf) (apt_from (v.sw ‼ 9) p51 p138 v.g_lat b.g (cond q (active_of v pd_t7 c).apt c.apt))
    ≡ active_from v b p51 p138 (cond q (active_of v pd_t7 c) c)
unfolding active_from active_of apdf_next_of
carried_at true v c b p51 p138 = cc (kept_apdf (eq (v.sw ‼ 9) (neg 1·0)) c.apdf (apdf_from_of (pd_t7 ‼ 43) (pd_t7 ‼ 44) v.ap) b.apdf)
carried_at false v c b p51 p138 = refl

pub globe7_at_law : (k : ℕ) (v : View) (g : List (List Float)) (c c7 : Carried) (b : Activity) (p : List Float) (d : Seasons) (r x y nine latitude before : Float)
    → r ≡ globe7_given v p g (carrying c x y) d
    → y ≡ apt_from nine (p ‼ 51) (p ‼ 138) latitude b.g before
    → before ≡ cond (eqb k 9) c7.apt c.apt
    → x ≡ cond (eq nine (neg 1·0)) c.apdf b.apdf
    → latitude ≡ v.g_lat
    → nine ≡ v.sw ‼ 9
    → b ≡ activity_in v (globe7_set k)
    → c7 ≡ active_of v pd_t7 c
    → p ≡ globe7_set k
    → r ≡ wide_given v g (globe7_before v c k) (globe7_set k) d
unfolding wide_given
globe7_at_law k v g c c7 b p d r x y nine latitude before e0 e1 e2 e3 e4 e5 e6 e7 e8 =
    let f : carrying c x y ≡ active_from v b ((globe7_set k) ‼ 51) ((globe7_set k) ‼ 138) (globe7_before v c k) =
    rw (e1, e2, e3, e4, e5, e7, e8) (carried_at (eqb k 9) v c b ((globe7_set k) ‼ 51) ((globe7_set k) ‼ 138)) in
    e0 ∙ ap₂ (λ (t : List Float) (u : Carried). globe7_given v t g u d) e8 (f ∙ active_from_lem v (globe7_set k) (globe7_before v c k) b e6)

-- ---- the last of the sets, and whose activity a set has

pub globe7_last : (k : ℕ) → 10 ≤ k → k < 11 → ps_t ≡ globe7_set k
unfolding globe7_sets
globe7_last k h l = let e : k ≡ 10 = omega arith in rw e

pub glob7s_last : (k : ℕ) → 13 ≤ k → k < 14 → pma_t7 ≡ glob7s_set k
unfolding glob7s_sets
glob7s_last k h l = let e : k ≡ 13 = omega arith in rw e

pub own_activity : (v : View) (k i : ℕ) → k ≡ i → activity_in v (globe7_set i) ≡ activity_in v (globe7_set k)
own_activity v k i e = ap (λ (j : ℕ). activity_in v (globe7_set j)) (sym e)

-- what holds of every set of a list, and of the one that stands for an index beyond it, holds at every index
abbrev Every : (List Float → Type 0) → List (List Float) → Type 0
Every P [] = Unit {0}
Every P (t ∷ ts) = P t × Every P ts

every_at : (P : List Float → Type 0) (ts : List (List Float)) (d : List Float) → Every P ts → P d → (k : ℕ) → P (get_or ts k d)
every_at P [] d h e k = e
every_at P (t ∷ ts) d h e zero = h.0
every_at P (t ∷ ts) d h e (suc k) = every_at P ts d h.1 e k

pub shared_activity : (v : View) (k : ℕ) → (k ≡ 1 → ⊥) → (k ≡ 2 → ⊥) → activity_in v pt_t ≡ activity_in v (globe7_set k)
unfolding globe7_sets
shared_activity v zero a b = refl
shared_activity v (suc zero) a b = absurd (a refl)
shared_activity v (suc (suc zero)) a b = absurd (b refl)
shared_activity v (suc (suc (suc k))) a b =
    every_at (λ t. activity_in v pt_t ≡ activity_in v t) (pd_t2 ∷ pd_t3 ∷ pd_t4 ∷ pd_t5 ∷ pd_t6 ∷ pd_t7 ∷ pd_t8 ∷ ps_t ∷ []) ps_t
    (in_pd2 v, (in_pd3 v, (in_pd4 v, (in_pd5 v, (in_pd6 v, (in_pd7 v, (in_pd8 v, (in_ps v, tt)))))))) (in_ps v) k

pub globe7_length : (k : ℕ) (p : List Float) → p ≡ globe7_set k → length p ≡ 150
unfolding globe7_sets pt_t ps_t pd_t0 pd_t1 pd_t2 pd_t3 pd_t4 pd_t5 pd_t6 pd_t7 pd_t8
globe7_length k p e =
    ap length e ∙ every_at (λ t. length t ≡ 150) globe7_sets ps_t (refl, (refl, (refl, (refl, (refl, (refl, (refl, (refl, (refl, (refl, (refl, tt))))))))))) refl k

pub glob7s_length : (k : ℕ) (p : List Float) → p ≡ glob7s_set k → length p ≡ 100
unfolding glob7s_sets ptl_t0 ptl_t1 ptl_t2 ptl_t3 pma_t0 pma_t1 pma_t2 pma_t3 pma_t4 pma_t5 pma_t6 pma_t7 pma_t8 pma_t9
glob7s_length k p e =
    ap length e ∙ every_at (λ t. length t ≡ 100) glob7s_sets pma_t7
    (refl, (refl, (refl, (refl, (refl, (refl, (refl, (refl, (refl, (refl, (refl, (refl, (refl, (refl, tt)))))))))))))) refl k

-- what a set leaves, from an activity that is its own
pub after_set : (v : View) (t p : List Float) (c d : Carried) (a : Activity) → d ≡ active_from v a (p ‼ 51) (p ‼ 138) c → p ≡ t → a ≡ activity_in v t → d ≡ active_of v t c
after_set v t p c d a e f h = e ∙ ap (λ (q : List Float). active_from v a (q ‼ 51) (q ‼ 138) c) f ∙ active_from_lem v t c a h

-- ---- the sets of glob7s behind the last that is needed leave zeros

to_end : (o m t : Bool) (y : ℕ → Float)
    → filled (cond t 14 (cond m 9 (cond o 5 0))) (λ k. cond (cond (ltb k 5) o (cond (ltb k 9) m t)) (y k) 0·0) 0 (replicate 14 0·0)
    ≡ filled 14 (λ k. cond (cond (ltb k 5) o (cond (ltb k 9) m t)) (y k) 0·0) 0 (replicate 14 0·0)
unfolding filled
to_end o m true y = refl
to_end o true false y = refl
to_end true false false y = refl
to_end false false false y = refl

pub glob7s_to_end : (n : Need) (v : View) (g : List (List Float)) (c3 c8 : Carried) (s : List Float)
    → filled (glob7s_end n) (glob7s_at_given n v g c3 c8 s) 0 (replicate 14 0·0) ≡ glob7s_values_given n v g c3 c8 s
unfolding glob7s_values_given
glob7s_to_end n v g c3 c8 s =
    to_end n.nodes n.meso n.tropo
    (λ k. glob7s_from_given v (glob7s_set k) g (glob7s_before k c3 c8) (seasons_at s (44 + 4 * k)) (longitude_seasons_at s (100 + 4 * k)))

-- ---- the whole

pub expansion_values_law : (v : View) (n : Need) (s y x : List Float) (c7 c : Carried) (g : List (List Float))
    → y ≡ glob7s_values_given n v g (active_of v pd_t3 c) (active_of v pd_t8 c7) s
    → x ≡ globe7_values_given n v g c s
    → c7 ≡ active_of v pd_t7 c
    → c ≡ quiet_of v
    → g ≡ legendre_in v
    → named_values x y ≡ expansion_values_given v n s
unfolding expansion_values_given
expansion_values_law v n s y x c7 c g e0 e1 e2 e3 e4 = rw (e0, e1, e2, e3, e4)

-- the values out of the season that was filled
pub record_values_law : (w : List ℤ) (n : Input) (a : Need) (s t : List Float) (doy : Float) (long : Bool) (r : RecordValues)
    → length s ≡ 156
    → r ≡ record_values_given w n a t
    → t ≡ season_into doy a long s
    → long ≡ longitude_in w
    → doy ≡ of_int binary64 n.doy
    → (r ≡ record_values_of w n a) × (t ≡ season_into (of_int binary64 n.doy) a (longitude_in w) s)
record_values_law w n a s t doy long r len e0 e1 e2 e3 =
    let filled_is : t ≡ season_into (of_int binary64 n.doy) a (longitude_in w) s = rw (e3, e2) at e1 in
    let right = seasoned (of_int binary64 n.doy) a (longitude_in w) s len in
    (e0 ∙ ap (record_values_given w n a) filled_is ∙ record_in_season w n a _ right, filled_is)
