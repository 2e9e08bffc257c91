-- Where the season holds what the sets that are needed read, the values out of it are the expansions' values.
use Rattle.std.specs.Prelude.{ℕ, zero, suc, ◌+◌, ◌*◌, ◌<◌, ◌≤◌, ◌≡◌, refl, Bool, true, false, cond, not, ◌&&◌, ◌||◌, List, ℤ, set, replicate, Float}
use Rattle.std.proofs.Common.{ap₂, ◌∙◌, arith}
use Rattle.std.proofs.Math.Path.{ap}
use Rattle.std.specs.Float.{binary64}
use Rattle.std.specs.Float.Ieee.{of_int, eq, of_bits}
use Rattle.numbers.specs.Arithmetic.{◌‼◌}
use Rattle.numbers.specs.Literals.{0·0}
use Rattle.setting.specs.declared.Input.{Input}
use Rattle.setting.specs.declared.View.{View}
use Rattle.setting.specs.Switches.{given, is_one, on_off, filled, sw_of}
use Rattle.views.specs.View.{view_of}
use Rattle.expansion_parts.specs.declared.Seasons.{Seasons}
use Rattle.expansion_parts.specs.declared.LongitudeSeasons.{LongitudeSeasons}
use Rattle.expansion_parts.specs.ExpansionParts.{longitude_cosines_of, t10s_given}
use Rattle.expansion.specs.declared.Carried.{Carried}
use Rattle.expansion.specs.Expansion.{globe7_given, globe7_value, glob7s_given, glob7s_from_given, glob7s_from}
use Rattle.tables.specs.Tables.{pd_t3, pd_t7, pd_t8}
use Rattle.needed_sets.specs.declared.Need.{Need}
use Rattle.needed_sets.specs.NeededSets.{globe7_needed, glob7s_needed}
use Rattle.needed_sets.specs.Sets.{globe7_sets, globe7_set, glob7s_sets, glob7s_set}
use Rattle.season.specs.Season.{Seasoned, seasons_at, longitude_seasons_at}
use Rattle.expansion_values.specs.ExpansionValues.{legendre_in, quiet_of, active_of, wide_of, expansion_values_of, record_values_of}
use Rattle.expansion_values.specs.Sets.{globe7_before, globe7_at, globe7_values, glob7s_before, glob7s_at, glob7s_values, wide_given, globe7_at_given, globe7_values_given, glob7s_at_given, glob7s_values_given, named_values, expansion_values_given, record_values_given}

-- ---- the longitude's term reads its cosines only where switches 10 and 11 are on

abbrev pub longitude_on : View → Bool
longitude_on v = not (eq (v.sw ‼ 10) 0·0 || eq (v.sw ‼ 11) 0·0)

-- the same of a switch row
abbrev pub longitude_in : List ℤ → Bool
longitude_in w = is_one (given w 10) && is_one (given w 11)

t10s_read : (v : View) (p : List Float) (g : List (List Float)) (d e : LongitudeSeasons) → (longitude_on v ≡ true → d ≡ e) → t10s_given v p g d ≡ t10s_given v p g e
unfolding t10s_given
t10s_read v p g d e h = go (eq (v.sw ‼ 10) 0·0 || eq (v.sw ‼ 11) 0·0) refl
  where
    go : (b : Bool) → (eq (v.sw ‼ 10) 0·0 || eq (v.sw ‼ 11) 0·0) ≡ b → t10s_given v p g d ≡ t10s_given v p g e
    go true k = rw k
    go false k = ap (t10s_given v p g) (h (ap not k))

glob7s_read : (v : View) (p : List Float) (g : List (List Float)) (c : Carried) (x : Seasons) (d e : LongitudeSeasons) → (longitude_on v ≡ true → d ≡ e)
    → glob7s_from_given v p g c x d ≡ glob7s_from_given v p g c x e
unfolding glob7s_from_given glob7s_given
glob7s_read v p g c x d e h = rw (t10s_read v p g d e h)

-- ---- set by set

cond_same : (b : Bool) (x y z : Float) → (b ≡ true → x ≡ y) → cond b x z ≡ cond b y z
cond_same true x y z h = h refl
cond_same false x y z h = refl

filled_same : (n : ℕ) (f h : ℕ → Float) (i : ℕ) (a : List Float) → ((k : ℕ) → i ≤ k → k < i + n → f k ≡ h k) → filled n f i a ≡ filled n h i a
unfolding filled
filled_same zero f h i a e = refl
filled_same (suc n) f h i a e =
    ap (λ (x : Float). filled n f (i + 1) (set a i x)) (e i (omega arith) (omega arith))
    ∙ filled_same n f h (i + 1) (set a i (h i)) (λ k l m. e k (omega (arith, l)) (omega (arith, m)))

module _ (v : View) (n : Need) (s : List Float) (q : Seasoned v.doy n (longitude_on v) s) (g : List (List Float)) where
  wide_in_lem : (c : Carried) (k : ℕ) → k < 11 → globe7_at_given n v g c s k ≡ globe7_at n v g c k
  unfolding wide_given wide_of globe7_value
  wide_in_lem c k h =
      cond_same (globe7_needed n k) _ _ 0·0 (λ e. ap (globe7_given v (globe7_set k) g (active_of v (globe7_set k) (globe7_before v c k))) (q.wide k h e))

  pub globe7_in : (c : Carried) → globe7_values_given n v g c s ≡ globe7_values n v g c
  unfolding globe7_values_given globe7_values
  globe7_in c = filled_same 11 (globe7_at_given n v g c s) (globe7_at n v g c) 0 (replicate 11 0·0) (λ k _ h. wide_in_lem c k h)

  lower_in : (c3 c8 : Carried) (k : ℕ) → k < 14 → glob7s_at_given n v g c3 c8 s k ≡ glob7s_at n v g c3 c8 k
  unfolding glob7s_from
  lower_in c3 c8 k h =
      cond_same (glob7s_needed n k) _ _ 0·0
      (λ e.
      glob7s_read v (glob7s_set k) g (glob7s_before k c3 c8) (seasons_at s (44 + 4 * k)) (longitude_seasons_at s (100 + 4 * k)) (longitude_cosines_of v.doy (glob7s_set k)) (λ l. q.longitude l k h e)
      ∙ ap (λ (d : Seasons). glob7s_from_given v (glob7s_set k) g (glob7s_before k c3 c8) d (longitude_cosines_of v.doy (glob7s_set k))) (q.lower k h e))

  pub glob7s_in : (c3 c8 : Carried) → glob7s_values_given n v g c3 c8 s ≡ glob7s_values n v g c3 c8
  unfolding glob7s_values_given glob7s_values
  glob7s_in c3 c8 = filled_same 14 (glob7s_at_given n v g c3 c8 s) (glob7s_at n v g c3 c8) 0 (replicate 14 0·0) (λ k _ h. lower_in c3 c8 k h)

-- ---- the whole

named_is : (v : View) (n : Need)
    → named_values (globe7_values n v (legendre_in v) (quiet_of v)) (glob7s_values n v (legendre_in v) (active_of v pd_t3 (quiet_of v)) (active_of v pd_t8 (active_of v pd_t7 (quiet_of v))))
    ≡ expansion_values_of v n
unfolding expansion_values_of globe7_values glob7s_values filled globe7_sets glob7s_sets
named_is v n = refl

pub in_season : (v : View) (n : Need) (s : List Float) → Seasoned v.doy n (longitude_on v) s → expansion_values_given v n s ≡ expansion_values_of v n
unfolding expansion_values_given
in_season v n s q =
    ap₂ named_values (globe7_in v n s q (legendre_in v) (quiet_of v)) (glob7s_in v n s q (legendre_in v) (active_of v pd_t3 (quiet_of v)) (active_of v pd_t8 (active_of v pd_t7 (quiet_of v))))
    ∙ named_is v n

-- a row's switches 10 and 11 are on where the View's are
off : (a b : Bool) → not (eq (on_off a) 0·0 || eq (on_off b) 0·0) ≡ (a && b)
unfolding eq of_bits
off true true = refl
off true false = refl
off false b = refl

pub longitude_in_lem : (w : List ℤ) (n : Input) → longitude_on (view_of w n) ≡ longitude_in w
unfolding view_of sw_of filled
longitude_in_lem w n = off (is_one (given w 10)) (is_one (given w 11))

pub record_in_season : (w : List ℤ) (n : Input) (a : Need) (s : List Float) → Seasoned (of_int binary64 n.doy) a (longitude_in w) s → record_values_given w n a s ≡ record_values_of w n a
unfolding record_values_given record_values_of view_of
record_in_season w n a s q =
    let r : Seasoned (view_of w n).doy a (longitude_on (view_of w n)) s = rw (longitude_in_lem w n) q in
    cc (r.third, in_season (view_of w n) a s r)
