-- The row out of what is stored of a record is the one-altitude call's, at every altitude whose part is stored.
use Rattle.std.specs.Prelude.{◌≡◌, refl, Bool, cond, ◌||◌, List, ◌++◌, ℤ, length, Float}
use Rattle.std.proofs.Common.{sym, ap, ◌∙◌}
use Rattle.std.proofs.Math.Bool.{true, false, not}
use Rattle.std.proofs.lemmas.Bool.{false≢true}
use Rattle.std.specs.Float.Ieee.{lt, le, of_bits}
use Rattle.numbers.specs.Arithmetic.{◌‼◌}
use Rattle.numbers.specs.Booleans.{or_left, or_right, and_both}
use Rattle.numbers.specs.Literals.{72·5, 300·0, 2500·0}
use Rattle.setting.specs.declared.Input.{Input}
use Rattle.views.specs.View.{turned_of, view_of}
use Rattle.acceptance.specs.Acceptance.{with_alt_of}
use Rattle.needed_sets.specs.declared.Need.{Need}
use Rattle.needed_sets.specs.NeededSets.{need_at}
use Rattle.expansion_values.specs.ExpansionValues.{expansion_values_of}
use Rattle.tables.specs.Tables.{pdl_t1}
use Rattle.gts7_arithmetic.specs.Gts7Arithmetic.{site_from, site_with, site_of}
use Rattle.parameters.specs.Parameters.{present_of}
use Rattle.atmosphere.specs.Atmosphere.{eleven_from, eleven_with, eleven_of}
use Rattle.atmosphere.proofs.Laws.{present_mass, site_mass}
use Rattle.atmosphere.specs.Answers.{NeedCovers, eleven_covered}
use Rattle.stored_parts.specs.declared.Parts.{Parts}
use Rattle.stored_parts.specs.Parts.{parts_at}
use Rattle.stored_parts.specs.Held.{PartsHold}
use Rattle.stored.specs.Stored.{need_of, stored_of, row_stored}
use Rattle.stored.specs.Rows.{stored_told}

-- ---- the sets that the parts read hold those that an altitude needs

-- by the value of a test
by_value : {A : Type 0} (b : Bool) → (b ≡ true → A) → (b ≡ false → A) → A
by_value true f g = f refl
by_value false f g = g refl

not_above_72 : lt (pdl_t1 ‼ 15) 72·5 ≡ false
unfolding lt of_bits pdl_t1
not_above_72 = refl

not_over_72 : lt 72·5 72·5 ≡ false
unfolding lt of_bits
not_over_72 = refl

module _ (p : Parts) (z : Float) (h : PartsHold p (parts_at z)) where
  at_summit : le 72·5 z ≡ true → lt 72·5 z ≡ false → p.summit ≡ true
  unfolding parts_at
  at_summit e f = h.summit (and_both (le 72·5 z) (not (lt 72·5 z)) e (ap not f))

  in_low : lt 72·5 z ≡ true → lt (pdl_t1 ‼ 15) z ≡ false → p.low ≡ true
  unfolding parts_at
  in_low e f = h.low (and_both (lt 72·5 z) (not (lt (pdl_t1 ‼ 15) z)) e (ap not f))

  in_mid : lt (pdl_t1 ‼ 15) z ≡ true → lt z 300·0 ≡ true → p.mid ≡ true
  unfolding parts_at
  in_mid e f = h.mid (and_both (lt (pdl_t1 ‼ 15) z) (lt z 300·0) e f)

  in_top : lt (pdl_t1 ‼ 15) z ≡ true → lt z 300·0 ≡ false → p.top ≡ true
  unfolding parts_at
  in_top e f = h.top (and_both (lt (pdl_t1 ‼ 15) z) (not (lt z 300·0)) e (ap not f))

  above_za_lem : lt (pdl_t1 ‼ 15) z ≡ true → (p.mid || p.top) ≡ true
  above_za_lem e = by_value (lt z 300·0) (λ f. or_left p.mid p.top (in_mid e f)) (λ f. or_right p.mid p.top (in_top e f))

  over_72 : lt 72·5 z ≡ true → (p.low || (p.mid || p.top)) ≡ true
  over_72 e = by_value (lt (pdl_t1 ‼ 15) z) (λ f. or_right p.low (p.mid || p.top) (above_za_lem f)) (λ f. or_left p.low (p.mid || p.top) (in_low e f))

  up_to : (b : Bool) → lt 72·5 z ≡ b → lt (cond b z 72·5) 300·0 ≡ true → (p.summit || (p.below || (p.low || p.mid))) ≡ true
  unfolding parts_at
  up_to true e f =
      or_right p.summit _ (or_right p.below _ (by_value (lt (pdl_t1 ‼ 15) z) (λ g. or_right p.low p.mid (in_mid g f)) (λ g. or_left p.low p.mid (in_low e g))))
  up_to false e f =
      by_value (le 72·5 z) (λ g. or_left p.summit _ (at_summit g e)) (λ g. or_right p.summit _ (or_left p.below _ (h.below (ap not g))))

  warm : (b : Bool) → lt 72·5 z ≡ b → lt (pdl_t1 ‼ 15) (cond b z 72·5) ≡ true → (p.mid || p.top) ≡ true
  warm true e f = above_za_lem f
  warm false e f = absurd (false≢true (sym not_above_72 ∙ f))

  steep : (b : Bool) → lt 72·5 z ≡ b → lt 72·5 (cond b z 72·5) ≡ true → (p.low || (p.mid || p.top)) ≡ true
  steep true e f = over_72 f
  steep false e f = absurd (false≢true (sym not_over_72 ∙ f))

  pub need_covers : NeedCovers (need_of p) (need_at z)
  unfolding need_of need_at parts_at
  need_covers =
      record {
        high = λ e. by_value (lt 72·5 z) (λ f. or_right p.summit _ (over_72 f)) (λ f. or_left p.summit _ (at_summit e f));
        pt = warm (lt 72·5 z) refl;
        ps = steep (lt 72·5 z) refl;
        nodes = up_to (lt 72·5 z) refl;
        meso = h.below;
        tropo = h.tropo;
      }

-- nothing of the View and the Site depends on the record's own altitude
eleven_at : (w : List ℤ) (n : Input) (m : Need) (z : Float) → NeedCovers m (need_at z)
    → eleven_from (view_of w n).sw (site_of (view_of w n).sw n.g_lat (view_of w n).doy n.f107a) (expansion_values_of (view_of w n) m) z ≡ eleven_of w (with_alt_of n z)
unfolding eleven_of eleven_with site_of site_with with_alt_of view_of turned_of
eleven_at w n m z c =
    let v = view_of w n in
    sym (eleven_covered v m (site_of v.sw n.g_lat v.doy n.f107a) z (site_mass present_of v.sw n.g_lat _ _ n.f107a _ refl present_mass) c)

present_nine : (sw : List Float) (lat doy f107a : Float) → (site_of sw lat doy f107a).nine ≡ present_of
unfolding site_of site_with site_from
present_nine sw lat doy f107a = refl

-- The row out of the numbers stored of a record, of the parts p, is the one-altitude call's with that altitude
pub stored_eleven : (w : List ℤ) (n : Input) (p : Parts) (rec : List Float) (z : Float) → length rec ≡ 14 → le z 2500·0 ≡ true → PartsHold p (parts_at z)
    → row_stored ((view_of w n).sw ‼ 0) ((view_of w n).sw ‼ 15) (rec ++ stored_of p (view_of w n).sw (site_of (view_of w n).sw n.g_lat (view_of w n).doy n.f107a) (expansion_values_of (view_of w n) (need_of p))) z
    ≡ eleven_of w (with_alt_of n z)
stored_eleven w n p rec z len fits h =
    stored_told p (view_of w n).sw (site_of (view_of w n).sw n.g_lat (view_of w n).doy n.f107a) (expansion_values_of (view_of w n) (need_of p)) rec z (present_nine _ _ _ _) len fits h
    ∙ eleven_at w n (need_of p) z (need_covers p z h)
