-- Magnetic activity by the coefficients that sets share: what is worked out once for them, and that it is what each of them would work out.
use Rattle.std.specs.Prelude.{◌≡◌, refl, Bool, true, false, cond, not, ◌&&◌, List, Float}
use Rattle.std.proofs.Common.{ap, ◌∙◌}
use Rattle.std.specs.Float.Ieee.{neg, eq, ne}
use Rattle.numbers.specs.Arithmetic.{◌‼◌}
use Rattle.numbers.specs.Literals.{0·0, 1·0}
use Rattle.setting.specs.declared.View.{View}
use Rattle.tables.specs.Tables.{pt_t, ps_t, pd_t2, pd_t3, pd_t4, pd_t5, pd_t6, pd_t7, pd_t8}
use Rattle.activity.specs.declared.Responses.{Responses}
use Rattle.activity.specs.Activity.{apdf_from_of, apdf_next_of, exp1_of}
use Rattle.activity.specs.Responses.{responses_of, sg0_from, apt_from, apt_from_lem}
use Rattle.expansion.specs.declared.Carried.{Carried}
use Rattle.expansion_values.specs.declared.Activity.{Activity}
use Rattle.expansion_values.specs.ExpansionValues.{active_of}

abbrev pub no_responses : Responses
no_responses = record { g1 = 0·0; g2 = 0·0; g3 = 0·0; g4 = 0·0; g5 = 0·0; g6 = 0·0 }

abbrev one_activity : Bool → Float → Responses → Activity
one_activity b x g = cond b (record { apdf = 0·0; g = g }) (record { apdf = x; g = no_responses })

-- the one that switch 9 asks for; the other is 0
unfoldable pub activity_of : Float → Float → List Float → Float → Float → Float → Float → Activity
activity_of sw9 ap history p43 p44 p24 p25 =
    one_activity (eq sw9 (neg 1·0)) (apdf_from_of p43 p44 ap) (responses_of p24 p25 history)

-- the activity of a set
abbrev pub activity_in : View → List Float → Activity
activity_in v p = activity_of (v.sw ‼ 9) v.ap v.ap_array (p ‼ 43) (p ‼ 44) (p ‼ 24) (p ‼ 25)

-- what State carries, its activities apart
abbrev pub carrying : Carried → Float → Float → Carried
carrying c x y =
    record {
      dfa = c.dfa;
      ctloc = c.ctloc;
      stloc = c.stloc;
      c2tloc = c.c2tloc;
      s2tloc = c.s2tloc;
      s3tloc = c.s3tloc;
      c3tloc = c.c3tloc;
      apdf = x;
      apt = y;
    }

-- what State carries after globe7 over a set of the activity a
unfoldable pub active_from : View → Activity → Float → Float → Carried → Carried
active_from v a p51 p138 c =
    carrying c (cond (eq (v.sw ‼ 9) (neg 1·0)) c.apdf a.apdf) (apt_from (v.sw ‼ 9) p51 p138 v.g_lat a.g c.apt)

daily : (b : Bool) (old x : Float) (g : Responses) → cond b old (one_activity b x g).apdf ≡ cond b old x
daily true old x g = refl
daily false old x g = refl

history : (b n : Bool) (old e x : Float) (g : Responses)
    → cond (not (b && n)) old (sg0_from e (one_activity b x g).g) ≡ cond (not (b && n)) old (sg0_from e g)
history true n old e x g = refl
history false n old e x g = refl

-- A set's own activity is what its activity gives
pub active_from_lem : (v : View) (p : List Float) (c : Carried) (a : Activity) → a ≡ activity_in v p → active_from v a (p ‼ 51) (p ‼ 138) c ≡ active_of v p c
unfolding active_from active_of activity_of apt_from apdf_next_of
active_from_lem v p c a e =
    ap (λ (b : Activity). active_from v b (p ‼ 51) (p ‼ 138) c) e
    ∙ cc (
      daily (eq (v.sw ‼ 9) (neg 1·0)) c.apdf (apdf_from_of (p ‼ 43) (p ‼ 44) v.ap) (responses_of (p ‼ 24) (p ‼ 25) v.ap_array),
      history (eq (v.sw ‼ 9) (neg 1·0)) (ne (p ‼ 51) 0·0) c.apt (exp1_of (p ‼ 51) (p ‼ 138) v.g_lat) (apdf_from_of (p ‼ 43) (p ‼ 44) v.ap) (responses_of (p ‼ 24) (p ‼ 25) v.ap_array),
      apt_from_lem (v.sw ‼ 9) (p ‼ 51) (p ‼ 138) (p ‼ 24) (p ‼ 25) v.g_lat v.ap_array c.apt,
    )

-- ---- the sets that have PT's

pub in_ps : (v : View) → activity_in v pt_t ≡ activity_in v ps_t
unfolding pt_t ps_t
in_ps v = refl

pub in_pd2 : (v : View) → activity_in v pt_t ≡ activity_in v pd_t2
unfolding pt_t pd_t2
in_pd2 v = refl

pub in_pd3 : (v : View) → activity_in v pt_t ≡ activity_in v pd_t3
unfolding pt_t pd_t3
in_pd3 v = refl

pub in_pd4 : (v : View) → activity_in v pt_t ≡ activity_in v pd_t4
unfolding pt_t pd_t4
in_pd4 v = refl

pub in_pd5 : (v : View) → activity_in v pt_t ≡ activity_in v pd_t5
unfolding pt_t pd_t5
in_pd5 v = refl

pub in_pd6 : (v : View) → activity_in v pt_t ≡ activity_in v pd_t6
unfolding pt_t pd_t6
in_pd6 v = refl

pub in_pd7 : (v : View) → activity_in v pt_t ≡ activity_in v pd_t7
unfolding pt_t pd_t7
in_pd7 v = refl

pub in_pd8 : (v : View) → activity_in v pt_t ≡ activity_in v pd_t8
unfolding pt_t pd_t8
in_pd8 v = refl
