-- globe7 and glob7s over a View: the State after, and the value from the State after. Every write of globe7 stands before every read of it.
use Rattle.std.specs.Prelude.{cond, not, ◌&&◌, List, [], ◌∷◌, set, Float}
use Rattle.std.specs.Float.Ieee.{neg, eq, ne}
use Rattle.numbers.specs.Arithmetic.{◌⊗◌, ◌‼◌}
use Rattle.numbers.specs.Literals.{0·0, 1·0, 2·0}
use Rattle.setting.specs.declared.State.{State}
use Rattle.setting.specs.declared.View.{View}
use Rattle.setting.specs.declared.Left.{Left}
use Rattle.expansion_parts.specs.declared.Seasons.{Seasons}
use Rattle.expansion_parts.specs.declared.LongitudeSeasons.{LongitudeSeasons}
use Rattle.expansion.specs.declared.FirstTerms.{FirstTerms}
use Rattle.expansion.specs.declared.Carried.{Carried}
use Rattle.terms.specs.Terms.{t0_of, f1_of, f2_of, t1_of, t3_of, t4_of, t5_of, t1s_of, t2s_of, t3s_of, t4s_of}
use Rattle.legendre.specs.Legendre.{legendre_of, flat_of, rows_of}
use Rattle.activity.specs.Activity.{apdf_next_of, apt_next_of}
use Rattle.expansion_parts.specs.ExpansionParts.{day_cosines_of, longitude_cosines_of, t6_of, t7_of, t13_of, t8_of, t10_of, t11_of, t12_of, weighted_of, t8s_of, t10s_given, t6s_of, t7s_of, t13s_of}
use Rattle.views.specs.declared.Turns.{Turns}

-- t[0] to t[5] of globe7
unfoldable pub first_terms_of : View → List Float → List (List Float) → Seasons → FirstTerms
first_terms_of v p g d =
    let c1 = v.swc ‼ 1 in
    record {
      t0 = t0_of p v.df v.dfa v.dfa2;
      t1 = t1_of p g v.dfa c1;
      t2 = p ‼ 18 ⊗ d.cd32;
      t3 = t3_of p g d.cd18;
      t4 = t4_of p g (f1_of p v.df v.dfa c1) d.cd14;
      t5 = t5_of p g d.cd39;
    }

-- What State carries for the terms, beside the Legendre values
unfoldable pub carried_of : State → Carried
carried_of s =
    record {
      dfa = s.dfa;
      ctloc = s.ctloc;
      stloc = s.stloc;
      c2tloc = s.c2tloc;
      s2tloc = s.s2tloc;
      s3tloc = s.s3tloc;
      c3tloc = s.c3tloc;
      apdf = s.apdf;
      apt = s.apt ‼ 0;
    }

-- The value of globe7, from what the State after it carries; d are its cosines of the day
unfoldable pub globe7_given : View → List Float → List (List Float) → Carried → Seasons → Float
globe7_given v p g s d =
    let y = first_terms_of v p g d in
    let c5 = v.swc ‼ 5 in
    let fb = f2_of p v.df v.dfa (v.swc ‼ 1) in
    weighted_of (p ‼ 30) v.sw (
    y.t0 ∷ y.t1 ∷ y.t2 ∷ y.t3 ∷ y.t4 ∷ y.t5 ∷
    t6_of p g (v.sw ‼ 7) fb d.cd14 c5 s.ctloc s.stloc ∷
    t7_of p g (v.sw ‼ 8) fb d.cd14 c5 s.c2tloc s.s2tloc ∷
    t8_of v p g d.cd14 s.apdf s.apt ∷ 0·0 ∷
    t10_of v p g d.cd14 ∷ t11_of v p g d.cd14 ∷
    t12_of v p g d.cd14 s.apdf s.apt ∷
    t13_of p g (v.sw ‼ 14) fb d.cd14 c5 s.c3tloc s.s3tloc ∷ [])

unfoldable pub globe7_value : View → List Float → List (List Float) → Carried → Float
globe7_value v p g s = globe7_given v p g s (day_cosines_of v.doy p)

-- The sines of local time after globe7: new only where switch 7, 8 or 14 is on
unfoldable pub turns_after_of : View → State → Turns
turns_after_of v s =
    let any = not (eq (v.sw ‼ 7) 0·0 && eq (v.sw ‼ 8) 0·0 && eq (v.sw ‼ 14) 0·0) in
    record {
      st = cond any v.st s.stloc;
      ct = cond any v.ct s.ctloc;
      s2t = cond any v.s2t s.s2tloc;
      c2t = cond any v.c2t s.c2tloc;
      s3t = cond any v.s3t s.s3tloc;
      c3t = cond any v.c3t s.c3tloc;
    }

-- The State after globe7
unfoldable pub state_after : View → List Float → State → State
state_after v p s =
    let t = turns_after_of v s in
    record {
      gsurf = s.gsurf;
      re = s.re;
      dd = s.dd;
      dm04 = s.dm04;
      dm16 = s.dm16;
      dm28 = s.dm28;
      dm28_set = s.dm28_set;
      dm32 = s.dm32;
      dm40 = s.dm40;
      dm01 = s.dm01;
      dm14 = s.dm14;
      meso_tn1 = s.meso_tn1;
      meso_tn2 = s.meso_tn2;
      meso_tn3 = s.meso_tn3;
      meso_tgn1 = s.meso_tgn1;
      meso_tgn2 = s.meso_tgn2;
      meso_tgn3 = s.meso_tgn3;
      dfa = v.dfa;
      plg = flat_of (legendre_of v.slat v.clat s.plg);
      ctloc = t.ct;
      stloc = t.st;
      c2tloc = t.c2t;
      s2tloc = t.s2t;
      s3tloc = t.s3t;
      c3tloc = t.c3t;
      apdf = apdf_next_of (v.sw ‼ 9) (p ‼ 43) (p ‼ 44) v.ap s.apdf;
      apt = set s.apt 0 (apt_next_of (v.sw ‼ 9) (p ‼ 51) (p ‼ 138) (p ‼ 24) (p ‼ 25) v.g_lat v.ap_array (s.apt ‼ 0));
    }

-- globe7 from a View
unfoldable pub globe7_of : View → List Float → State → Left Float
globe7_of v p s =
    let a = state_after v p s in record { value = globe7_value v p (rows_of a.plg) (carried_of a); state = a }

-- The value of glob7s; d are its cosines of the day, e those of the longitude's term
unfoldable pub glob7s_given : View → List Float → List (List Float) → Carried → Seasons → LongitudeSeasons → Float
glob7s_given v p g s d e =
    weighted_of 0·0 v.sw (
    (p ‼ 21 ⊗ s.dfa) ∷
    t1s_of p g ∷
    t2s_of p g d.cd32 ∷
    t3s_of p g d.cd18 ∷
    t4s_of p g d.cd14 ∷
    t5_of p g d.cd39 ∷
    t6s_of p g (v.sw ‼ 7) d.cd14 (v.swc ‼ 5) s.ctloc s.stloc ∷
    t7s_of p g (v.sw ‼ 8) d.cd14 (v.swc ‼ 5) s.c2tloc s.s2tloc ∷
    t8s_of v p g s.apdf s.apt ∷
    0·0 ∷
    t10s_given v p g e ∷
    0·0 ∷
    0·0 ∷
    t13s_of p g (v.sw ‼ 14) s.c3tloc s.s3tloc ∷ [])

-- glob7s from what State carries
unfoldable pub glob7s_from_given : View → List Float → List (List Float) → Carried → Seasons → LongitudeSeasons → Float
glob7s_from_given v p g s d e =
    let p99 = cond (eq (p ‼ 99) 0·0) 2·0 (p ‼ 99) in
    cond (ne p99 2·0) (neg 1·0) (
    glob7s_given v p g s d e)

unfoldable pub glob7s_from : View → List Float → List (List Float) → Carried → Float
glob7s_from v p g s = glob7s_from_given v p g s (day_cosines_of v.doy p) (longitude_cosines_of v.doy p)

-- glob7s from a View
unfoldable pub glob7s_of : View → List Float → State → Float
glob7s_of v p s = glob7s_from v p (rows_of s.plg) (carried_of s)
