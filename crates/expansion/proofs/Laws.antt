-- The parts of the expansions from the values of their calls.
use mathlib.Core.Path.{◌≡◌}
use mathlib.Core.Bool.{cond, not, ◌&&◌}
use mathlib.Core.List.{List, [], ◌∷◌}
use lib.ListN.{set}
use lib.Ieee.{Float, eq}
use Rattle.numbers.specs.Arithmetic.{◌⊗◌, ◌‼◌}
use Rattle.numbers.specs.Literals.{0·0}
use Rattle.setting.specs.declared.State.{State}
use Rattle.setting.specs.declared.View.{View}
use Rattle.views.specs.declared.Turns.{Turns}
use Rattle.expansion_parts.specs.declared.Seasons.{Seasons}
use Rattle.expansion_parts.specs.declared.LongitudeSeasons.{LongitudeSeasons}
use Rattle.expansion.specs.declared.FirstTerms.{FirstTerms}
use Rattle.expansion.specs.declared.Carried.{Carried}
use Rattle.terms.specs.Terms.{t0_of, f1_of, f2_of, t1_of, t3_of, t4_of, t5_of, t1s_of, t2s_of, t3s_of, t4s_of}
use Rattle.legendre.specs.Legendre.{legendre_of, flat_of}
use Rattle.activity.specs.Activity.{apdf_next_of, apt_next_of}
use Rattle.expansion_parts.specs.ExpansionParts.{t6_of, t7_of, t8_of, t10_of, t11_of, t12_of, t13_of, weighted_of, t6s_of, t7s_of, t8s_of, t10s_given, t13s_of}
use Rattle.expansion.specs.Expansion.{first_terms_of, globe7_given, turns_after_of, state_after, glob7s_given}

pub globe7_value_law : (v : View) (p : List Float) (g : List (List Float)) (s : Carried) (d : Seasons)
    (x·end : Float) (x13 : Float) (x12 : Float) (x11 : Float) (x10 : Float) (x8 : Float) (x7 : Float) (x6 : Float) (fb : Float) (y : FirstTerms)
    → x·end ≡ weighted_of (p ‼ 30) v.sw (y.t0 ∷ y.t1 ∷ y.t2 ∷ y.t3 ∷ y.t4 ∷ y.t5 ∷ x6 ∷ x7 ∷ x8 ∷ 0·0 ∷ x10 ∷ x11 ∷ x12 ∷ x13 ∷ [])
    → x13 ≡ t13_of p g (v.sw ‼ 14) fb d.cd14 (v.swc ‼ 5) s.c3tloc s.s3tloc
    → x12 ≡ t12_of v p g d.cd14 s.apdf s.apt
    → x11 ≡ t11_of v p g d.cd14
    → x10 ≡ t10_of v p g d.cd14
    → x8 ≡ t8_of v p g d.cd14 s.apdf s.apt
    → x7 ≡ t7_of p g (v.sw ‼ 8) fb d.cd14 (v.swc ‼ 5) s.c2tloc s.s2tloc
    → x6 ≡ t6_of p g (v.sw ‼ 7) fb d.cd14 (v.swc ‼ 5) s.ctloc s.stloc
    → fb ≡ f2_of p v.df v.dfa (v.swc ‼ 1)
    → y ≡ first_terms_of v p g d
    → ◌≡◌ {A = Float} (x·end) (globe7_given v p g s d)
unfolding globe7_given
globe7_value_law v p g s d x·end x13 x12 x11 x10 x8 x7 x6 fb y e0 e1 e2 e3 e4 e5 e6 e7 e8 e9 =
    simp (e0, e1, e2, e3, e4, e5, e6, e7, e8, e9)

pub first_terms_law : (v : View) (p : List Float) (g : List (List Float)) (d : Seasons)
    (x5 : Float) (x4 : Float) (x3 : Float) (x1 : Float) (x0 : Float) (fa : Float)
    → x5 ≡ t5_of p g d.cd39
    → x4 ≡ t4_of p g fa d.cd14
    → x3 ≡ t3_of p g d.cd18
    → x1 ≡ t1_of p g v.dfa (v.swc ‼ 1)
    → x0 ≡ t0_of p v.df v.dfa v.dfa2
    → fa ≡ f1_of p v.df v.dfa (v.swc ‼ 1)
    → ◌≡◌ {A = FirstTerms} (record { t0 = x0; t1 = x1; t2 = p ‼ 18 ⊗ d.cd32; t3 = x3; t4 = x4; t5 = x5 }) (first_terms_of v p g d)
unfolding first_terms_of
first_terms_law v p g d x5 x4 x3 x1 x0 fa e0 e1 e2 e3 e4 e5 =
    simp (e0, e1, e2, e3, e4, e5)

pub glob7s_value_law : (v : View) (p : List Float) (g : List (List Float)) (s : Carried) (d : Seasons) (e : LongitudeSeasons)
    (x·end : Float) (x13 : Float) (x10 : Float) (x8 : Float) (x7 : Float) (x6 : Float) (x5 : Float) (x4 : Float) (x3 : Float) (x2 : Float) (x1 : Float)
    → x·end ≡ weighted_of 0·0 v.sw ((p ‼ 21 ⊗ s.dfa) ∷ x1 ∷ x2 ∷ x3 ∷ x4 ∷ x5 ∷ x6 ∷ x7 ∷ x8 ∷ 0·0 ∷ x10 ∷ 0·0 ∷ 0·0 ∷ x13 ∷ [])
    → x13 ≡ t13s_of p g (v.sw ‼ 14) s.c3tloc s.s3tloc
    → x10 ≡ t10s_given v p g e
    → x8 ≡ t8s_of v p g s.apdf s.apt
    → x7 ≡ t7s_of p g (v.sw ‼ 8) d.cd14 (v.swc ‼ 5) s.c2tloc s.s2tloc
    → x6 ≡ t6s_of p g (v.sw ‼ 7) d.cd14 (v.swc ‼ 5) s.ctloc s.stloc
    → x5 ≡ t5_of p g d.cd39
    → x4 ≡ t4s_of p g d.cd14
    → x3 ≡ t3s_of p g d.cd18
    → x2 ≡ t2s_of p g d.cd32
    → x1 ≡ t1s_of p g
    → ◌≡◌ {A = Float} (x·end) (glob7s_given v p g s d e)
unfolding glob7s_given
glob7s_value_law v p g s d e x·end x13 x10 x8 x7 x6 x5 x4 x3 x2 x1 e0 e1 e2 e3 e4 e5 e6 e7 e8 e9 e10 =
    simp (e0, e1, e2, e3, e4, e5, e6, e7, e8, e9, e10)

pub after_law : (v : View) (p : List Float) (s : State)
    (apt : Float) (apdf : Float) (t : Turns) (q : List Float) (g : List (List Float))
    → apt ≡ apt_next_of (v.sw ‼ 9) (p ‼ 51) (p ‼ 138) (p ‼ 24) (p ‼ 25) v.g_lat v.ap_array (s.apt ‼ 0)
    → apdf ≡ apdf_next_of (v.sw ‼ 9) (p ‼ 43) (p ‼ 44) v.ap s.apdf
    → t ≡ turns_after_of v s
    → q ≡ flat_of g
    → g ≡ legendre_of v.slat v.clat s.plg
    → ◌≡◌ {A = State} (record { gsurf = s.gsurf; re = s.re; dd = s.dd; dm04 = s.dm04; dm16 = s.dm16; dm28 = s.dm28; dm28_set = s.dm28_set; dm32 = s.dm32; dm40 = s.dm40; dm01 = s.dm01; dm14 = s.dm14; meso_tn1 = s.meso_tn1; meso_tn2 = s.meso_tn2; meso_tn3 = s.meso_tn3; meso_tgn1 = s.meso_tgn1; meso_tgn2 = s.meso_tgn2; meso_tgn3 = s.meso_tgn3; dfa = v.dfa; plg = q; ctloc = t.ct; stloc = t.st; c2tloc = t.c2t; s2tloc = t.s2t; s3tloc = t.s3t; c3tloc = t.c3t; apdf = apdf; apt = set s.apt 0 apt }) (state_after v p s)
unfolding state_after
after_law v p s apt apdf t q g e0 e1 e2 e3 e4 =
    simp (e0, e1, e2, e3, e4)

pub turns_after_law : (v : View) (s : State) (c3t s3t c2t s2t ct st : Float)
    → c3t ≡ cond (not (((eq (v.sw ‼ 7) 0·0) && (eq (v.sw ‼ 8) 0·0)) && (eq (v.sw ‼ 14) 0·0))) v.c3t s.c3tloc
    → s3t ≡ cond (not (((eq (v.sw ‼ 7) 0·0) && (eq (v.sw ‼ 8) 0·0)) && (eq (v.sw ‼ 14) 0·0))) v.s3t s.s3tloc
    → c2t ≡ cond (not (((eq (v.sw ‼ 7) 0·0) && (eq (v.sw ‼ 8) 0·0)) && (eq (v.sw ‼ 14) 0·0))) v.c2t s.c2tloc
    → s2t ≡ cond (not (((eq (v.sw ‼ 7) 0·0) && (eq (v.sw ‼ 8) 0·0)) && (eq (v.sw ‼ 14) 0·0))) v.s2t s.s2tloc
    → ct ≡ cond (not (((eq (v.sw ‼ 7) 0·0) && (eq (v.sw ‼ 8) 0·0)) && (eq (v.sw ‼ 14) 0·0))) v.ct s.ctloc
    → st ≡ cond (not (((eq (v.sw ‼ 7) 0·0) && (eq (v.sw ‼ 8) 0·0)) && (eq (v.sw ‼ 14) 0·0))) v.st s.stloc
    → ◌≡◌ {A = Turns} (record { st = st; ct = ct; s2t = s2t; c2t = c2t; s3t = s3t; c3t = c3t }) (turns_after_of v s)
unfolding turns_after_of
turns_after_law v s c3t s3t c2t s2t ct st e0 e1 e2 e3 e4 e5 = rw (e0, e1, e2, e3, e4, e5)
