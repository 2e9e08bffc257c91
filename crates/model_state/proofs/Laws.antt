-- Plans of several stages with State: from what each stage gives and leaves.
use mathlib.Core.Path.{◌≡◌, refl, sym, ap, ap₂, ◌∙◌}
use mathlib.Core.Bool.{Bool, true, false, cond, not}
use mathlib.Core.List.{List}
use lib.ListN.{replicate}
use lib.Ieee.{Float, lt, le}
use Rattle.numbers.specs.Arithmetic.{◌⊗◌, ◌‼◌}
use Rattle.numbers.specs.Literals.{0·0, 32·5, 72·5, 300·0}
use Rattle.elementary.specs.Root.{sqrt_of}
use Rattle.setting.specs.declared.State.{State}
use Rattle.setting.specs.declared.View.{View}
use Rattle.setting.specs.State.{fresh_of}
use Rattle.expansion.specs.Expansion.{state_after}
use Rattle.plan.specs.declared.ExpansionValues.{ExpansionValues}
use Rattle.plan.specs.Fields.{Fields, fields_of, with_fields, set_gravity, set_dd, set_nodes1, set_tn2, set_tn3, set_top3}
use Rattle.plan.specs.Plan.{Plan, Ask, either, ◌>>=◌, ends, told, fields_after, answer_to, run, stepped, stepped_done, stepped_keep, stepped_then}
use Rattle.needed_sets.specs.declared.Need.{Need}
use Rattle.needed_sets.specs.NeededSets.{need_at, with_high}
use Rattle.season.specs.Season.{season_into}
use Rattle.season.proofs.Filled.{seasoned, serves}
use Rattle.expansion_values.specs.Sets.{expansion_values_given}
use Rattle.expansion_values.specs.InSeason.{longitude_on, in_season}
use Rattle.expansion_values.specs.ExpansionValues.{expansion_values_of}
use Rattle.mixing_limits.specs.Limits.{mixed_at}
use Rattle.mixing_limits.specs.declared.Mixed.{Mixed}
use Rattle.profile.specs.declared.unchecked.Shape.{Shape}
use Rattle.species.specs.declared.Blend.{Blend}
use Rattle.species.specs.declared.Mixture.{Mixture}
use Rattle.tables.specs.Tables.{pd_t7, pd_t8, pdm_t2, pdl_t1}
use Rattle.gts7_arithmetic.specs.declared.Site.{Site}
use Rattle.gts7_arithmetic.specs.declared.Nodes.{Nodes}
use Rattle.gts7_arithmetic.specs.declared.SixSpecies.{SixSpecies}
use Rattle.gts7_arithmetic.specs.declared.Gts7Output.{Gts7Output}
use Rattle.gts7_arithmetic.specs.Gts7Arithmetic.{shape_of, anomalous_of, gather_of}
use Rattle.stages.specs.Stages.{densu_sets, tinf_plan, gradient_plan, tlb_plan, nodes_plan, shape_plan, n2_plan, helium_plan, oxygen_plan, o2_plan, argon_plan, hydrogen_plan, nitrogen_plan, anomalous_plan, species_plan, gts7_plan}
use Rattle.state_steps.proofs.Laws.{step}
use Rattle.lower_atmosphere.specs.declared.Meso.{Meso}
use Rattle.lower_atmosphere.specs.declared.Nodes as lower
use Rattle.lower_atmosphere.specs.declared.Gtd7Output.{Gtd7Output}
use Rattle.lower_atmosphere.specs.LowerAtmosphere.{meso_nodes_plan, meso_plan, lower_plan, gtd7_above, gtd7_below}
use Rattle.atmosphere.specs.Atmosphere.{gtd7_plan}
use Rattle.atmosphere.specs.Answers.{gtd7_left}

-- ---- what a plan's steps set

either_sets : {A : Type 0} (g : Ask → Float) (f x : Fields) (b : Bool) (m n : Plan A) → fields_after g m f ≡ x → fields_after g n f ≡ x → fields_after g (either b m n) f ≡ x
either_sets g f x true m n h k = h
either_sets g f x false m n h k = k

tinf_sets : (sw : List Float) (z : Float) (l : ExpansionValues) (f : Fields) → fields_after (answer_to l) (tinf_plan sw z) f ≡ f
unfolding fields_after tinf_plan ◌>>=◌
tinf_sets sw z l f = either_sets (answer_to l) f f (lt (pdl_t1 ‼ 15) z) _ _ refl refl

gradient_sets : (sw : List Float) (z : Float) (l : ExpansionValues) (f : Fields) → fields_after (answer_to l) (gradient_plan sw z) f ≡ f
unfolding fields_after gradient_plan ◌>>=◌
gradient_sets sw z l f = either_sets (answer_to l) f f (lt 72·5 z) _ _ refl refl

tlb_sets : (sw : List Float) (l : ExpansionValues) (f : Fields) → fields_after (answer_to l) (tlb_plan sw) f ≡ f
unfolding fields_after tlb_plan ◌>>=◌
tlb_sets sw l f = refl

either_nodes : (g : Ask → Float) (f : Fields) (b : Bool) (m n : Plan Nodes)
    → fields_after g m f ≡ set_nodes1 (told g m).tn (told g m).tgn f
    → fields_after g n f ≡ set_nodes1 (told g n).tn (told g n).tgn f
    → fields_after g (either b m n) f ≡ set_nodes1 (told g (either b m n)).tn (told g (either b m n)).tgn f
either_nodes g f true m n h k = h
either_nodes g f false m n h k = k

nodes_sets : (sw : List Float) (z : Float) (l : ExpansionValues) (f : Fields)
    → fields_after (answer_to l) (nodes_plan sw z) f ≡ set_nodes1 (told (answer_to l) (nodes_plan sw z)).tn (told (answer_to l) (nodes_plan sw z)).tgn f
unfolding told fields_after nodes_plan ◌>>=◌
nodes_sets sw z l f = either_nodes (answer_to l) f (lt z 300·0) _ _ refl refl

meso_sets : (sw : List Float) (u : Gts7Output) (l : ExpansionValues) (f : Fields)
    → fields_after (answer_to l) (meso_plan sw u) f ≡ set_top3 ((told (answer_to l) (meso_plan sw u)).tn2 ‼ 3) (set_tn2 (told (answer_to l) (meso_plan sw u)).tn2 (told (answer_to l) (meso_plan sw u)).tgn2 f)
unfolding told fields_after meso_plan meso_nodes_plan ◌>>=◌
meso_sets sw u l f = refl

lower_sets_none : (sw : List Float) (alt : Float) (m : Meso) (l : ExpansionValues) (f : Fields) → not (lt alt 32·5) ≡ true → fields_after (answer_to l) (lower_plan sw alt m) f ≡ f
unfolding fields_after lower_plan ◌>>=◌
lower_sets_none sw alt m l f t = simp t

lower_sets : (sw : List Float) (alt : Float) (m : Meso) (l : ExpansionValues) (f : Fields) → not (lt alt 32·5) ≡ false
    → fields_after (answer_to l) (lower_plan sw alt m) f ≡ set_tn3 (told (answer_to l) (lower_plan sw alt m)).tn3 (told (answer_to l) (lower_plan sw alt m)).tgn3 f
unfolding told fields_after lower_plan ◌>>=◌
lower_sets sw alt m l f t = simp t

-- ---- the stages

-- a stage that sets nothing
alone : {A : Type 0} (l : ExpansionValues) (m : Plan A) (s : State) (a : A) → ((f : Fields) → fields_after (answer_to l) m f ≡ f) → a ≡ told (answer_to l) m → stepped (answer_to l) m s ≡ ends a s
alone l m s a k e = step l m s s a e (ap (with_fields s) (sym (k (fields_of s))))

pub nodes_step : (sw : List Float) (z : Float) (l : ExpansionValues) (s s1 : State) (n : Nodes)
    → s1 ≡ with_fields s (set_nodes1 n.tn n.tgn (fields_of s))
    → n ≡ told (answer_to l) (nodes_plan sw z)
    → stepped (answer_to l) (nodes_plan sw z) s ≡ ends n s1
nodes_step sw z l s s1 n e f =
    step l (nodes_plan sw z) s s1 n f
    (e ∙ ap (λ (y : Nodes). with_fields s (set_nodes1 y.tn y.tgn (fields_of s))) f ∙ ap (with_fields s) (sym (nodes_sets sw z l (fields_of s))))

pub shape_step : (sw : List Float) (x : Site) (z : Float) (l : ExpansionValues) (s s1 : State) (h : Shape) (n : Nodes) (tlb g tinf : Float)
    → h ≡ shape_of x tinf tlb g n
    → stepped (answer_to l) (nodes_plan sw z) s ≡ ends n s1
    → tlb ≡ told (answer_to l) (tlb_plan sw)
    → g ≡ told (answer_to l) (gradient_plan sw z)
    → tinf ≡ told (answer_to l) (tinf_plan sw z)
    → stepped (answer_to l) (shape_plan sw x z) s ≡ ends h s1
unfolding shape_plan
shape_step sw x z l s s1 h n tlb g tinf e0 e1 e2 e3 e4 =
    stepped_then (answer_to l) (tinf_plan sw z) _ s tinf s (alone l (tinf_plan sw z) s tinf (tinf_sets sw z l) e4)
    ∙ stepped_then (answer_to l) (gradient_plan sw z) _ s g s (alone l (gradient_plan sw z) s g (gradient_sets sw z l) e3)
    ∙ stepped_then (answer_to l) (tlb_plan sw) _ s tlb s (alone l (tlb_plan sw) s tlb (tlb_sets sw l) e2)
    ∙ stepped_then (answer_to l) (nodes_plan sw z) _ s n s1 e1
    ∙ stepped_done (answer_to l) _ s1
    ∙ ap (λ (k : Shape). ends k s1) (sym e0)

pub species_steps : (sw : List Float) (h : Shape) (k : Mixed) (z b28 flux xmm : Float) (l : ExpansionValues) (s s1 s2 s3 s4 s5 s6 : State) (he o o2 ar hy n : Mixture) (d m : List Float)
    → stepped (answer_to l) (nitrogen_plan sw h k.n z b28 (m ‼ 3 ⊗ d ‼ 5) xmm) s5 ≡ ends n s6
    → stepped (answer_to l) (hydrogen_plan sw h k.h z b28 (m ‼ 3 ⊗ d ‼ 5) xmm) s4 ≡ ends hy s5
    → stepped (answer_to l) (argon_plan sw h k.ar z b28 (m ‼ 3 ⊗ d ‼ 5) xmm) s3 ≡ ends ar s4
    → stepped (answer_to l) (o2_plan sw h k.o2 z b28 (m ‼ 3 ⊗ d ‼ 5) xmm flux) s2 ≡ ends o2 s3
    → stepped (answer_to l) (oxygen_plan sw h k.o z (m ‼ 3 ⊗ d ‼ 5) xmm flux) s1 ≡ ends o s2
    → stepped (answer_to l) (helium_plan sw h k.he z b28 (m ‼ 3 ⊗ d ‼ 5) xmm) s ≡ ends he s1
    → d ≡ pdl_t1
    → m ≡ pdm_t2
    → stepped (answer_to l) (species_plan sw h k z b28 flux xmm) s ≡ ends (record { he = he; o = o; o2 = o2; ar = ar; h = hy; n = n }) s6
unfolding species_plan
species_steps sw h k z b28 flux xmm l s s1 s2 s3 s4 s5 s6 he o o2 ar hy n d m e1 e2 e3 e4 e5 e6 e7 e8 =
    stepped_then (answer_to l) (helium_plan sw h k.he z b28 (pdm_t2 ‼ 3 ⊗ pdl_t1 ‼ 5) xmm) _ s he s1 (rw (e8, e7) at e6)
    ∙ stepped_then (answer_to l) (oxygen_plan sw h k.o z (pdm_t2 ‼ 3 ⊗ pdl_t1 ‼ 5) xmm flux) _ s1 o s2 (rw (e8, e7) at e5)
    ∙ stepped_then (answer_to l) (o2_plan sw h k.o2 z b28 (pdm_t2 ‼ 3 ⊗ pdl_t1 ‼ 5) xmm flux) _ s2 o2 s3 (rw (e8, e7) at e4)
    ∙ stepped_then (answer_to l) (argon_plan sw h k.ar z b28 (pdm_t2 ‼ 3 ⊗ pdl_t1 ‼ 5) xmm) _ s3 ar s4 (rw (e8, e7) at e3)
    ∙ stepped_then (answer_to l) (hydrogen_plan sw h k.h z b28 (pdm_t2 ‼ 3 ⊗ pdl_t1 ‼ 5) xmm) _ s4 hy s5 (rw (e8, e7) at e2)
    ∙ stepped_then (answer_to l) (nitrogen_plan sw h k.n z b28 (pdm_t2 ‼ 3 ⊗ pdl_t1 ‼ 5) xmm) _ s5 n s6 (rw (e8, e7) at e1)
    ∙ stepped_done (answer_to l) _ s6

pub gts7_steps : (sw : List Float) (x : Site) (z : Float) (l : ExpansionValues) (s s1 s2 s3 s4 s5 : State) (u : Gts7Output) (o : Float) (k : Shape) (y : SixSpecies) (b : Blend) (m : Mixed) (h : Shape)
    → u ≡ gather_of (sw ‼ 0) h z b y o
    → s5 ≡ with_fields s4 (densu_sets h (sqrt_of (z ⊗ z)) (fields_of s4))
    → stepped (answer_to l) (anomalous_plan sw k z) s3 ≡ ends o s4
    → k ≡ anomalous_of h
    → stepped (answer_to l) (species_plan sw h m z b.b x.flux x.nine.xmm) s2 ≡ ends y s3
    → stepped (answer_to l) (n2_plan sw h m.n2 z x.zhf x.nine.xmm) s1 ≡ ends b s2
    → m ≡ mixed_at x.nine (sw ‼ 15) z
    → stepped (answer_to l) (shape_plan sw x z) s ≡ ends h s1
    → stepped (answer_to l) (gts7_plan sw x z) s ≡ ends u s5
unfolding gts7_plan
gts7_steps sw x z l s s1 s2 s3 s4 s5 u o k y b m h e0 e1 e2 e3 e4 e5 em e6 =
    stepped_then (answer_to l) (shape_plan sw x z) _ s h s1 e6
    ∙ stepped_then (answer_to l) (n2_plan sw h (mixed_at x.nine (sw ‼ 15) z).n2 z x.zhf x.nine.xmm) _ s1 b s2 (rw em at e5)
    ∙ stepped_then (answer_to l) (species_plan sw h (mixed_at x.nine (sw ‼ 15) z) z b.b x.flux x.nine.xmm) _ s2 y s3 (rw em at e4)
    ∙ stepped_then (answer_to l) (anomalous_plan sw (anomalous_of h) z) _ s3 o s4 (rw e3 at e2)
    ∙ stepped_keep (answer_to l) _ _ s4
    ∙ stepped_done (answer_to l) _ _
    ∙ ap₂ (λ (a : Gts7Output) (t : State). ends a t) (sym e0) (sym e1)

pub meso_step : (sw : List Float) (u : Gts7Output) (l : ExpansionValues) (s s1 s2 : State) (m : Meso)
    → s2 ≡ with_fields s1 (set_top3 (m.tn2 ‼ 3) (fields_of s1))
    → s1 ≡ with_fields s (set_tn2 m.tn2 m.tgn2 (fields_of s))
    → m ≡ told (answer_to l) (meso_plan sw u)
    → stepped (answer_to l) (meso_plan sw u) s ≡ ends m s2
meso_step sw u l s s1 s2 m e0 e1 e2 =
    step l (meso_plan sw u) s s2 m e2
    (e0
    ∙ ap (λ (c : State). with_fields c (set_top3 (m.tn2 ‼ 3) (fields_of c))) e1
    ∙ ap (λ (y : Meso). with_fields s (set_top3 (y.tn2 ‼ 3) (set_tn2 y.tn2 y.tgn2 (fields_of s)))) e2
    ∙ ap (with_fields s) (sym (meso_sets sw u l (fields_of s))))

module _ (sw : List Float) (alt : Float) (m : Meso) (l : ExpansionValues) (s : State) (w : lower.Nodes) (e : w ≡ told (answer_to l) (lower_plan sw alt m)) where
  pub lower_step_none : not (lt alt 32·5) ≡ true → stepped (answer_to l) (lower_plan sw alt m) s ≡ ends w s
  lower_step_none t = step l (lower_plan sw alt m) s s w e (ap (with_fields s) (sym (lower_sets_none sw alt m l (fields_of s) t)))

  pub lower_step : (s1 : State) → s1 ≡ with_fields s (set_tn3 w.tn3 w.tgn3 (fields_of s)) → not (lt alt 32·5) ≡ false → stepped (answer_to l) (lower_plan sw alt m) s ≡ ends w s1
  lower_step s1 f t =
      step l (lower_plan sw alt m) s s1 w e
      (f
      ∙ ap (λ (y : lower.Nodes). with_fields s (set_tn3 y.tn3 y.tgn3 (fields_of s))) e
      ∙ ap (with_fields s) (sym (lower_sets sw alt m l (fields_of s) t)))

-- one of two plans, by a test whose value is known
either_is : {A : Type 0} (g : Ask → Float) (b c : Bool) (m n : Plan A) (s : State) → b ≡ c → stepped g (either b m n) s ≡ stepped g (either c m n) s
either_is g b c m n s e = ap (λ (t : Bool). stepped g (either t m n) s) e

pub gtd7_steps_above : (sw : List Float) (x : Site) (alt : Float) (l : ExpansionValues) (s s1 s2 : State) (w : Gtd7Output) (u : Gts7Output) (altt : Float)
    → w ≡ gtd7_above u
    → stepped (answer_to l) (gts7_plan sw x altt) s1 ≡ ends u s2
    → altt ≡ cond (lt 72·5 alt) alt 72·5
    → s1 ≡ with_fields s (set_gravity x.gsurf x.re (fields_of s))
    → le 72·5 alt ≡ true
    → stepped (answer_to l) (gtd7_plan sw x alt) s ≡ ends w s2
unfolding gtd7_plan
gtd7_steps_above sw x alt l s s1 s2 w u altt e0 e1 e2 e3 t =
    stepped_keep (answer_to l) _ _ s
    ∙ stepped_then (answer_to l) (gts7_plan sw x (cond (lt 72·5 alt) alt 72·5)) _ _ u s2 (rw (e2, e3) at e1)
    ∙ either_is (answer_to l) (le 72·5 alt) true _ _ s2 t
    ∙ stepped_done (answer_to l) _ s2
    ∙ ap (λ (r : Gtd7Output). ends r s2) (sym e0)

pub gtd7_steps_below : (sw : List Float) (x : Site) (alt : Float) (l : ExpansionValues) (s s1 s2 s3 s4 s5 : State) (w : Gtd7Output) (n : lower.Nodes) (m : Meso) (u : Gts7Output) (altt : Float)
    → s5 ≡ with_fields s4 (set_dd w.dd (fields_of s4))
    → w ≡ gtd7_below (sw ‼ 0) x alt u n
    → stepped (answer_to l) (lower_plan sw alt m) s3 ≡ ends n s4
    → stepped (answer_to l) (meso_plan sw u) s2 ≡ ends m s3
    → stepped (answer_to l) (gts7_plan sw x altt) s1 ≡ ends u s2
    → altt ≡ cond (lt 72·5 alt) alt 72·5
    → s1 ≡ with_fields s (set_gravity x.gsurf x.re (fields_of s))
    → le 72·5 alt ≡ false
    → stepped (answer_to l) (gtd7_plan sw x alt) s ≡ ends w s5
unfolding gtd7_plan
gtd7_steps_below sw x alt l s s1 s2 s3 s4 s5 w n m u altt e0 e1 e2 e3 e4 e5 e6 t =
    stepped_keep (answer_to l) _ _ s
    ∙ stepped_then (answer_to l) (gts7_plan sw x (cond (lt 72·5 alt) alt 72·5)) _ _ u s2 (rw (e5, e6) at e4)
    ∙ either_is (answer_to l) (le 72·5 alt) false _ _ s2 t
    ∙ stepped_then (answer_to l) (meso_plan sw u) _ s2 m s3 e3
    ∙ stepped_then (answer_to l) (lower_plan sw alt m) _ s3 n s4 e2
    ∙ stepped_keep (answer_to l) _ _ s4
    ∙ stepped_done (answer_to l) _ _
    ∙ ap (λ (r : Gtd7Output). ends r (with_fields s4 (set_dd r.dd (fields_of s4)))) (sym e1)
    ∙ ap (λ (c : State). ends w c) (sym e0)

pub from_fresh : (v : View) (x : Site) (alt : Float) (w : Gtd7Output) (t s8 s7 s : State) (p8 p7 season : List Float) (l : ExpansionValues) (a b : Need)
    → stepped (answer_to l) (gtd7_plan v.sw x alt) s8 ≡ ends w t
    → s8 ≡ state_after v p8 s7
    → p8 ≡ pd_t8
    → s7 ≡ state_after v p7 s
    → p7 ≡ pd_t7
    → s ≡ fresh_of
    → l ≡ expansion_values_given v a season
    → season ≡ season_into v.doy a true (replicate 156 0·0)
    → a ≡ with_high b
    → b ≡ need_at alt
    → run v (gtd7_plan v.sw x alt) fresh_of ≡ ends w t
from_fresh v x alt w t s8 s7 s p8 p7 season l a b e0 e1 e2 e3 e4 e5 e6 e7 e8 e9 =
    let right = serves v.doy a a (longitude_on v) _ (λ k h. h) (λ k h. h) (seasoned v.doy a true (replicate 156 0·0) refl) in
    let values : l ≡ expansion_values_of v a = e6 ∙ ap (expansion_values_given v a) e7 ∙ in_season v a _ right in
    gtd7_left v x alt ∙ (rw (values, e8, e9, e1, e2, e3, e4, e5) at e0)
