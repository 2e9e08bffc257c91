-- Plans of several stages, told their answers: from what each stage gives.
use mathlib.Core.Path.{◌≡◌, refl, sym, ap, ◌∙◌}
use mathlib.Core.Bool.{Bool, true, false}
use mathlib.Core.List.{List}
use lib.Ieee.{Float, lt}
use Rattle.numbers.specs.Arithmetic.{◌⊕◌, ◌⊖◌, ◌⊗◌, ◌‼◌}
use Rattle.numbers.specs.Literals.{1·0, 2·0, 300·0}
use Rattle.elementary.specs.Pow.{pow_of}
use Rattle.mixing_limits.specs.Limits.{mixed_at}
use Rattle.mixing_limits.specs.declared.Mixed.{Mixed}
use Rattle.profile.specs.declared.unchecked.Shape.{Shape}
use Rattle.places.specs.declared.place.Place.{Place}
use Rattle.places.specs.declared.thinning.Thinning.{Thinning}
use Rattle.species.specs.Places.{place_at, Turbopause, Mixes}
use Rattle.species.specs.declared.Blend.{Blend}
use Rattle.species.specs.declared.Mixture.{Mixture}
use Rattle.plan.specs.declared.ExpansionValues.{ExpansionValues}
use Rattle.plan.specs.Plan.{◌>>=◌, told, answer_to, then, last, told_keep}
use Rattle.tables.specs.Tables.{ptm_t, ptl_t0, ptl_t1, ptl_t2, ptl_t3, pma_t8, pdm_t1, pdm_t2, pdm_t3, pdm_t4, pdm_t6, pdl_t1}
use Rattle.gts7_arithmetic.specs.declared.Site.{Site}
use Rattle.gts7_arithmetic.specs.declared.Nodes.{Nodes}
use Rattle.gts7_arithmetic.specs.declared.SixSpecies.{SixSpecies}
use Rattle.gts7_arithmetic.specs.declared.Gts7Output.{Gts7Output}
use Rattle.gts7_arithmetic.specs.Gts7Arithmetic.{varied_of, mean_of, shape_of, anomalous_of, gather_of}
use Rattle.stages.specs.Stages.{tinf_plan, gradient_plan, tlb_plan, nodes_plan, shape_plan, n2_plan, helium_plan, oxygen_plan, o2_plan, argon_plan, hydrogen_plan, nitrogen_plan, anomalous_plan, species_plan, gts7_plan}

pub nodes_below : (sw : List Float) (z : Float) (l : ExpansionValues) (x : Nodes) (k : Float) (p8 p3 p2 p1 p0 m : List Float)
    → x ≡ varied_of m (record { ptl0 = p0 ‼ 0; ptl1 = p1 ‼ 0; ptl2 = p2 ‼ 0; ptl3 = p3 ‼ 0; pma8 = p8 ‼ 0 }) k
    (record { ptl0 = 1·0 ⊖ sw ‼ 18 ⊗ l.ptl0; ptl1 = 1·0 ⊖ sw ‼ 18 ⊗ l.ptl1; ptl2 = 1·0 ⊖ sw ‼ 18 ⊗ l.ptl2; ptl3 = 1·0 ⊖ sw ‼ 18 ⊗ sw ‼ 20 ⊗ l.ptl3; pma8 = 1·0 ⊕ sw ‼ 18 ⊗ sw ‼ 20 ⊗ l.pma8 })
    → k ≡ pow_of (m ‼ 4 ⊗ p3 ‼ 0) 2·0
    → p8 ≡ pma_t8
    → p3 ≡ ptl_t3
    → p2 ≡ ptl_t2
    → p1 ≡ ptl_t1
    → p0 ≡ ptl_t0
    → m ≡ ptm_t
    → lt z 300·0 ≡ true
    → x ≡ told (answer_to l) (nodes_plan sw z)
unfolding told nodes_plan ◌>>=◌
nodes_below sw z l x k p8 p3 p2 p1 p0 m e0 e1 e2 e3 e4 e5 e6 e7 e8 = simp (e0, e8, e1, e2, e3, e4, e5, e6, e7)

pub nodes_above : (sw : List Float) (z : Float) (l : ExpansionValues) (x : Nodes) (k : Float) (p8 p3 p2 p1 p0 m : List Float)
    → x ≡ mean_of m (record { ptl0 = p0 ‼ 0; ptl1 = p1 ‼ 0; ptl2 = p2 ‼ 0; ptl3 = p3 ‼ 0; pma8 = p8 ‼ 0 }) k
    → k ≡ pow_of (m ‼ 4 ⊗ p3 ‼ 0) 2·0
    → p8 ≡ pma_t8
    → p3 ≡ ptl_t3
    → p2 ≡ ptl_t2
    → p1 ≡ ptl_t1
    → p0 ≡ ptl_t0
    → m ≡ ptm_t
    → lt z 300·0 ≡ false
    → x ≡ told (answer_to l) (nodes_plan sw z)
unfolding told nodes_plan ◌>>=◌
nodes_above sw z l x k p8 p3 p2 p1 p0 m e0 e1 e2 e3 e4 e5 e6 e7 e8 = simp (e0, e8, e1, e2, e3, e4, e5, e6, e7)

pub shape_law : (sw : List Float) (x : Site) (z : Float) (l : ExpansionValues) (h : Shape) (n : Nodes) (tlb g tinf : Float)
    → h ≡ shape_of x tinf tlb g n
    → n ≡ told (answer_to l) (nodes_plan sw z)
    → tlb ≡ told (answer_to l) (tlb_plan sw)
    → g ≡ told (answer_to l) (gradient_plan sw z)
    → tinf ≡ told (answer_to l) (tinf_plan sw z)
    → h ≡ told (answer_to l) (shape_plan sw x z)
unfolding shape_plan
shape_law sw x z l h n tlb g tinf e0 e1 e2 e3 e4 =
    e0
    ∙ sym
    (then (answer_to l) (tinf_plan sw z) _ tinf e4
    ∙ then (answer_to l) (gradient_plan sw z) _ g e3
    ∙ then (answer_to l) (tlb_plan sw) _ tlb e2
    ∙ then (answer_to l) (nodes_plan sw z) _ n e1
    ∙ last (answer_to l) _)

pub species_law : (sw : List Float) (h : Shape) (k : Mixed) (z b28 flux xmm : Float) (l : ExpansionValues) (n hy ar o2 o he : Mixture) (d m : List Float)
    → n ≡ told (answer_to l) (nitrogen_plan sw h k.n z b28 (m ‼ 3 ⊗ d ‼ 5) xmm)
    → hy ≡ told (answer_to l) (hydrogen_plan sw h k.h z b28 (m ‼ 3 ⊗ d ‼ 5) xmm)
    → ar ≡ told (answer_to l) (argon_plan sw h k.ar z b28 (m ‼ 3 ⊗ d ‼ 5) xmm)
    → o2 ≡ told (answer_to l) (o2_plan sw h k.o2 z b28 (m ‼ 3 ⊗ d ‼ 5) xmm flux)
    → o ≡ told (answer_to l) (oxygen_plan sw h k.o z (m ‼ 3 ⊗ d ‼ 5) xmm flux)
    → he ≡ told (answer_to l) (helium_plan sw h k.he z b28 (m ‼ 3 ⊗ d ‼ 5) xmm)
    → d ≡ pdl_t1
    → m ≡ pdm_t2
    → ◌≡◌ {A = SixSpecies} (record { he = he; o = o; o2 = o2; ar = ar; h = hy; n = n }) (told (answer_to l) (species_plan sw h k z b28 flux xmm))
unfolding species_plan
species_law sw h k z b28 flux xmm l n hy ar o2 o he d m e1 e2 e3 e4 e5 e6 e7 e8 =
    sym
    (then (answer_to l) (helium_plan sw h k.he z b28 (pdm_t2 ‼ 3 ⊗ pdl_t1 ‼ 5) xmm) _ he (rw (e8, e7) at e6)
    ∙ then (answer_to l) (oxygen_plan sw h k.o z (pdm_t2 ‼ 3 ⊗ pdl_t1 ‼ 5) xmm flux) _ o (rw (e8, e7) at e5)
    ∙ then (answer_to l) (o2_plan sw h k.o2 z b28 (pdm_t2 ‼ 3 ⊗ pdl_t1 ‼ 5) xmm flux) _ o2 (rw (e8, e7) at e4)
    ∙ then (answer_to l) (argon_plan sw h k.ar z b28 (pdm_t2 ‼ 3 ⊗ pdl_t1 ‼ 5) xmm) _ ar (rw (e8, e7) at e3)
    ∙ then (answer_to l) (hydrogen_plan sw h k.h z b28 (pdm_t2 ‼ 3 ⊗ pdl_t1 ‼ 5) xmm) _ hy (rw (e8, e7) at e2)
    ∙ then (answer_to l) (nitrogen_plan sw h k.n z b28 (pdm_t2 ‼ 3 ⊗ pdl_t1 ‼ 5) xmm) _ n (rw (e8, e7) at e1)
    ∙ last (answer_to l) _)

-- what a stage asks where its species is mixed, from the shared places
pub stage_ready : (h : Shape) (z : Float) (p w : Place) (t : Thinning) (own on mix : Bool) (zh zh' xmm : Float)
    → (own ≡ true → on ≡ true)
    → (own ≡ true → mix ≡ true)
    → p ≡ place_at h z
    → Turbopause h on zh w
    → zh ≡ zh'
    → Mixes mix p xmm t
    → (p ≡ place_at h z) × Turbopause h own zh' w × Mixes own p xmm t
stage_ready h z p w t own on mix zh zh' xmm there some e f q g = (e, λ o. f (there o) ∙ ap (place_at h) q, λ o. g (some o))

pub o2_too : pdm_t1 ‼ 2 ≡ pdm_t3 ‼ 2
unfolding pdm_t1 pdm_t3
o2_too = refl

pub argon_too : pdm_t1 ‼ 2 ≡ pdm_t4 ‼ 2
unfolding pdm_t1 pdm_t4
argon_too = refl

pub nitrogen_too : pdm_t1 ‼ 2 ≡ pdm_t6 ‼ 2
unfolding pdm_t1 pdm_t6
nitrogen_too = refl

pub in_row : (h : Shape) (on : Bool) (w : Place) (m row : List Float) → Turbopause h on (m ‼ 2) w → m ≡ row → Turbopause h on (row ‼ 2) w
in_row h on w m row f e = λ o. f o ∙ ap (λ (x : List Float). place_at h (x ‼ 2)) e

pub gts7_law : (sw : List Float) (x : Site) (z : Float) (l : ExpansionValues) (u : Gts7Output) (o : Float) (k : Shape) (y : SixSpecies) (b : Blend) (m : Mixed) (h : Shape)
    → u ≡ gather_of (sw ‼ 0) h z b y o
    → o ≡ told (answer_to l) (anomalous_plan sw k z)
    → k ≡ anomalous_of h
    → y ≡ told (answer_to l) (species_plan sw h m z b.b x.flux x.nine.xmm)
    → b ≡ told (answer_to l) (n2_plan sw h m.n2 z x.zhf x.nine.xmm)
    → m ≡ mixed_at x.nine (sw ‼ 15) z
    → h ≡ told (answer_to l) (shape_plan sw x z)
    → u ≡ told (answer_to l) (gts7_plan sw x z)
unfolding gts7_plan
gts7_law sw x z l u o k y b m h e0 e1 e2 e3 e4 e5 e6 =
    e0
    ∙ sym
    (then (answer_to l) (shape_plan sw x z) _ h e6
    ∙ then (answer_to l) (n2_plan sw h (mixed_at x.nine (sw ‼ 15) z).n2 z x.zhf x.nine.xmm) _ b (rw e5 at e4)
    ∙ then (answer_to l) (species_plan sw h (mixed_at x.nine (sw ‼ 15) z) z b.b x.flux x.nine.xmm) _ y (rw e5 at e3)
    ∙ then (answer_to l) (anomalous_plan sw (anomalous_of h) z) _ o (rw e2 at e1)
    ∙ told_keep (answer_to l) _ _
    ∙ last (answer_to l) _)
