-- dm28 and the mark beside it after gts7 and gtd7: N2's step sets both where N2 is mixed, and no other step touches either.
use Rattle.std.proofs.Common.{◌∙◌}
use Rattle.std.specs.Prelude.{Bool, false, cond, not, List, Float}
use Rattle.std.specs.Float.Ieee.{lt, le}
use Rattle.numbers.specs.Arithmetic.{◌⊗◌, ◌‼◌}
use Rattle.numbers.specs.Literals.{32·5, 72·5, 300·0}
use Rattle.profile.specs.declared.unchecked.Shape.{Shape}
use Rattle.mixing_limits.specs.Limits.{mixed_at}
use Rattle.mixing_limits.specs.declared.Mixed.{Mixed}
use Rattle.species.specs.Species.{helium_of, oxygen_of, o2_of, argon_of, hydrogen_of, nitrogen_of}
use Rattle.plan.specs.Fields.{Fields, set_when, set_dm04, set_dm16, set_dm32, set_dm40, set_dm01, set_dm14}
use Rattle.plan.specs.Plan.{done, ask, keep, ◌>>=◌}
use Rattle.plan.specs.Mark.{Leaves, dm28_marks, gravity_leaves, dd_leaves, dm04_leaves, dm16_leaves, dm32_leaves, dm40_leaves, dm01_leaves, dm14_leaves, tn1_leaves, tn2_leaves, tn3_leaves, nodes1_leaves, top3_leaves, when_leaves, Marks, Unmarking, done_leaves, ask_marks, keep_marks, when_marks, either_leaves, then_leaves, then_marks}
use Rattle.tables.specs.Tables.{pd_t0, pd_t1, pd_t4, pd_t5, pd_t6, pd_t7, pdm_t0, pdm_t1, pdm_t3, pdm_t4, pdm_t5, pdm_t6, pdl_t1}
use Rattle.gts7_arithmetic.specs.declared.Site.{Site}
use Rattle.gts7_arithmetic.specs.declared.Gts7Output.{Gts7Output}
use Rattle.stages.specs.Stages.{densu_sets, mixed_sets, tinf_plan, gradient_plan, tlb_plan, nodes_plan, shape_plan, n2_plan, helium_plan, oxygen_plan, o2_plan, argon_plan, hydrogen_plan, nitrogen_plan, anomalous_plan, species_plan, gts7_plan}
use Rattle.lower_atmosphere.specs.declared.Meso.{Meso}
use Rattle.lower_atmosphere.specs.LowerAtmosphere.{meso_nodes_plan, meso_plan, lower_plan}
use Rattle.atmosphere.specs.Atmosphere.{gtd7_plan}

densu_leaves : (h : Shape) (z : Float) → Leaves (densu_sets h z)
unfolding densu_sets
densu_leaves h z f = tn1_leaves _ _ f

mixed_leaves : (h : Shape) (z zh : Float) (u : Fields → Fields) → Leaves u → Leaves (mixed_sets h z zh u)
mixed_leaves h z zh u i f = i (densu_sets h z (densu_sets h zh f)) ∙ densu_leaves h z (densu_sets h zh f) ∙ densu_leaves h zh f

-- a species: densu's, and its dm by u where b holds
species_leaves : {A : Type 0} (b : Bool) (h : Shape) (z zh : Float) (u : Fields → Fields) → Leaves u → (a : A)
    → Unmarking (keep (densu_sets h z) (keep (set_when b (mixed_sets h z zh u)) (done a)))
species_leaves b h z zh u i a =
    keep_marks false (densu_sets h z) (keep (set_when b (mixed_sets h z zh u)) (done a)) (densu_leaves h z)
    (keep_marks false (set_when b (mixed_sets h z zh u)) (done a) (when_leaves b (mixed_sets h z zh u) (mixed_leaves h z zh u i)) (done_leaves a))

-- ---- gts7

tinf_leaves : (sw : List Float) (z : Float) → Unmarking (tinf_plan sw z)
unfolding tinf_plan ◌>>=◌
tinf_leaves sw z = either_leaves (lt (pdl_t1 ‼ 15) z) _ _ (ask_marks false _ _ (λ a. done_leaves _)) (done_leaves _)

gradient_leaves : (sw : List Float) (z : Float) → Unmarking (gradient_plan sw z)
unfolding gradient_plan ◌>>=◌
gradient_leaves sw z = either_leaves (lt 72·5 z) _ _ (ask_marks false _ _ (λ a. done_leaves _)) (done_leaves _)

tlb_leaves : (sw : List Float) → Unmarking (tlb_plan sw)
unfolding tlb_plan ◌>>=◌
tlb_leaves sw = ask_marks false _ _ (λ a. done_leaves _)

nodes_leaves : (sw : List Float) (z : Float) → Unmarking (nodes_plan sw z)
unfolding nodes_plan ◌>>=◌
nodes_leaves sw z =
    either_leaves (lt z 300·0) _ _
    (ask_marks false _ _ (λ a. ask_marks false _ _ (λ b. ask_marks false _ _ (λ c. ask_marks false _ _ (λ e. ask_marks false _ _ (λ g. keep_marks false _ _ (nodes1_leaves _ _) (done_leaves _)))))))
    (keep_marks false _ _ (nodes1_leaves _ _) (done_leaves _))

shape_leaves : (sw : List Float) (x : Site) (z : Float) → Unmarking (shape_plan sw x z)
unfolding shape_plan
shape_leaves sw x z =
    then_leaves false (tinf_plan sw z) _ (tinf_leaves sw z)
    (λ t. then_leaves false (gradient_plan sw z) _ (gradient_leaves sw z)
    (λ g. then_leaves false (tlb_plan sw) _ (tlb_leaves sw)
    (λ b. then_leaves false (nodes_plan sw z) _ (nodes_leaves sw z)
    (λ n. done_leaves _))))

n2_marks : (sw : List Float) (h : Shape) (b : Bool) (z zhf xmm : Float) → Marks b (n2_plan sw h b z zhf xmm)
unfolding n2_plan ◌>>=◌
n2_marks sw h b z zhf xmm =
    ask_marks b _ _
    (λ g. keep_marks b _ _ (densu_leaves h z)
    (keep_marks b _ _ (densu_leaves h _)
    (when_marks b _ _ (λ f. (dm28_marks _ _).0) (done_leaves _))))

helium_leaves : (sw : List Float) (h : Shape) (on : Bool) (z b28 zhm xmm : Float) → Unmarking (helium_plan sw h on z b28 zhm xmm)
unfolding helium_plan ◌>>=◌
helium_leaves sw h on z b28 zhm xmm =
    ask_marks false _ _ (λ g. let x = helium_of h on z b28 (pdm_t0 ‼ 0 ⊗ g ⊗ pd_t0 ‼ 0) zhm xmm in species_leaves on h z (pdm_t0 ‼ 2) (set_dm04 x.dm) (dm04_leaves x.dm) x)

oxygen_leaves : (sw : List Float) (h : Shape) (on : Bool) (z zhm xmm flux : Float) → Unmarking (oxygen_plan sw h on z zhm xmm flux)
unfolding oxygen_plan ◌>>=◌
oxygen_leaves sw h on z zhm xmm flux =
    ask_marks false _ _ (λ g. let x = oxygen_of h on z (pdm_t1 ‼ 0 ⊗ g ⊗ pd_t1 ‼ 0) zhm xmm flux in species_leaves on h z (pdm_t1 ‼ 2) (set_dm16 x.dm) (dm16_leaves x.dm) x)

o2_leaves : (sw : List Float) (h : Shape) (on : Bool) (z b28 zhm xmm flux : Float) → Unmarking (o2_plan sw h on z b28 zhm xmm flux)
unfolding o2_plan ◌>>=◌
o2_leaves sw h on z b28 zhm xmm flux =
    ask_marks false _ _ (λ g. let x = o2_of h (sw ‼ 15) on z b28 (pdm_t3 ‼ 0 ⊗ g ⊗ pd_t4 ‼ 0) zhm xmm flux in species_leaves on h z (pdm_t3 ‼ 2) (set_dm32 x.dm) (dm32_leaves x.dm) x)

argon_leaves : (sw : List Float) (h : Shape) (on : Bool) (z b28 zhm xmm : Float) → Unmarking (argon_plan sw h on z b28 zhm xmm)
unfolding argon_plan ◌>>=◌
argon_leaves sw h on z b28 zhm xmm =
    ask_marks false _ _ (λ g. let x = argon_of h on z b28 (pdm_t4 ‼ 0 ⊗ g ⊗ pd_t5 ‼ 0) zhm xmm in species_leaves on h z (pdm_t4 ‼ 2) (set_dm40 x.dm) (dm40_leaves x.dm) x)

hydrogen_leaves : (sw : List Float) (h : Shape) (on : Bool) (z b28 zhm xmm : Float) → Unmarking (hydrogen_plan sw h on z b28 zhm xmm)
unfolding hydrogen_plan ◌>>=◌
hydrogen_leaves sw h on z b28 zhm xmm =
    ask_marks false _ _ (λ g. let x = hydrogen_of h on z b28 (pdm_t5 ‼ 0 ⊗ g ⊗ pd_t6 ‼ 0) zhm xmm in species_leaves on h z (pdm_t5 ‼ 2) (set_dm01 x.dm) (dm01_leaves x.dm) x)

nitrogen_leaves : (sw : List Float) (h : Shape) (on : Bool) (z b28 zhm xmm : Float) → Unmarking (nitrogen_plan sw h on z b28 zhm xmm)
unfolding nitrogen_plan ◌>>=◌
nitrogen_leaves sw h on z b28 zhm xmm =
    ask_marks false _ _ (λ g. let x = nitrogen_of h on z b28 (pdm_t6 ‼ 0 ⊗ g ⊗ pd_t7 ‼ 0) zhm xmm in species_leaves on h z (pdm_t6 ‼ 2) (set_dm14 x.dm) (dm14_leaves x.dm) x)

anomalous_leaves : (sw : List Float) (h : Shape) (z : Float) → Unmarking (anomalous_plan sw h z)
unfolding anomalous_plan ◌>>=◌
anomalous_leaves sw h z = ask_marks false _ _ (λ g. keep_marks false _ _ (densu_leaves h z) (done_leaves _))

six_leaves : (sw : List Float) (h : Shape) (m : Mixed) (z b28 flux xmm : Float) → Unmarking (species_plan sw h m z b28 flux xmm)
unfolding species_plan
six_leaves sw h m z b28 flux xmm =
    then_leaves false (helium_plan sw h m.he z b28 _ _) _ (helium_leaves sw h m.he z b28 _ _)
    (λ a. then_leaves false (oxygen_plan sw h m.o z _ _ flux) _ (oxygen_leaves sw h m.o z _ _ flux)
    (λ b. then_leaves false (o2_plan sw h m.o2 z b28 _ _ flux) _ (o2_leaves sw h m.o2 z b28 _ _ flux)
    (λ c. then_leaves false (argon_plan sw h m.ar z b28 _ _) _ (argon_leaves sw h m.ar z b28 _ _)
    (λ d. then_leaves false (hydrogen_plan sw h m.h z b28 _ _) _ (hydrogen_leaves sw h m.h z b28 _ _)
    (λ e. then_leaves false (nitrogen_plan sw h m.n z b28 _ _) _ (nitrogen_leaves sw h m.n z b28 _ _)
    (λ f. done_leaves _))))))

-- gts7 sets the mark exactly where N2 is mixed
pub gts7_marks : (sw : List Float) (x : Site) (z : Float) → Marks (mixed_at x.nine (sw ‼ 15) z).n2 (gts7_plan sw x z)
unfolding gts7_plan
gts7_marks sw x z =
    let k = mixed_at x.nine (sw ‼ 15) z in
    then_marks k.n2 (shape_plan sw x z) _ (shape_leaves sw x z)
    (λ h. then_leaves k.n2 (n2_plan sw h k.n2 z x.zhf x.nine.xmm) _ (n2_marks sw h k.n2 z x.zhf x.nine.xmm)
    (λ b. then_leaves false (species_plan sw h k z _ x.flux x.nine.xmm) _ (six_leaves sw h k z _ x.flux x.nine.xmm)
    (λ y. then_leaves false (anomalous_plan sw _ z) _ (anomalous_leaves sw _ z)
    (λ o. keep_marks false _ _ (densu_leaves h _) (done_leaves _)))))

-- ---- gtd7

meso_leaves : (sw : List Float) (u : Gts7Output) → Unmarking (meso_plan sw u)
unfolding meso_plan meso_nodes_plan ◌>>=◌
meso_leaves sw u =
    ask_marks false _ _
    (λ a. ask_marks false _ _
    (λ b. ask_marks false _ _
    (λ c. ask_marks false _ _
    (λ e. keep_marks false _ _ (tn2_leaves _ _) (keep_marks false _ _ (top3_leaves _) (done_leaves _))))))

lower_leaves : (sw : List Float) (alt : Float) (m : Meso) → Unmarking (lower_plan sw alt m)
unfolding lower_plan ◌>>=◌
lower_leaves sw alt m =
    either_leaves (not (lt alt 32·5)) _ _ (done_leaves _)
    (ask_marks false _ _ (λ a. ask_marks false _ _ (λ b. ask_marks false _ _ (λ c. ask_marks false _ _ (λ e. ask_marks false _ _ (λ g. keep_marks false _ _ (tn3_leaves _ _) (done_leaves _)))))))

-- gtd7 sets the mark exactly where N2 is mixed at gts7's altitude, which is 72.5 km or above
pub gtd7_marks : (sw : List Float) (x : Site) (alt : Float) → Marks (mixed_at x.nine (sw ‼ 15) (cond (lt 72·5 alt) alt 72·5)).n2 (gtd7_plan sw x alt)
unfolding gtd7_plan
gtd7_marks sw x alt =
    let z = cond (lt 72·5 alt) alt 72·5 in
    let m = (mixed_at x.nine (sw ‼ 15) z).n2 in
    keep_marks m _ _ (gravity_leaves _ _)
    (then_leaves m (gts7_plan sw x z) _ (gts7_marks sw x z)
    (λ u. either_leaves (le 72·5 alt) _ _ (done_leaves _)
    (then_leaves false (meso_plan sw u) _ (meso_leaves sw u)
    (λ k. then_leaves false (lower_plan sw alt k) _ (lower_leaves sw alt k)
    (λ w. keep_marks false _ _ (dd_leaves _) (done_leaves _))))))
