-- The plans of the lower nodes, told their answers, and the densities below 72.5 km: from the values of the calls.
use mathlib.Core.Path.{◌≡◌}
use mathlib.Core.Bool.{true, false, not}
use mathlib.Core.List.{List, [], ◌∷◌}
use lib.Ieee.{Float, lt}
use Rattle.numbers.specs.Arithmetic.{◌⊕◌, ◌⊖◌, ◌⊗◌, ◌⊘◌, ◌‼◌}
use Rattle.numbers.specs.Literals.{0·0, 1·0, 2·0, 32·5}
use Rattle.elementary.specs.Pow.{pow_of}
use Rattle.profile.specs.declared.unchecked.Profile.{Profile}
use Rattle.profile.specs.declared.unchecked.Shape.{Shape}
use Rattle.profile.specs.Profile.{returned_number, temperature_in}
use Rattle.plan.specs.declared.ExpansionValues.{ExpansionValues}
use Rattle.plan.specs.Plan.{◌>>=◌, told, answer_to}
use Rattle.tables.specs.Tables.{pavgm_t, pdm_t0, pdm_t3, pdm_t4, pma_t0, pma_t1, pma_t2, pma_t3, pma_t4, pma_t5, pma_t6, pma_t7, pma_t9}
use Rattle.gts7_arithmetic.specs.declared.Site.{Site}
use Rattle.gts7_arithmetic.specs.declared.Gts7Output.{Gts7Output}
use Rattle.gts7_arithmetic.specs.Gts7Arithmetic.{mass_of}
use Rattle.lower_atmosphere.specs.declared.Meso.{Meso}
use Rattle.lower_atmosphere.specs.declared.Nodes.{Nodes}
use Rattle.lower_atmosphere.specs.declared.Gtd7Output.{Gtd7Output}
use Rattle.mixing.specs.Mixing.{dmc_of}
use Rattle.lower_atmosphere.specs.LowerAtmosphere.{mesosphere_of, troposphere_of, unset_nodes, meso_nodes_plan, lower_plan, dm28m_of, lower_n2, lower_temperature, full_of, kilograms_of, gtd7_below}

pub meso_law : (sw : List Float) (h : Shape) (l : ExpansionValues) (x : Meso) (k : Float) (p9 p2 p1 p0 q : List Float)
    → x ≡ mesosphere_of h q (record { pma0 = p0 ‼ 0; pma1 = p1 ‼ 0; pma2 = p2 ‼ 0; pma9 = p9 ‼ 0 }) k
    (record { pma0 = 1·0 ⊖ sw ‼ 20 ⊗ l.pma0; pma1 = 1·0 ⊖ sw ‼ 20 ⊗ l.pma1; pma2 = 1·0 ⊖ sw ‼ 20 ⊗ sw ‼ 22 ⊗ l.pma2; pma9 = 1·0 ⊕ sw ‼ 20 ⊗ sw ‼ 22 ⊗ l.pma9 })
    → k ≡ pow_of (p2 ‼ 0 ⊗ q ‼ 2) 2·0
    → p9 ≡ pma_t9
    → p2 ≡ pma_t2
    → p1 ≡ pma_t1
    → p0 ≡ pma_t0
    → q ≡ pavgm_t
    → x ≡ told (answer_to l) (meso_nodes_plan sw h)
unfolding told meso_nodes_plan ◌>>=◌
meso_law sw h l x k p9 p2 p1 p0 q e0 e1 e2 e3 e4 e5 e6 = simp (e0, e1, e2, e3, e4, e5, e6)

pub lower_above : (sw : List Float) (alt : Float) (m : Meso) (l : ExpansionValues) (x : Nodes)
    → x ≡ unset_nodes m
    → not (lt alt 32·5) ≡ true
    → x ≡ told (answer_to l) (lower_plan sw alt m)
unfolding told lower_plan
lower_above sw alt m l x e0 e1 = simp (e0, e1)

pub lower_below : (sw : List Float) (alt : Float) (m : Meso) (l : ExpansionValues) (x : Nodes) (k : Float) (p7 p6 p5 p4 p3 q : List Float)
    → x ≡ troposphere_of m q (record { pma3 = p3 ‼ 0; pma4 = p4 ‼ 0; pma5 = p5 ‼ 0; pma6 = p6 ‼ 0; pma7 = p7 ‼ 0 }) k
    (record { pma3 = 1·0 ⊖ sw ‼ 22 ⊗ l.pma3; pma4 = 1·0 ⊖ sw ‼ 22 ⊗ l.pma4; pma5 = 1·0 ⊖ sw ‼ 22 ⊗ l.pma5; pma6 = 1·0 ⊖ sw ‼ 22 ⊗ l.pma6; pma7 = 1·0 ⊕ sw ‼ 22 ⊗ l.pma7 })
    → k ≡ pow_of (p6 ‼ 0 ⊗ q ‼ 6) 2·0
    → p7 ≡ pma_t7
    → p6 ≡ pma_t6
    → p5 ≡ pma_t5
    → p4 ≡ pma_t4
    → p3 ≡ pma_t3
    → q ≡ pavgm_t
    → not (lt alt 32·5) ≡ false
    → x ≡ told (answer_to l) (lower_plan sw alt m)
unfolding told lower_plan ◌>>=◌
lower_below sw alt m l x k p7 p6 p5 p4 p3 q e0 e1 e2 e3 e4 e5 e6 e7 e8 = simp (e0, e8, e1, e2, e3, e4, e5, e6, e7)

pub below_law : (sw0 : Float) (x : Site) (alt : Float) (u : Gts7Output) (w : Nodes)
    (t1 dd : Float) (b : Profile) (tz all g ar o2 he n : Float) (a : Profile) (d c : Float) (m4 m3 m0 : List Float)
    → t1 ≡ temperature_in b
    → dd ≡ returned_number b
    → b ≡ lower_temperature x alt tz w
    → tz ≡ temperature_in a
    → all ≡ kilograms_of sw0 g
    → g ≡ mass_of he 0·0 (n ⊗ (1·0 ⊕ (u.d ‼ 2 ⊘ d ⊖ 1·0) ⊗ c)) o2 ar 0·0 0·0
    → ar ≡ full_of (n ⊗ (1·0 ⊕ (u.d ‼ 2 ⊘ d ⊖ 1·0) ⊗ c)) (m4 ‼ 1) (u.d ‼ 4) (u.d ‼ 2) c
    → o2 ≡ full_of (n ⊗ (1·0 ⊕ (u.d ‼ 2 ⊘ d ⊖ 1·0) ⊗ c)) (m3 ‼ 1) (u.d ‼ 3) (u.d ‼ 2) c
    → he ≡ full_of (n ⊗ (1·0 ⊕ (u.d ‼ 2 ⊘ d ⊖ 1·0) ⊗ c)) (m0 ‼ 1) (u.d ‼ 0) (u.d ‼ 2) c
    → n ≡ returned_number a
    → a ≡ lower_n2 x alt d w
    → d ≡ dm28m_of sw0 u.base.dm
    → c ≡ dmc_of alt
    → m4 ≡ pdm_t4
    → m3 ≡ pdm_t3
    → m0 ≡ pdm_t0
    → ◌≡◌ {A = Gtd7Output}
    (record {
      row = he ∷ 0·0 ∷ (n ⊗ (1·0 ⊕ (u.d ‼ 2 ⊘ d ⊖ 1·0) ⊗ c)) ∷ o2 ∷ ar ∷ all ∷ 0·0 ∷ 0·0 ∷ 0·0 ∷ u.shape.tinf ∷ t1 ∷ [];
      dd = dd;
    })
    (gtd7_below sw0 x alt u w)
unfolding gtd7_below
below_law sw0 x alt u w t1 dd b tz all g ar o2 he n a d c m4 m3 m0 e0 e1 e2 e3 e4 e5 e6 e7 e8 e9 e10 e11 e12 e13 e14 e15 =
    simp (e0, e1, e2, e3, e4, e5, e6, e7, e8, e9, e10, e11, e12, e13, e14, e15)
