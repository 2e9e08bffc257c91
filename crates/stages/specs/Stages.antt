-- gts7 in stages, as plans over the main effects sw, a Site and an altitude z, in the Rust's order.
use Rattle.std.specs.Prelude.{Bool, List, Float}
use Rattle.std.specs.Float.Ieee.{lt}
use Rattle.numbers.specs.Arithmetic.{◌⊗◌, ◌‼◌}
use Rattle.numbers.specs.Literals.{2·0, 72·5, 300·0}
use Rattle.elementary.specs.Pow.{pow_of}
use Rattle.elementary.specs.Root.{sqrt_of}
use Rattle.profile.specs.Profile.{tn1_of, tgn1_of}
use Rattle.profile.specs.declared.unchecked.Shape.{Shape}
use Rattle.mixing_limits.specs.Limits.{mixed_at}
use Rattle.mixing_limits.specs.declared.Mixed.{Mixed}
use Rattle.species.specs.declared.Blend.{Blend}
use Rattle.species.specs.declared.Mixture.{Mixture}
use Rattle.species.specs.Species.{nodes, helium_of, oxygen_of, o2_of, argon_of, hydrogen_of, nitrogen_of, anomalous_oxygen_of, n2_of}
use Rattle.plan.specs.Fields.{Fields, set_when, set_tn1, set_nodes1, set_dm04, set_dm16, set_dm28, set_dm32, set_dm40, set_dm01, set_dm14}
use Rattle.plan.specs.Plan.{Plan, done, ask, keep, get, either, ◌>>=◌, ◌>>◌, one_plus_globe7, exp_globe7, one_plus_glob7s, one_minus_glob7s}
use Rattle.tables.specs.Names.{PT, PS, PD0, PD1, PD2, PD3, PD4, PD5, PD6, PD7, PD8, PTL0, PTL1, PTL2, PTL3, PMA8}
use Rattle.tables.specs.Tables.{pt_t, ps_t, ptm_t, pd_t0, pd_t1, pd_t2, pd_t3, pd_t4, pd_t5, pd_t6, pd_t7, pd_t8, pdm_t0, pdm_t1, pdm_t2, pdm_t3, pdm_t4, pdm_t5, pdm_t6, pdm_t7, pdl_t0, pdl_t1, ptl_t0, ptl_t1, ptl_t2, ptl_t3, pma_t8}
use Rattle.gts7_arithmetic.specs.declared.ThermoSets.{ThermoSets}
use Rattle.gts7_arithmetic.specs.declared.Site.{Site}
use Rattle.gts7_arithmetic.specs.declared.Nodes.{Nodes}
use Rattle.gts7_arithmetic.specs.declared.SixSpecies.{SixSpecies}
use Rattle.gts7_arithmetic.specs.declared.Gts7Output.{Gts7Output}
use Rattle.gts7_arithmetic.specs.Gts7Arithmetic.{varied_of, mean_of, shape_of, anomalous_of, gather_of}

-- what a call of densu at z leaves in element 0 of meso_tn1 and meso_tgn1. The Rust works on copies of the two and puts them back at the end
-- of gts7; between, nothing else reads or sets them.
unfoldable pub densu_sets : Shape → Float → Fields → Fields
densu_sets h z f =
    set_tn1
    (tn1_of h.re z h.tinf h.tlb (ptm_t ‼ 5) h.s nodes f.meso_tn1)
    (tgn1_of h.re z h.tinf h.tlb (ptm_t ‼ 5) h.s nodes f.meso_tgn1)
    f

-- what a species that is mixed sets: densu at its turbopause zh, densu at z again, and by this its dm
abbrev pub mixed_sets : Shape → Float → Float → (Fields → Fields) → Fields → Fields
mixed_sets h z zh u f = u (densu_sets h z (densu_sets h zh f))

-- exospheric temperature; its variation counts above za
unfoldable pub tinf_plan : List Float → Float → Plan Float
tinf_plan sw z =
    either (lt (pdl_t1 ‼ 15) z)
    (do a ← get (one_plus_globe7 (sw ‼ 16) PT); done (ptm_t ‼ 0 ⊗ pt_t ‼ 0 ⊗ a))
    (done (ptm_t ‼ 0 ⊗ pt_t ‼ 0))

-- g0 of gts7, the gradient at the lower boundary; its variation counts above zn1[4]
unfoldable pub gradient_plan : List Float → Float → Plan Float
gradient_plan sw z =
    either (lt 72·5 z)
    (do a ← get (one_plus_globe7 (sw ‼ 19) PS); done (ptm_t ‼ 3 ⊗ ps_t ‼ 0 ⊗ a))
    (done (ptm_t ‼ 3 ⊗ ps_t ‼ 0))

-- tlb, the temperature at the lower boundary
unfoldable pub tlb_plan : List Float → Plan Float
tlb_plan sw = do a ← get (one_plus_globe7 (sw ‼ 17) PD3); done (ptm_t ‼ 1 ⊗ a ⊗ pd_t3 ‼ 0)

-- the first coefficients of PTL and PMA[8]
abbrev pub thermo_first : ThermoSets
thermo_first = record { ptl0 = ptl_t0 ‼ 0; ptl1 = ptl_t1 ‼ 0; ptl2 = ptl_t2 ‼ 0; ptl3 = ptl_t3 ‼ 0; pma8 = pma_t8 ‼ 0 }

-- meso_tn1 and meso_tgn1: below 300 km from five expansions, from there on from none
unfoldable pub nodes_plan : List Float → Float → Plan Nodes
nodes_plan sw z =
    either (lt z 300·0)
    (do
      ptl0 ← get (one_minus_glob7s (sw ‼ 18) PTL0)
      ptl1 ← get (one_minus_glob7s (sw ‼ 18) PTL1)
      ptl2 ← get (one_minus_glob7s (sw ‼ 18) PTL2)
      ptl3 ← get (one_minus_glob7s (sw ‼ 18 ⊗ sw ‼ 20) PTL3)
      pma8 ← get (one_plus_glob7s (sw ‼ 18 ⊗ sw ‼ 20) PMA8)
      let n = varied_of ptm_t thermo_first (pow_of (ptm_t ‼ 4 ⊗ ptl_t3 ‼ 0) 2·0) (record { ptl0 = ptl0; ptl1 = ptl1; ptl2 = ptl2; ptl3 = ptl3; pma8 = pma8 })
      set_nodes1 n.tn n.tgn
      done n)
    (do
      let n = mean_of ptm_t thermo_first (pow_of (ptm_t ‼ 4 ⊗ ptl_t3 ‼ 0) 2·0)
      set_nodes1 n.tn n.tgn
      done n)

-- what densu reads
unfoldable pub shape_plan : List Float → Site → Float → Plan Shape
shape_plan sw x z = do
  tinf ← tinf_plan sw z
  g ← gradient_plan sw z
  tlb ← tlb_plan sw
  n ← nodes_plan sw z
  done (shape_of x tinf tlb g n)

-- N2; on says whether it is mixed, and of the other species likewise; xmm is the mass of mixed air
unfoldable pub n2_plan : List Float → Shape → Bool → Float → Float → Float → Plan Blend
n2_plan sw h on z zhf xmm = do
  g ← get (exp_globe7 (sw ‼ 21) PD2)
  let b = n2_of h on z (pdm_t2 ‼ 0 ⊗ g ⊗ pd_t2 ‼ 0) zhf xmm
  densu_sets h z
  densu_sets h (pdm_t2 ‼ 2 ⊗ zhf)
  set_when on (λ f. set_dm28 b.dm (densu_sets h z f))
  done b

unfoldable pub helium_plan : List Float → Shape → Bool → Float → Float → Float → Float → Plan Mixture
helium_plan sw h on z b28 zhm xmm = do
  g ← get (exp_globe7 (sw ‼ 21) PD0)
  let x = helium_of h on z b28 (pdm_t0 ‼ 0 ⊗ g ⊗ pd_t0 ‼ 0) zhm xmm
  densu_sets h z
  set_when on (mixed_sets h z (pdm_t0 ‼ 2) (set_dm04 x.dm))
  done x

unfoldable pub oxygen_plan : List Float → Shape → Bool → Float → Float → Float → Float → Plan Mixture
oxygen_plan sw h on z zhm xmm flux = do
  g ← get (exp_globe7 (sw ‼ 21) PD1)
  let x = oxygen_of h on z (pdm_t1 ‼ 0 ⊗ g ⊗ pd_t1 ‼ 0) zhm xmm flux
  densu_sets h z
  set_when on (mixed_sets h z (pdm_t1 ‼ 2) (set_dm16 x.dm))
  done x

unfoldable pub o2_plan : List Float → Shape → Bool → Float → Float → Float → Float → Float → Plan Mixture
o2_plan sw h on z b28 zhm xmm flux = do
  g ← get (exp_globe7 (sw ‼ 21) PD4)
  let x = o2_of h (sw ‼ 15) on z b28 (pdm_t3 ‼ 0 ⊗ g ⊗ pd_t4 ‼ 0) zhm xmm flux
  densu_sets h z
  set_when on (mixed_sets h z (pdm_t3 ‼ 2) (set_dm32 x.dm))
  done x

unfoldable pub argon_plan : List Float → Shape → Bool → Float → Float → Float → Float → Plan Mixture
argon_plan sw h on z b28 zhm xmm = do
  g ← get (exp_globe7 (sw ‼ 21) PD5)
  let x = argon_of h on z b28 (pdm_t4 ‼ 0 ⊗ g ⊗ pd_t5 ‼ 0) zhm xmm
  densu_sets h z
  set_when on (mixed_sets h z (pdm_t4 ‼ 2) (set_dm40 x.dm))
  done x

unfoldable pub hydrogen_plan : List Float → Shape → Bool → Float → Float → Float → Float → Plan Mixture
hydrogen_plan sw h on z b28 zhm xmm = do
  g ← get (exp_globe7 (sw ‼ 21) PD6)
  let x = hydrogen_of h on z b28 (pdm_t5 ‼ 0 ⊗ g ⊗ pd_t6 ‼ 0) zhm xmm
  densu_sets h z
  set_when on (mixed_sets h z (pdm_t5 ‼ 2) (set_dm01 x.dm))
  done x

unfoldable pub nitrogen_plan : List Float → Shape → Bool → Float → Float → Float → Float → Plan Mixture
nitrogen_plan sw h on z b28 zhm xmm = do
  g ← get (exp_globe7 (sw ‼ 21) PD7)
  let x = nitrogen_of h on z b28 (pdm_t6 ‼ 0 ⊗ g ⊗ pd_t7 ‼ 0) zhm xmm
  densu_sets h z
  set_when on (mixed_sets h z (pdm_t6 ‼ 2) (set_dm14 x.dm))
  done x

-- anomalous oxygen: h has tho in the place of tinf and tlb
unfoldable pub anomalous_plan : List Float → Shape → Float → Plan Float
anomalous_plan sw h z = do
  g ← get (exp_globe7 (sw ‼ 21) PD8)
  densu_sets h z
  done (anomalous_oxygen_of h z (pdm_t7 ‼ 0 ⊗ g ⊗ pd_t8 ‼ 0) (pdm_t7 ‼ 5) (pdm_t7 ‼ 4) (pdm_t7 ‼ 9 ⊗ pdl_t0 ‼ 6))

-- the six species that blend with N2, whose mixed density at the turbopause is b28; m says which are mixed
unfoldable pub species_plan : List Float → Shape → Mixed → Float → Float → Float → Float → Plan SixSpecies
species_plan sw h m z b28 flux xmm = do
  let zhm = pdm_t2 ‼ 3 ⊗ pdl_t1 ‼ 5
  a ← helium_plan sw h m.he z b28 zhm xmm
  b ← oxygen_plan sw h m.o z zhm xmm flux
  c ← o2_plan sw h m.o2 z b28 zhm xmm flux
  d ← argon_plan sw h m.ar z b28 zhm xmm
  e ← hydrogen_plan sw h m.h z b28 zhm xmm
  f ← nitrogen_plan sw h m.n z b28 zhm xmm
  done (record { he = a; o = b; o2 = c; ar = d; h = e; n = f })

-- gts7
unfoldable pub gts7_plan : List Float → Site → Float → Plan Gts7Output
gts7_plan sw x z = do
  h ← shape_plan sw x z
  let m = mixed_at x.nine (sw ‼ 15) z
  b ← n2_plan sw h m.n2 z x.zhf x.nine.xmm
  y ← species_plan sw h m z b.b x.flux x.nine.xmm
  o ← anomalous_plan sw (anomalous_of h) z
  densu_sets h (sqrt_of (z ⊗ z))
  done (gather_of (sw ‼ 0) h z b y o)
