-- gtd7 below 72.5 km, as the Rust writes it.
use Rattle.std.specs.Prelude.{cond, not, List, [], ◌∷◌, Float}
use Rattle.std.specs.Float.Ieee.{lt, ne}
use Rattle.numbers.specs.Arithmetic.{◌⊕◌, ◌⊖◌, ◌⊗◌, ◌⊘◌, ◌‼◌}
use Rattle.numbers.specs.Literals.{0·0, 1·0, 2·0, 10·0, 15·0, 20·0, 32·5, 45·0, 55·0, 72·5, 1000·0, 1·0E6}
use Rattle.elementary.specs.Pow.{pow_of}
use Rattle.mixing.specs.Mixing.{dmc_of}
use Rattle.profile.specs.declared.unchecked.Profile.{Profile}
use Rattle.profile.specs.declared.unchecked.Shape.{Shape}
use Rattle.profile.specs.Profile.{densm_of, returned_number, temperature_in}
use Rattle.plan.specs.Fields.{set_tn2, set_tn3, set_top3}
use Rattle.plan.specs.Plan.{Plan, done, ask, keep, get, either, ◌>>=◌, ◌>>◌, one_plus_glob7s, one_minus_glob7s}
use Rattle.tables.specs.Names.{PMA0, PMA1, PMA2, PMA3, PMA4, PMA5, PMA6, PMA7, PMA9}
use Rattle.tables.specs.Tables.{pavgm_t, pdm_t0, pdm_t3, pdm_t4, pma_t0, pma_t1, pma_t2, pma_t3, pma_t4, pma_t5, pma_t6, pma_t7, pma_t9}
use Rattle.gts7_arithmetic.specs.declared.Site.{Site}
use Rattle.gts7_arithmetic.specs.declared.Gts7Output.{Gts7Output}
use Rattle.gts7_arithmetic.specs.Gts7Arithmetic.{mass_of}
use Rattle.lower_atmosphere.specs.declared.Meso.{Meso}
use Rattle.lower_atmosphere.specs.declared.Nodes.{Nodes}
use Rattle.lower_atmosphere.specs.declared.Gtd7Output.{Gtd7Output}
use Rattle.lower_atmosphere.specs.declared.MesoSets.{MesoSets}
use Rattle.lower_atmosphere.specs.declared.TropoSets.{TropoSets}

-- meso_tn2 and meso_tgn2: q is PAVGM, p the sets' first coefficients, k the last denominator, a the sets' answers
unfoldable pub mesosphere_of : Shape → List Float → MesoSets → Float → MesoSets → Meso
mesosphere_of h q p k a =
    let t3 = p.pma2 ⊗ q ‼ 2 ⊘ a.pma2 in
    record {
      tn2 = (h.tn ‼ 4) ∷ (p.pma0 ⊗ q ‼ 0 ⊘ a.pma0) ∷ (p.pma1 ⊗ q ‼ 1 ⊘ a.pma1) ∷ t3 ∷ [];
      tgn2 = (h.tgn ‼ 1) ∷ (q ‼ 8 ⊗ p.pma9 ⊗ a.pma9 ⊗ t3 ⊗ t3 ⊘ k) ∷ [];
    }

-- meso_tn3 and meso_tgn3 below 32.5 km
unfoldable pub troposphere_of : Meso → List Float → TropoSets → Float → TropoSets → Nodes
troposphere_of m q p k a =
    let t4 = p.pma6 ⊗ q ‼ 6 ⊘ a.pma6 in
    record {
      tn2 = m.tn2;
      tgn2 = m.tgn2;
      tn3 = (m.tn2 ‼ 3) ∷ (p.pma3 ⊗ q ‼ 3 ⊘ a.pma3) ∷ (p.pma4 ⊗ q ‼ 4 ⊘ a.pma4) ∷ (p.pma5 ⊗ q ‼ 5 ⊘ a.pma5) ∷ t4 ∷ [];
      tgn3 = (m.tgn2 ‼ 1) ∷ (p.pma7 ⊗ q ‼ 7 ⊗ a.pma7 ⊗ t4 ⊗ t4 ⊘ k) ∷ [];
    }

-- the same at or above 32.5 km: what a fresh State has, but for the first
unfoldable pub unset_nodes : Meso → Nodes
unset_nodes m =
    record { tn2 = m.tn2; tgn2 = m.tgn2; tn3 = (m.tn2 ‼ 3) ∷ 0·0 ∷ 0·0 ∷ 0·0 ∷ 0·0 ∷ []; tgn3 = 0·0 ∷ 0·0 ∷ [] }

-- the first coefficients of PMA[0], PMA[1], PMA[2], PMA[9], and of PMA[3] to PMA[7]
abbrev pub meso_first : MesoSets
meso_first = record { pma0 = pma_t0 ‼ 0; pma1 = pma_t1 ‼ 0; pma2 = pma_t2 ‼ 0; pma9 = pma_t9 ‼ 0 }

abbrev pub tropo_first : TropoSets
tropo_first = record { pma3 = pma_t3 ‼ 0; pma4 = pma_t4 ‼ 0; pma5 = pma_t5 ‼ 0; pma6 = pma_t6 ‼ 0; pma7 = pma_t7 ‼ 0 }

-- the questions from 72.5 km down, over the shape of the profile above
unfoldable pub meso_nodes_plan : List Float → Shape → Plan Meso
meso_nodes_plan sw h = do
  pma0 ← get (one_minus_glob7s (sw ‼ 20) PMA0)
  pma1 ← get (one_minus_glob7s (sw ‼ 20) PMA1)
  pma2 ← get (one_minus_glob7s (sw ‼ 20 ⊗ sw ‼ 22) PMA2)
  pma9 ← get (one_plus_glob7s (sw ‼ 20 ⊗ sw ‼ 22) PMA9)
  let m = mesosphere_of h pavgm_t meso_first (pow_of (pma_t2 ‼ 0 ⊗ pavgm_t ‼ 2) 2·0) (record { pma0 = pma0; pma1 = pma1; pma2 = pma2; pma9 = pma9 })
  set_tn2 m.tn2 m.tgn2
  set_top3 (m.tn2 ‼ 3)
  done m

unfoldable pub meso_plan : List Float → Gts7Output → Plan Meso
meso_plan sw u = meso_nodes_plan sw u.shape

-- the questions from 32.5 km down
unfoldable pub lower_plan : List Float → Float → Meso → Plan Nodes
lower_plan sw alt m =
    either (not (lt alt 32·5))
    (done (unset_nodes m))
    (do
      pma3 ← get (one_minus_glob7s (sw ‼ 22) PMA3)
      pma4 ← get (one_minus_glob7s (sw ‼ 22) PMA4)
      pma5 ← get (one_minus_glob7s (sw ‼ 22) PMA5)
      pma6 ← get (one_minus_glob7s (sw ‼ 22) PMA6)
      pma7 ← get (one_plus_glob7s (sw ‼ 22) PMA7)
      let w = troposphere_of m pavgm_t tropo_first (pow_of (pma_t6 ‼ 0 ⊗ pavgm_t ‼ 6) 2·0) (record { pma3 = pma3; pma4 = pma4; pma5 = pma5; pma6 = pma6; pma7 = pma7 })
      set_tn3 w.tn3 w.tgn3
      done w)

-- dm28m
unfoldable pub dm28m_of : Float → Float → Float
dm28m_of sw0 dm28 = cond (ne sw0 0·0) (dm28 ⊗ 1·0E6) dm28

-- zn2 and zn3
abbrev pub zn2 : List Float
zn2 = 72·5 ∷ 55·0 ∷ 45·0 ∷ 32·5 ∷ []

abbrev pub zn3 : List Float
zn3 = 32·5 ∷ 20·0 ∷ 15·0 ∷ 10·0 ∷ 0·0 ∷ []

-- densm for N2
unfoldable pub lower_n2 : Site → Float → Float → Nodes → Profile
lower_n2 x alt d w = densm_of x.nine.rgas x.gsurf x.re alt d x.nine.xmm 0·0 5 zn3 w.tn3 w.tgn3 4 zn2 w.tn2 w.tgn2

-- densm for the temperature
unfoldable pub lower_temperature : Site → Float → Float → Nodes → Profile
lower_temperature x alt tz w = densm_of x.nine.rgas x.gsurf x.re alt 1·0 0·0 tz 5 zn3 w.tn3 w.tgn3 4 zn2 w.tn2 w.tgn2

-- helium, O2 or argon: its share k of N2, its density y at 72.5 km over N2's there
unfoldable pub full_of : Float → Float → Float → Float → Float → Float
full_of d2 k y dz28 c =
    let dmr = y ⊘ (dz28 ⊗ k) ⊖ 1·0 in
    d2 ⊗ k ⊗ (1·0 ⊕ dmr ⊗ c)

unfoldable pub kilograms_of : Float → Float → Float
kilograms_of sw0 all = cond (ne sw0 0·0) (all ⊘ 1000·0) all

-- below 72.5 km
unfoldable pub gtd7_below : Float → Site → Float → Gts7Output → Nodes → Gtd7Output
gtd7_below sw0 x alt u w =
    let c = dmc_of alt in
    let d = dm28m_of sw0 u.base.dm in
    let a = lower_n2 x alt d w in
    let d2 = returned_number a ⊗ (1·0 ⊕ (u.d ‼ 2 ⊘ d ⊖ 1·0) ⊗ c) in
    let he = full_of d2 (pdm_t0 ‼ 1) (u.d ‼ 0) (u.d ‼ 2) c in
    let o2 = full_of d2 (pdm_t3 ‼ 1) (u.d ‼ 3) (u.d ‼ 2) c in
    let ar = full_of d2 (pdm_t4 ‼ 1) (u.d ‼ 4) (u.d ‼ 2) c in
    let all = kilograms_of sw0 (mass_of he 0·0 d2 o2 ar 0·0 0·0) in
    let b = lower_temperature x alt (temperature_in a) w in
    record {
      row = he ∷ 0·0 ∷ d2 ∷ o2 ∷ ar ∷ all ∷ 0·0 ∷ 0·0 ∷ 0·0 ∷ u.shape.tinf ∷ temperature_in b ∷ [];
      dd = returned_number b;
    }

-- at or above 72.5 km: gts7's numbers
unfoldable pub gtd7_above : Gts7Output → Gtd7Output
gtd7_above u =
    let d = u.d in
    record {
      row = (d ‼ 0) ∷ (d ‼ 1) ∷ (d ‼ 2) ∷ (d ‼ 3) ∷ (d ‼ 4) ∷ (d ‼ 5) ∷ (d ‼ 6) ∷ (d ‼ 7) ∷ (d ‼ 8) ∷ u.shape.tinf ∷ u.t1 ∷ [];
      dd = 0·0;
    }
