-- The arithmetic of gts7 around its expansions and species, as the Rust writes it.
use Rattle.std.specs.Prelude.{◌≡◌, false, cond, not, List, [], ◌∷◌, Float}
use Rattle.std.specs.Float.Ieee.{eq, ne}
use Rattle.numbers.specs.Arithmetic.{◌⊕◌, ◌⊖◌, ◌⊗◌, ◌⊘◌, ◌‼◌}
use Rattle.numbers.specs.Literals.{0·0, 1·0, 1·66E-24, 4·0, 14·0, 16·0, 28·0, 32·0, 40·0, 45·0, 150·0, 1000·0, 1·0E6}
use Rattle.numbers.specs.Constants.{dgtr, dr}
use Rattle.parameters.specs.Parameters.{present_of}
use Rattle.parameters.specs.declared.Parameters.{Parameters}
use Rattle.elementary.specs.Trig.{sin_of, cos_of}
use Rattle.elementary.specs.Root.{sqrt_of}
use Rattle.profile.specs.Gravity.{glatf_of}
use Rattle.profile.specs.declared.unchecked.Shape.{Shape}
use Rattle.species.specs.Species.{temperature_of}
use Rattle.species.specs.declared.Blend.{Blend}
use Rattle.tables.specs.Tables.{pt_t, pdl_t0, pdl_t1, pdm_t7}
use Rattle.gts7_arithmetic.specs.declared.Site.{Site}
use Rattle.gts7_arithmetic.specs.declared.Nodes.{Nodes}
use Rattle.gts7_arithmetic.specs.declared.ThermoSets.{ThermoSets}
use Rattle.gts7_arithmetic.specs.declared.SixSpecies.{SixSpecies}
use Rattle.gts7_arithmetic.specs.declared.Gts7Output.{Gts7Output}

-- what gts7 and gtd7 read besides the altitude: glatf at xlat, zhf, the factor of the flux in O and O2, and the nine constants
unfoldable pub site_from : Parameters → List Float → Float → Float → Float → Float → Site
site_from c sw lat slat cos_pt f107a =
    let g = glatf_of (cond (eq (sw ‼ 2) 0·0) 45·0 lat) in
    record {
      gsurf = g.gsurf;
      re = g.re;
      zhf = pdl_t1 ‼ 24 ⊗ (1·0 ⊕ sw ‼ 5 ⊗ pdl_t0 ‼ 24 ⊗ slat ⊗ cos_pt);
      flux = 1·0 ⊕ sw ‼ 1 ⊗ pdl_t0 ‼ 23 ⊗ (f107a ⊖ 150·0);
      nine = c;
    }

-- the same of a latitude and a day
unfoldable pub site_with : Parameters → List Float → Float → Float → Float → Site
site_with c sw lat doy f107a = site_from c sw lat (sin_of (dgtr ⊗ lat)) (cos_of (dr ⊗ (doy ⊖ pt_t ‼ 13))) f107a

-- the same with the present nine
unfoldable pub site_of : List Float → Float → Float → Float → Site
site_of sw lat doy f107a = site_with present_of sw lat doy f107a

-- the mass of mixed air is not 0, for which densm would give a temperature
abbrev pub HasMass : Site → Type 0
HasMass x = eq x.nine.xmm 0·0 ≡ false

-- meso_tn1 and meso_tgn1 below 300 km: m is PTM, p the sets' first coefficients, k the last denominator, a the sets' answers
unfoldable pub varied_of : List Float → ThermoSets → Float → ThermoSets → Nodes
varied_of m p k a =
    let t4 = m ‼ 4 ⊗ p.ptl3 ⊘ a.ptl3 in
    record {
      tn = 0·0 ∷ (m ‼ 6 ⊗ p.ptl0 ⊘ a.ptl0) ∷ (m ‼ 2 ⊗ p.ptl1 ⊘ a.ptl1) ∷ (m ‼ 7 ⊗ p.ptl2 ⊘ a.ptl2) ∷ t4 ∷ [];
      tgn = 0·0 ∷ (m ‼ 8 ⊗ p.pma8 ⊗ a.pma8 ⊗ t4 ⊗ t4 ⊘ k) ∷ [];
    }

-- the same from 300 km on
unfoldable pub mean_of : List Float → ThermoSets → Float → Nodes
mean_of m p k =
    let t4 = m ‼ 4 ⊗ p.ptl3 in
    record {
      tn = 0·0 ∷ (m ‼ 6 ⊗ p.ptl0) ∷ (m ‼ 2 ⊗ p.ptl1) ∷ (m ‼ 7 ⊗ p.ptl2) ∷ t4 ∷ [];
      tgn = 0·0 ∷ (m ‼ 8 ⊗ p.pma8 ⊗ t4 ⊗ t4 ⊘ k) ∷ [];
    }

unfoldable pub shape_of : Site → Float → Float → Float → Nodes → Shape
shape_of x tinf tlb g n =
    record { rgas = x.nine.rgas; gsurf = x.gsurf; re = x.re; tinf = tinf; tlb = tlb; s = g ⊘ (tinf ⊖ tlb); tn = n.tn; tgn = n.tgn }

-- tho in the place of tinf and tlb
unfoldable pub anomalous_of : Shape → Shape
anomalous_of h =
    let tho = pdm_t7 ‼ 9 ⊗ pdl_t0 ‼ 6 in
    record { rgas = h.rgas; gsurf = h.gsurf; re = h.re; tinf = tho; tlb = tho; s = h.s; tn = h.tn; tgn = h.tgn }

-- d[5]
unfoldable pub mass_of : Float → Float → Float → Float → Float → Float → Float → Float
mass_of he o n2 o2 ar h n =
    1·66E-24 ⊗ (4·0 ⊗ he ⊕ 16·0 ⊗ o ⊕ 28·0 ⊗ n2 ⊕ 32·0 ⊗ o2 ⊕ 40·0 ⊗ ar ⊕ h ⊕ 14·0 ⊗ n)

-- d[0] to d[8], in m and kg where switch 0 is on
unfoldable pub units_of : Float → Float → Float → Float → Float → Float → Float → Float → Float → Float → List Float
units_of sw0 he o n2 o2 ar all h n oh =
    cond (not (ne sw0 0·0)) (he ∷ o ∷ n2 ∷ o2 ∷ ar ∷ all ∷ h ∷ n ∷ oh ∷ []) (
    (he ⊗ 1·0E6) ∷ (o ⊗ 1·0E6) ∷ (n2 ⊗ 1·0E6) ∷ (o2 ⊗ 1·0E6) ∷ (ar ⊗ 1·0E6) ∷ (all ⊗ 1·0E6 ⊘ 1000·0) ∷ (h ⊗ 1·0E6) ∷ (n ⊗ 1·0E6) ∷ (oh ⊗ 1·0E6) ∷ [])

-- the row of eleven, from the densities in cm and the temperatures
unfoldable pub row_of : Float → Float → Float → SixSpecies → Float → Float → List Float
row_of sw0 tinf n2 y oh t1 =
    let all = mass_of y.he.dens y.o.dens n2 y.o2.dens y.ar.dens y.h.dens y.n.dens in
    let d = units_of sw0 y.he.dens y.o.dens n2 y.o2.dens y.ar.dens all y.h.dens y.n.dens oh in
    (d ‼ 0) ∷ (d ‼ 1) ∷ (d ‼ 2) ∷ (d ‼ 3) ∷ (d ‼ 4) ∷ (d ‼ 5) ∷ (d ‼ 6) ∷ (d ‼ 7) ∷ (d ‼ 8) ∷ tinf ∷ t1 ∷ []

-- totals, units, and the temperature at altitude
unfoldable pub gather_of : Float → Shape → Float → Blend → SixSpecies → Float → Gts7Output
gather_of sw0 h z x y oh =
    let all = mass_of y.he.dens y.o.dens x.dens y.o2.dens y.ar.dens y.h.dens y.n.dens in
    record {
      d = units_of sw0 y.he.dens y.o.dens x.dens y.o2.dens y.ar.dens all y.h.dens y.n.dens oh;
      t1 = temperature_of h (sqrt_of (z ⊗ z));
      shape = h;
      base = x;
      six = y;
    }
