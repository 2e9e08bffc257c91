-- What gts7 at 72.5 km gives to every altitude below it, and the row there.
use Rattle.std.specs.Prelude.{Bool, true, cond, not, List, [], ◌∷◌, Float}
use Rattle.std.specs.Float.Ieee.{lt, ne}
use Rattle.numbers.specs.Arithmetic.{◌⊕◌, ◌⊖◌, ◌⊗◌, ◌⊘◌, ◌‼◌}
use Rattle.numbers.specs.Literals.{0·0, 1·0, 32·5, 72·5, 1·0E6}
use Rattle.mixing_limits.specs.Limits.{mixed_at}
use Rattle.mixing_limits.specs.declared.Mixed.{Mixed}
use Rattle.profile.specs.Curve.{layer_of}
use Rattle.profile.specs.Profile.{lowered_of, returned_number, temperature_in}
use Rattle.profile.specs.declared.unchecked.Profile.{Profile}
use Rattle.profile.specs.declared.unchecked.Shape.{Shape}
use Rattle.layers.specs.Layers.{span_of, blank_of, down_of}
use Rattle.plan.specs.declared.ExpansionValues.{ExpansionValues}
use Rattle.plan.specs.Plan.{told, answer_to}
use Rattle.species.specs.declared.Blend.{Blend}
use Rattle.tables.specs.Tables.{pdm_t0, pdm_t2, pdm_t3, pdm_t4, pdl_t1}
use Rattle.gts7_arithmetic.specs.declared.Site.{Site}
use Rattle.gts7_arithmetic.specs.Gts7Arithmetic.{mass_of}
use Rattle.stages.specs.Stages.{shape_plan, n2_plan, helium_plan, o2_plan, argon_plan}
use Rattle.lower_atmosphere.specs.declared.Meso.{Meso}
use Rattle.mixing.specs.Mixing.{dmc_of}
use Rattle.lower_atmosphere.specs.LowerAtmosphere.{meso_nodes_plan, lower_plan, unset_nodes, dm28m_of, zn2, zn3, lower_n2, full_of, kilograms_of}
use Rattle.footing.specs.declared.Curves.{Curves}
use Rattle.footing.specs.declared.Footing.{Footing}
use Rattle.footing.specs.declared.Summit.{Summit}
use Rattle.footing.specs.declared.Three.{Three}

-- helium, O2 and argon at 72.5 km; m says which are mixed there
unfoldable pub three_of : List Float → Shape → Mixed → Float → Float → Float → ExpansionValues → Three
three_of sw h m b28 flux xmm l =
    let zhm = pdm_t2 ‼ 3 ⊗ pdl_t1 ‼ 5 in
    record {
      he = told (answer_to l) (helium_plan sw h m.he 72·5 b28 zhm xmm);
      o2 = told (answer_to l) (o2_plan sw h m.o2 72·5 b28 zhm xmm flux);
      ar = told (answer_to l) (argon_plan sw h m.ar 72·5 b28 zhm xmm);
    }

-- a density in the units asked for
unfoldable pub in_units_of : Float → Float → Float
in_units_of sw0 d = cond (ne sw0 0·0) (d ⊗ 1·0E6) d

-- what the altitudes below read of the densities at 72.5 km: of N2 b, of the others y
unfoldable pub summit_from : Float → Blend → Three → Summit
summit_from sw0 b y =
    record {
      known = true;
      he = in_units_of sw0 y.he.dens;
      n2 = in_units_of sw0 b.dens;
      o2 = in_units_of sw0 y.o2.dens;
      ar = in_units_of sw0 y.ar.dens;
      dm28 = b.dm;
    }

-- the same from the shape h of 72.5 km
unfoldable pub summit_at : List Float → Site → Shape → ExpansionValues → Summit
summit_at sw x h l =
    let m = mixed_at x.nine (sw ‼ 15) 72·5 in
    let b = told (answer_to l) (n2_plan sw h m.n2 72·5 x.zhf x.nine.xmm) in
    summit_from (sw ‼ 0) b (three_of sw h m b.b x.flux x.nine.xmm l)

unfoldable pub summit_of : List Float → Site → ExpansionValues → Summit
summit_of sw x l = summit_at sw x (told (answer_to l) (shape_plan sw x 72·5)) l

-- the layer from 72.5 km to 32.5 km, made of its nodes; and, where the troposphere is asked for, the density at 32.5 km and the layer from there
-- down, whose nodes are those of 0 km
unfoldable pub curves_of : List Float → Site → Float → Meso → ExpansionValues → Bool → Curves
curves_of sw x d m l tropo =
    let xm = x.nine.xmm in
    let a = layer_of x.re zn2 m.tn2 4 m.tgn2 32·5 in
    let u = span_of x.nine.rgas x.gsurf x.re xm a in
    cond (not tropo) (record { upper = u; d32 = 0·0; lower = blank_of })
    (let w = told (answer_to l) (lower_plan sw 0·0 m) in
    record {
      upper = u;
      d32 = lowered_of x.nine.rgas x.gsurf x.re xm d a 4;
      lower = span_of x.nine.rgas x.gsurf x.re xm (layer_of x.re zn3 w.tn3 5 w.tgn3 0·0);
    })

unfoldable pub standing_of : Float → Site → Shape → Blend → Three → Float → Meso → Curves → Footing
standing_of sw0 x h b y d m k =
    record {
      x = x;
      tinf = h.tinf;
      dm28m = d;
      he = in_units_of sw0 y.he.dens;
      n2 = in_units_of sw0 b.dens;
      o2 = in_units_of sw0 y.o2.dens;
      ar = in_units_of sw0 y.ar.dens;
      meso = m;
      curves = k;
    }

unfoldable pub footing_of : List Float → Site → ExpansionValues → Bool → Footing
footing_of sw x l tropo =
    let h = told (answer_to l) (shape_plan sw x 72·5) in
    let m = mixed_at x.nine (sw ‼ 15) 72·5 in
    let b = told (answer_to l) (n2_plan sw h m.n2 72·5 x.zhf x.nine.xmm) in
    let y = three_of sw h m b.b x.flux x.nine.xmm l in
    let e = told (answer_to l) (meso_nodes_plan sw h) in
    let d = dm28m_of (sw ‼ 0) b.dm in
    standing_of (sw ‼ 0) x h b y d e (curves_of sw x d e l tropo)

-- densm for N2: above 32.5 km the upper layer, below it the lower; else, at 32.5 km, over the nodes, of which those of the troposphere are not set
unfoldable pub reached_of : Site → Float → Meso → Curves → Float → Profile
reached_of x d m k alt =
    cond (lt 32·5 alt) (down_of x.re 72·5 k.upper 4 d alt)
    (cond (lt alt 32·5) (down_of x.re 32·5 k.lower 5 k.d32 alt)
    (lower_n2 x alt d (unset_nodes m)))

-- the eleven numbers at an altitude
unfoldable pub row_below_of : Float → Footing → Float → List Float
row_below_of sw0 f alt =
    let c = dmc_of alt in
    let a = reached_of f.x f.dm28m f.meso f.curves alt in
    let d2 = returned_number a ⊗ (1·0 ⊕ (f.n2 ⊘ f.dm28m ⊖ 1·0) ⊗ c) in
    let he = full_of d2 (pdm_t0 ‼ 1) f.he f.n2 c in
    let o2 = full_of d2 (pdm_t3 ‼ 1) f.o2 f.n2 c in
    let ar = full_of d2 (pdm_t4 ‼ 1) f.ar f.n2 c in
    let all = kilograms_of sw0 (mass_of he 0·0 d2 o2 ar 0·0 0·0) in
    he ∷ 0·0 ∷ d2 ∷ o2 ∷ ar ∷ all ∷ 0·0 ∷ 0·0 ∷ 0·0 ∷ f.tinf ∷ temperature_in a ∷ []
