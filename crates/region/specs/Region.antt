-- What a region of altitude fixes above 72.5 km, and the row of an altitude in it. A reader who believes Stages.antt need not read it.
use Rattle.std.specs.Prelude.{true, cond, Float, List}
use Rattle.std.specs.Float.Ieee.{lt}
use Rattle.numbers.specs.Arithmetic.{◌⊗◌, ◌‼◌}
use Rattle.numbers.specs.Literals.{72·5}
use Rattle.elementary.specs.Exp.{exp_of}
use Rattle.elementary.specs.Root.{sqrt_of}
use Rattle.parameters.specs.declared.Parameters.{Parameters}
use Rattle.mixing_limits.specs.Limits.{mixed_at, some_mixed}
use Rattle.mixing_limits.specs.declared.Mixed.{Mixed}
use Rattle.places.specs.Place.{under_of}
use Rattle.places.specs.declared.place.Spine.{Spine}
use Rattle.places.specs.declared.place.Place.{Place}
use Rattle.places.specs.declared.thinning.Thinning.{Thinning}
use Rattle.plan.specs.declared.ExpansionValues.{ExpansionValues}
use Rattle.profile.specs.declared.unchecked.Shape.{Shape}
use Rattle.species.specs.Places.{place_at}
use Rattle.species.specs.Rooted.{mixing_of, n2_root_of, helium_root_of, oxygen_root_of, o2_root_of, argon_root_of, hydrogen_root_of, nitrogen_root_of, n2_from, helium_from, oxygen_from, o2_from, argon_from, hydrogen_from, nitrogen_from, anomalous_factor_of, anomalous_oxygen_from}
use Rattle.tables.specs.Tables.{pd_t0, pd_t1, pd_t2, pd_t4, pd_t5, pd_t6, pd_t7, pd_t8, pdm_t0, pdm_t1, pdm_t2, pdm_t3, pdm_t4, pdm_t5, pdm_t6, pdm_t7, pdl_t0, pdl_t1}
use Rattle.gts7_arithmetic.specs.declared.Site.{Site}
use Rattle.gts7_arithmetic.specs.declared.SixSpecies.{SixSpecies}
use Rattle.gts7_arithmetic.specs.Gts7Arithmetic.{anomalous_of, row_of}
use Rattle.region.specs.declared.ThinBases.{ThinBases}
use Rattle.region.specs.declared.DenseBases.{DenseBases}
use Rattle.region.specs.declared.Bases.{Bases}
use Rattle.region.specs.declared.Turbopauses.{Turbopauses}
use Rattle.region.specs.declared.Roots.{Roots}

-- a density at the lower boundary, from the value of its expansion
unfoldable pub base_of : Float → Float → Float → Float → Float
base_of m f level c = m ⊗ exp_of (f ⊗ level) ⊗ c

unfoldable pub thin_bases_of : Float → ExpansionValues → ThinBases
thin_bases_of f l =
    record {
      he = base_of (pdm_t0 ‼ 0) f l.pd0 (pd_t0 ‼ 0);
      h = base_of (pdm_t5 ‼ 0) f l.pd6 (pd_t6 ‼ 0);
      n = base_of (pdm_t6 ‼ 0) f l.pd7 (pd_t7 ‼ 0);
      hot = base_of (pdm_t7 ‼ 0) f l.pd8 (pd_t8 ‼ 0);
    }

unfoldable pub dense_bases_of : Float → ExpansionValues → DenseBases
dense_bases_of f l =
    record {
      n2 = base_of (pdm_t2 ‼ 0) f l.pd2 (pd_t2 ‼ 0);
      o = base_of (pdm_t1 ‼ 0) f l.pd1 (pd_t1 ‼ 0);
      o2 = base_of (pdm_t3 ‼ 0) f l.pd4 (pd_t4 ‼ 0);
      ar = base_of (pdm_t4 ‼ 0) f l.pd5 (pd_t5 ‼ 0);
    }

unfoldable pub bases_of : Float → ExpansionValues → Bases
bases_of f l = record { thin = thin_bases_of f l; dense = dense_bases_of f l }

-- the turbopauses of N2, helium, O (and O2, argon, N) and hydrogen
unfoldable pub turbopauses_of : Shape → Float → Turbopauses
turbopauses_of h zhf =
    record { n2 = place_at h (pdm_t2 ‼ 2 ⊗ zhf); he = place_at h (pdm_t0 ‼ 2); o = place_at h (pdm_t1 ‼ 2); h = place_at h (pdm_t5 ‼ 2) }

unfoldable pub roots_from : Float → Float → Float → Turbopauses → Float → Float → Bases → Roots
roots_from rgas gsurf re w flux xmm d =
    let n2 = n2_root_of w.n2 d.dense.n2 xmm in
    record {
      n2 = n2;
      he = helium_root_of true w.he d.thin.he n2.b xmm;
      o = oxygen_root_of true w.o d.dense.o flux xmm;
      o2 = o2_root_of true w.o d.dense.o2 n2.b xmm;
      ar = argon_root_of true w.o d.dense.ar n2.b xmm;
      h = hydrogen_root_of true w.h d.thin.h n2.b xmm;
      n = nitrogen_root_of true w.o d.thin.n n2.b xmm;
      rate = pdm_t3 ‼ 3 ⊗ pdl_t1 ‼ 23 ⊗ flux;
      hot = d.thin.hot;
      factor = anomalous_factor_of rgas gsurf re (pdm_t7 ‼ 5) (pdm_t7 ‼ 4) (pdm_t7 ‼ 9 ⊗ pdl_t0 ‼ 6);
    }

-- over a shape
unfoldable pub roots_of : Shape → Site → Bases → Roots
roots_of h x d = roots_from h.rgas h.gsurf h.re (turbopauses_of h x.zhf) x.flux x.nine.xmm d

unfoldable pub six_at : Float → Mixed → Float → Roots → Place → Thinning → Float → Float → SixSpecies
six_at sw15 m z q p t zhm xmm =
    record {
      he = helium_from m.he z p t q.he zhm xmm;
      o = oxygen_from m.o z p t q.o zhm xmm;
      o2 = o2_from sw15 m.o2 z p t q.o2 q.rate zhm xmm;
      ar = argon_from m.ar z p t q.ar zhm xmm;
      h = hydrogen_from m.h z p t q.h zhm xmm;
      n = nitrogen_from m.n z p t q.n zhm xmm;
    }

-- the row at z, whose place is p; k is its place over anomalous oxygen's shape, c the nine constants
unfoldable pub row_at : Parameters → Float → Float → Float → Float → Roots → Place → Place → Float → List Float
row_at c sw0 sw15 z tinf q p k t1 =
    let m = mixed_at c sw15 z in
    let t = mixing_of (some_mixed m) p c.xmm in
    let n2 = n2_from m.n2 p t q.n2 c.xmm in
    let y = six_at sw15 m z q p t (pdm_t2 ‼ 3 ⊗ pdl_t1 ‼ 5) c.xmm in
    row_of sw0 tinf n2.dens y (anomalous_oxygen_from z k q.hot q.factor (pdm_t7 ‼ 5) (pdm_t7 ‼ 4)) t1

-- at or above za
unfoldable pub row_over : Parameters → Float → Float → Shape → Roots → Float → List Float
row_over c sw0 sw15 h q z =
    row_at c sw0 sw15 z h.tinf q (place_at h z) (place_at (anomalous_of h) z) (place_at h (sqrt_of (z ⊗ z))).tz

unfoldable pub temperature_at : Shape → Spine → Float → Float
temperature_at h s r = cond (lt r (pdl_t1 ‼ 15)) (under_of h.re s r (pdl_t1 ‼ 15) 72·5).tz (place_at h r).tz

-- below za, from the spines
unfoldable pub row_under : Parameters → Float → Float → Shape → Spine → Spine → Roots → Float → List Float
row_under c sw0 sw15 h s g q z =
    row_at c sw0 sw15 z h.tinf q (under_of h.re s z (pdl_t1 ‼ 15) 72·5) (under_of h.re g z (pdl_t1 ‼ 15) 72·5) (temperature_at h s (sqrt_of (z ⊗ z)))
