-- The values of the expansions that gtd7 asks for from a fresh State, each worked out once.
use Rattle.std.specs.Prelude.{cond, List, replicate, ℤ, Float}
use Rattle.numbers.specs.Arithmetic.{◌‼◌}
use Rattle.numbers.specs.Literals.{0·0}
use Rattle.setting.specs.declared.Input.{Input}
use Rattle.setting.specs.declared.View.{View}
use Rattle.setting.specs.State.{fresh_of}
use Rattle.views.specs.View.{view_of}
use Rattle.views.specs.Phases.{annual_cos_of}
use Rattle.tables.specs.Tables.{pt_t, ps_t, pd_t0, pd_t1, pd_t2, pd_t3, pd_t4, pd_t5, pd_t6, pd_t7, pd_t8, ptl_t0, ptl_t1, ptl_t2, ptl_t3, pma_t0, pma_t1, pma_t2, pma_t3, pma_t4, pma_t5, pma_t6, pma_t7, pma_t8, pma_t9}
use Rattle.legendre.specs.Legendre.{legendre_of}
use Rattle.activity.specs.Activity.{apdf_next_of, apt_next_of}
use Rattle.expansion.specs.declared.Carried.{Carried}
use Rattle.expansion.specs.Expansion.{turns_after_of, globe7_value, glob7s_from}
use Rattle.plan.specs.declared.ExpansionValues.{ExpansionValues}
use Rattle.needed_sets.specs.declared.Need.{Need}
use Rattle.expansion_values.specs.declared.RecordValues.{RecordValues}

-- the Legendre values after any globe7 from a fresh State
unfoldable pub legendre_in : View → List (List Float)
legendre_in v = legendre_of v.slat v.clat (replicate 36 0·0)

-- what State carries before a set's magnetic activity
unfoldable pub quiet_of : View → Carried
quiet_of v =
    let t = turns_after_of v fresh_of in
    record {
      dfa = v.dfa;
      ctloc = t.ct;
      stloc = t.st;
      c2tloc = t.c2t;
      s2tloc = t.s2t;
      s3tloc = t.s3t;
      c3tloc = t.c3t;
      apdf = 0·0;
      apt = 0·0;
    }

-- what State carries after globe7 over a set
unfoldable pub active_of : View → List Float → Carried → Carried
active_of v p c =
    record {
      dfa = c.dfa;
      ctloc = c.ctloc;
      stloc = c.stloc;
      c2tloc = c.c2tloc;
      s2tloc = c.s2tloc;
      s3tloc = c.s3tloc;
      c3tloc = c.c3tloc;
      apdf = apdf_next_of (v.sw ‼ 9) (p ‼ 43) (p ‼ 44) v.ap c.apdf;
      apt = apt_next_of (v.sw ‼ 9) (p ‼ 51) (p ‼ 138) (p ‼ 24) (p ‼ 25) v.g_lat v.ap_array c.apt;
    }

-- globe7 over a set
unfoldable pub wide_of : View → List (List Float) → Carried → List Float → Float
wide_of v g c p = globe7_value v p g (active_of v p c)

-- the values that are needed, from a fresh State: PD[8] is asked for after PD[7], the nodes of the lower thermosphere after PD[3], the lower ones
-- after PD[7] and PD[8]; a value that is not needed is 0
unfoldable pub expansion_values_of : View → Need → ExpansionValues
expansion_values_of v n =
    let g = legendre_in v in
    let c = quiet_of v in
    let c3 = active_of v pd_t3 c in
    let c7 = active_of v pd_t7 c in
    let c8 = active_of v pd_t8 c7 in
    record {
      pt = cond n.pt (wide_of v g c pt_t) 0·0;
      ps = cond n.ps (wide_of v g c ps_t) 0·0;
      pd0 = wide_of v g c pd_t0;
      pd1 = cond n.high (wide_of v g c pd_t1) 0·0;
      pd2 = wide_of v g c pd_t2;
      pd3 = wide_of v g c pd_t3;
      pd4 = wide_of v g c pd_t4;
      pd5 = wide_of v g c pd_t5;
      pd6 = cond n.high (wide_of v g c pd_t6) 0·0;
      pd7 = cond n.high (wide_of v g c pd_t7) 0·0;
      pd8 = cond n.high (wide_of v g c7 pd_t8) 0·0;
      ptl0 = cond n.nodes (glob7s_from v ptl_t0 g c3) 0·0;
      ptl1 = cond n.nodes (glob7s_from v ptl_t1 g c3) 0·0;
      ptl2 = cond n.nodes (glob7s_from v ptl_t2 g c3) 0·0;
      ptl3 = cond n.nodes (glob7s_from v ptl_t3 g c3) 0·0;
      pma0 = cond n.meso (glob7s_from v pma_t0 g c8) 0·0;
      pma1 = cond n.meso (glob7s_from v pma_t1 g c8) 0·0;
      pma2 = cond n.meso (glob7s_from v pma_t2 g c8) 0·0;
      pma3 = cond n.tropo (glob7s_from v pma_t3 g c8) 0·0;
      pma4 = cond n.tropo (glob7s_from v pma_t4 g c8) 0·0;
      pma5 = cond n.tropo (glob7s_from v pma_t5 g c8) 0·0;
      pma6 = cond n.tropo (glob7s_from v pma_t6 g c8) 0·0;
      pma7 = cond n.tropo (glob7s_from v pma_t7 g c8) 0·0;
      pma8 = cond n.nodes (glob7s_from v pma_t8 g c3) 0·0;
      pma9 = cond n.meso (glob7s_from v pma_t9 g c8) 0·0;
    }

-- what gts7 and gtd7 read of a record under a switch row, its altitude apart
unfoldable pub record_values_of : List ℤ → Input → Need → RecordValues
record_values_of w n a =
    let v = view_of w n in record { sw = v.sw; slat = v.slat; cos_pt = annual_cos_of v.doy (pt_t ‼ 13); values = expansion_values_of v a }
