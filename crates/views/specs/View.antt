-- The View: what the expansions read of row and record, worked out once for a call.
use Rattle.std.specs.Prelude.{List, ℤ, Float}
use Rattle.std.specs.Float.{binary64}
use Rattle.std.specs.Float.Ieee.{of_int}
use Rattle.numbers.specs.Arithmetic.{◌⊖◌, ◌⊗◌}
use Rattle.numbers.specs.Literals.{0·0, 2·0, 3·0, 150·0}
use Rattle.numbers.specs.Constants.{dgtr, hr}
use Rattle.elementary.specs.Trig.{sin_of, cos_of}
use Rattle.elementary.specs.Pow.{pow_of}
use Rattle.setting.specs.declared.Input.{Input}
use Rattle.setting.specs.declared.View.{View}
use Rattle.views.specs.declared.Turns.{Turns}
use Rattle.views.specs.declared.Plain.{Plain}
use Rattle.views.specs.Phases.{annual_cos_of, semiannual_cos_of, local_cos_of, ut_cos_of, ut_long_cos_of, long_phase_cos_of}
use Rattle.setting.specs.Switches.{sw_of, swc_of}

-- stloc to c3tloc of globe7
unfoldable pub turned_of : Float → Turns
turned_of lst =
    record {
      st = sin_of (hr ⊗ lst);
      ct = cos_of (hr ⊗ lst);
      s2t = sin_of (2·0 ⊗ hr ⊗ lst);
      c2t = cos_of (2·0 ⊗ hr ⊗ lst);
      s3t = sin_of (3·0 ⊗ hr ⊗ lst);
      c3t = cos_of (3·0 ⊗ hr ⊗ lst);
    }

-- the cosines of the phase 0
unfoldable pub plain_of : Float → Float → Float → Float → Plain
plain_of doy sec glong lst =
    record {
      year = annual_cos_of doy 0·0;
      half_year = semiannual_cos_of doy 0·0;
      local = local_cos_of lst 0·0;
      ut = ut_cos_of sec 0·0;
      ut_long = ut_long_cos_of sec 0·0 glong;
      long = long_phase_cos_of glong 0·0;
    }

-- w the switch row, n the record
unfoldable pub view_of : List ℤ → Input → View
view_of w n =
    let t = turned_of n.lst in
    let z = plain_of (of_int binary64 n.doy) n.sec n.g_long n.lst in
    record {
      sw = sw_of w;
      swc = swc_of w;
      doy = of_int binary64 n.doy;
      sec = n.sec;
      g_lat = n.g_lat;
      g_long = n.g_long;
      lst = n.lst;
      ap = n.ap;
      ap_array = n.ap_array;
      df = n.f107 ⊖ n.f107a;
      dfa = n.f107a ⊖ 150·0;
      dfa2 = pow_of (n.f107a ⊖ 150·0) 2·0;
      slat = sin_of (n.g_lat ⊗ dgtr);
      clat = cos_of (n.g_lat ⊗ dgtr);
      slong = sin_of (dgtr ⊗ n.g_long);
      clong = cos_of (dgtr ⊗ n.g_long);
      st = t.st;
      ct = t.ct;
      s2t = t.s2t;
      c2t = t.c2t;
      s3t = t.s3t;
      c3t = t.c3t;
      cos_year = z.year;
      cos_half_year = z.half_year;
      cos_local = z.local;
      cos_ut = z.ut;
      cos_ut_long = z.ut_long;
      cos_long = z.long;
    }
