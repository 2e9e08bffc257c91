-- The View written out: its switch rows entry by entry.
use Rattle.std.specs.Prelude.{◌≡◌, refl, List, [], ◌∷◌, ℕ, ℤ, Float}
use Rattle.std.specs.Float.{binary64}
use Rattle.std.specs.Float.Ieee.{of_int}
use Rattle.numbers.specs.Arithmetic.{◌⊖◌, ◌⊗◌}
use Rattle.numbers.specs.Literals.{0·0, 2·0, 3·0, 150·0}
use Rattle.numbers.specs.Constants.{dgtr, hr}
use Rattle.elementary.specs.Trig.{sin_of, cos_of}
use Rattle.elementary.specs.Pow.{pow_of}
use Rattle.setting.specs.declared.View.{View}
use Rattle.setting.specs.declared.Input.{Input}
use Rattle.setting.specs.Switches.{sw_at, swc_at, filled, sw_of, swc_of}
use Rattle.views.specs.Phases.{annual_cos_of, semiannual_cos_of, local_cos_of, ut_cos_of, ut_long_cos_of, long_phase_cos_of}
use Rattle.views.specs.View.{turned_of, plain_of, view_of}

abbrev row24 : (ℕ → Float) → List Float
row24 f =
    f 0 ∷ f 1 ∷ f 2 ∷ f 3 ∷ f 4 ∷ f 5 ∷ f 6 ∷ f 7 ∷ f 8 ∷ f 9 ∷ f 10 ∷ f 11 ∷ f 12 ∷ f 13 ∷ f 14 ∷ f 15 ∷ f 16 ∷ f 17 ∷ f 18 ∷
    f 19 ∷ f 20 ∷ f 21 ∷ f 22 ∷ f 23 ∷ []

abbrev pub plain_view : List ℤ → Input → View
plain_view w n =
    record {
      sw = row24 (sw_at w);
      swc = row24 (swc_at w);
      doy = of_int binary64 n.doy;
      sec = n.sec;
      g_lat = n.g_lat;
      g_long = n.g_long;
      lst = n.lst;
      ap = n.ap;
      ap_array = n.ap_array;
      df = n.f107 ⊖ n.f107a;
      dfa = n.f107a ⊖ 150·0;
      dfa2 = pow_of (n.f107a ⊖ 150·0) 2·0;
      slat = sin_of (n.g_lat ⊗ dgtr);
      clat = cos_of (n.g_lat ⊗ dgtr);
      slong = sin_of (dgtr ⊗ n.g_long);
      clong = cos_of (dgtr ⊗ n.g_long);
      st = sin_of (hr ⊗ n.lst);
      ct = cos_of (hr ⊗ n.lst);
      s2t = sin_of (2·0 ⊗ hr ⊗ n.lst);
      c2t = cos_of (2·0 ⊗ hr ⊗ n.lst);
      s3t = sin_of (3·0 ⊗ hr ⊗ n.lst);
      c3t = cos_of (3·0 ⊗ hr ⊗ n.lst);
      cos_year = annual_cos_of (of_int binary64 n.doy) 0·0;
      cos_half_year = semiannual_cos_of (of_int binary64 n.doy) 0·0;
      cos_local = local_cos_of n.lst 0·0;
      cos_ut = ut_cos_of n.sec 0·0;
      cos_ut_long = ut_long_cos_of n.sec 0·0 n.g_long;
      cos_long = long_phase_cos_of n.g_long 0·0;
    }

pub view_is : (w : List ℤ) (n : Input) → view_of w n ≡ plain_view w n
unfolding view_of turned_of plain_of sw_of swc_of filled
view_is w n = refl
