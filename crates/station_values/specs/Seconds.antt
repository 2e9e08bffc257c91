-- glob7s reads no sec: two Views that differ in sec and in the cosines of it alone have the same fourteen values of glob7s. The eleven of globe7 need
-- no set of glob7s.
use Rattle.std.specs.Prelude.{◌≡◌, refl, true, take, drop, Float}
use Rattle.setting.specs.declared.View.{View}
use Rattle.expansion_parts.specs.ExpansionParts.{weighted_of, weighted_from, t8s_of, t10s_given}
use Rattle.expansion.specs.Expansion.{turns_after_of, glob7s_given, glob7s_from_given, glob7s_from}
use Rattle.needed_sets.specs.declared.Need.{Need}
use Rattle.expansion_values.specs.ExpansionValues.{legendre_in, quiet_of, active_of, expansion_values_of}
use Rattle.station_values.specs.StationValues.{expansion_numbers, globe7_sets}

-- a View at another sec, with the cosines of it and of it and the longitude
abbrev pub with_seconds : View → Float → Float → Float → View
with_seconds v sec ut long =
    record {
      sw = v.sw;
      swc = v.swc;
      doy = v.doy;
      sec = sec;
      g_lat = v.g_lat;
      g_long = v.g_long;
      lst = v.lst;
      ap = v.ap;
      ap_array = v.ap_array;
      df = v.df;
      dfa = v.dfa;
      dfa2 = v.dfa2;
      slat = v.slat;
      clat = v.clat;
      slong = v.slong;
      clong = v.clong;
      st = v.st;
      ct = v.ct;
      s2t = v.s2t;
      c2t = v.c2t;
      s3t = v.s3t;
      c3t = v.c3t;
      cos_year = v.cos_year;
      cos_half_year = v.cos_half_year;
      cos_local = v.cos_local;
      cos_ut = ut;
      cos_ut_long = long;
      cos_long = v.cos_long;
    }

-- the values of glob7s at another sec
pub glob7s_kept : (v : View) (sec ut long : Float) (n : Need) → drop 11 (expansion_numbers (expansion_values_of v n)) ≡ drop 11 (expansion_numbers (expansion_values_of (with_seconds v sec ut long) n))
unfolding expansion_numbers expansion_values_of active_of quiet_of turns_after_of legendre_in glob7s_from glob7s_from_given glob7s_given weighted_of weighted_from t8s_of t10s_given
glob7s_kept v sec ut long n = refl

-- the values of globe7, with glob7s' sets or without
pub globe7_alone : (v : View) (n : Need) → n.high ≡ true → n.pt ≡ true → n.ps ≡ true → take 11 (expansion_numbers (expansion_values_of v globe7_sets)) ≡ take 11 (expansion_numbers (expansion_values_of v n))
unfolding expansion_numbers expansion_values_of globe7_sets
globe7_alone v n e f g = rw (e, f, g)
