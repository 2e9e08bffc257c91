-- The expansions' values in the numbers of a station, and gravity, zhf and flux factor of a row and a record.
use Rattle.std.specs.Prelude.{◌≡◌, refl, true, false, List, [], ◌∷◌, Float}
use Rattle.std.specs.Float.{binary64}
use Rattle.std.specs.Float.Ieee.{of_int}
use Rattle.numbers.specs.Arithmetic.{◌‼◌}
use Rattle.setting.specs.declared.Input.{Input}
use Rattle.needed_sets.specs.declared.Need.{Need}
use Rattle.plan.specs.declared.ExpansionValues.{ExpansionValues}
use Rattle.gts7_arithmetic.specs.declared.Site.{Site}
use Rattle.gts7_arithmetic.specs.Gts7Arithmetic.{site_of}

unfoldable pub expansion_numbers : ExpansionValues → List Float
expansion_numbers l =
    l.pt ∷ l.ps ∷ l.pd0 ∷ l.pd1 ∷ l.pd2 ∷ l.pd3 ∷ l.pd4 ∷ l.pd5 ∷ l.pd6 ∷
    l.pd7 ∷ l.pd8 ∷ l.ptl0 ∷ l.ptl1 ∷ l.ptl2 ∷ l.ptl3 ∷ l.pma0 ∷ l.pma1 ∷ l.pma2 ∷
    l.pma3 ∷ l.pma4 ∷ l.pma5 ∷ l.pma6 ∷ l.pma7 ∷ l.pma8 ∷ l.pma9 ∷ []

unfoldable pub expansion_values_in : List Float → ExpansionValues
expansion_values_in xs =
    record {
      pt = xs ‼ 0;
      ps = xs ‼ 1;
      pd0 = xs ‼ 2;
      pd1 = xs ‼ 3;
      pd2 = xs ‼ 4;
      pd3 = xs ‼ 5;
      pd4 = xs ‼ 6;
      pd5 = xs ‼ 7;
      pd6 = xs ‼ 8;
      pd7 = xs ‼ 9;
      pd8 = xs ‼ 10;
      ptl0 = xs ‼ 11;
      ptl1 = xs ‼ 12;
      ptl2 = xs ‼ 13;
      ptl3 = xs ‼ 14;
      pma0 = xs ‼ 15;
      pma1 = xs ‼ 16;
      pma2 = xs ‼ 17;
      pma3 = xs ‼ 18;
      pma4 = xs ‼ 19;
      pma5 = xs ‼ 20;
      pma6 = xs ‼ 21;
      pma7 = xs ‼ 22;
      pma8 = xs ‼ 23;
      pma9 = xs ‼ 24;
    }

-- what was written is read
pub expansion_values_back : (l : ExpansionValues) → expansion_values_in (expansion_numbers l) ≡ l
unfolding expansion_values_in expansion_numbers
expansion_values_back l = refl

-- globe7's sets, without glob7s'
unfoldable pub globe7_sets : Need
globe7_sets = record { high = true; pt = true; ps = true; nodes = false; meso = false; tropo = false }

-- sw the main effects of the row
unfoldable pub site_under : List Float → Input → Site
site_under sw n = site_of sw n.g_lat (of_int binary64 n.doy) n.f107a
