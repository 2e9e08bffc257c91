-- What is stored for the altitudes of a column, and the rows out of the stored numbers.
use Rattle.std.specs.Prelude.{List, [], ◌∷◌, ◌++◌, ℤ, Float}
use Rattle.setting.specs.declared.Input.{Input}
use Rattle.views.specs.View.{view_of}
use Rattle.gts7_arithmetic.specs.Gts7Arithmetic.{site_of}
use Rattle.expansion_values.specs.ExpansionValues.{expansion_values_of}
use Rattle.stored.specs.Stored.{need_of, stored_of, row_stored}
use Rattle.stored_parts.specs.Parts.{no_parts, parts_from}

-- what is stored of a record for its altitudes, behind the first 14 numbers
unfoldable pub stored_for : List ℤ → Input → List Float → List Float
stored_for w n alts =
    let v = view_of w n in
    let p = parts_from no_parts alts in
    stored_of p v.sw (site_of v.sw n.g_lat v.doy n.f107a) (expansion_values_of v (need_of p))

-- the rows at the altitudes, one after the other
unfoldable pub rows_stored : Float → Float → List Float → List Float → List Float
rows_stored sw0 sw15 s [] = []
rows_stored sw0 sw15 s (z ∷ zs) = row_stored sw0 sw15 s z ++ rows_stored sw0 sw15 s zs
