-- What a walk over altitudes stores: a part when the first altitude is reached that reads it, and nothing else.
use Rattle.std.specs.Prelude.{List, ℤ, Float}
use Rattle.setting.specs.declared.Input.{Input}
use Rattle.views.specs.View.{view_of}
use Rattle.gts7_arithmetic.specs.Gts7Arithmetic.{site_of}
use Rattle.expansion_values.specs.ExpansionValues.{expansion_values_of}
use Rattle.stored_parts.specs.declared.Parts.{Parts}
use Rattle.stored_parts.specs.Parts.{parts_at, either_parts, reached_of}
use Rattle.stored.specs.Stored.{need_of, stored_in}

-- the parts that are there once an altitude is reached that the parts h do not serve
unfoldable pub parts_grown : Parts → Float → Parts
parts_grown h z = either_parts h (reached_of (parts_at z) h)

-- the stored numbers then
unfoldable pub numbers_grown : List ℤ → Input → Parts → Float → List Float → List Float
numbers_grown w n h z xs =
    let v = view_of w n in
    let p = reached_of (parts_at z) h in
    stored_in p v.sw (site_of v.sw n.g_lat v.doy n.f107a) (expansion_values_of v (need_of p)) xs
