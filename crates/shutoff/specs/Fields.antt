-- The fields of a record by document 01's numbers, 0 to 16.
use Rattle.std.specs.Prelude.{List, [], ◌∷◌, ℕ, ℤ, get_or, Float}
use Rattle.numbers.specs.Arithmetic.{◌‼◌}
use Rattle.setting.specs.declared.Input.{Input}
use Rattle.setting.specs.declared.History.{History}
use Rattle.setting.specs.declared.History.TheVariants.{Absent, Present}

pub data Value : Type 0 where
  whole : ℤ → Value
  float : Float → Value
  missing : Value

-- a value of the array: missing where the array is absent
abbrev pub in_history : History → List Float → ℕ → Value
in_history Absent l k = missing
in_history Present l k = float (l ‼ k)

abbrev pub fields : Input → List Value
fields r =
    whole r.year ∷ whole r.doy ∷ float r.sec ∷ float r.alt ∷ float r.g_lat ∷ float r.g_long ∷
    float r.lst ∷ float r.f107a ∷ float r.f107 ∷ float r.ap ∷
    in_history r.history r.ap_array 0 ∷ in_history r.history r.ap_array 1 ∷ in_history r.history r.ap_array 2 ∷
    in_history r.history r.ap_array 3 ∷ in_history r.history r.ap_array 4 ∷ in_history r.history r.ap_array 5 ∷
    in_history r.history r.ap_array 6 ∷ []

abbrev pub field : Input → ℕ → Value
field r k = get_or (fields r) k missing
