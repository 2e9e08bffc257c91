-- The host's descent: 4 for the three numbers of its end, then for the record's slices, then what the call answers.
use Rattle.std.specs.Prelude.{ℕ, ◌≤◌, ◌≡◌, cond, List, ℤ, length, Float, Err, Ok, Result}
use Rattle.refusals.specs.declared.Refusal.{Refusal}
use Rattle.refusals.specs.Refusals.{accepted_of, number_of, refused_or}
use Rattle.descent_orbits.specs.declared.Descended.{Descended}
use Rattle.descent_orbits.specs.Lent.{end_numbers}
use Rattle.descent.specs.Descent.{descent_answer, descent_losses}
use Rattle.host_record.specs.Record.{packed_of, record_of}
use Rattle.potirehu.specs.Potirehu.{slices_of}

-- an answer as one number: 0 for an ending, or the refusal's number times 2^32 and its place
abbrev pub descended_code : Result Descended Refusal → ℕ
descended_code (Ok d) = 0
descended_code (Err r) = packed_of (number_of r.reason) r.place

-- the lent three numbers after an answer; refused, they are as they were
abbrev pub end_after : Result Descended Refusal → List ℤ → List ℤ
end_after (Ok d) ys = end_numbers d.ending d.last d.taken
end_after (Err r) ys = ys

-- an ending whose altitude and count are a descent's
abbrev pub EndFits : Result Descended Refusal → Type 0
EndFits a = (d : Descended) → a ≡ Ok d → (d.last ≤ 1000000000) × (d.taken ≤ 10000)

unfoldable pub host_descent : ℤ → ℤ → List Float → List Float → List ℤ → ℤ → List ℤ → ℕ → ℕ → Result Descended Refusal
host_descent year doy f l w start ss room ends =
    refused_or (slices_of 3 f l w ends) (descent_answer w (record_of year doy f l) start ss room)

-- the lent list and the lent three numbers afterwards
unfoldable pub host_losses : ℤ → ℤ → List Float → List Float → List ℤ → ℤ → List ℤ → List ℤ → ℕ → List ℤ
host_losses year doy f l w start ss xs ends =
    cond (accepted_of (slices_of 3 f l w ends)) (descent_losses w (record_of year doy f l) start ss xs) xs

unfoldable pub host_end : ℤ → ℤ → List Float → List Float → List ℤ → ℤ → List ℤ → ℕ → List ℤ → List ℤ
host_end year doy f l w start ss room ys = end_after (host_descent year doy f l w start ss room (length ys)) ys
