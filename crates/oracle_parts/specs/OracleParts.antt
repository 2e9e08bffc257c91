-- What the host sees of an outcome: a number for the refusal, and the values in a lent slice.
use Rattle.std.specs.Prelude.{ℕ, cond, not, List, [], ◌∷◌, eqb, length, Float}
use Rattle.host_record.specs.Record.{packed_of}
use Rattle.spline_calls.specs.Outcome.{Outcome, gives, refused}
use Rattle.profile.specs.Profile.{returned_number, temperature_in}
use Rattle.profile.specs.declared.unchecked.Profile.{Profile}

-- document 01's number of a refusal and its place, 0 and 0 where there is none
abbrev pub refusal_of : {A : Type 0} → Outcome A → ℕ
refusal_of (gives x) = 0
refusal_of (refused number place) = number

abbrev pub outcome_place : {A : Type 0} → Outcome A → ℕ
outcome_place (gives x) = 0
outcome_place (refused number place) = place

-- an outcome as one number: the refusal's number times 2^32 and its place
unfoldable pub outcome_code : {A : Type 0} → Outcome A → ℕ
outcome_code o = packed_of (refusal_of o) (outcome_place o)

-- the values as a list: the one of a spline; of a profile the number that the Rust returns and the temperature that it writes into tz
unfoldable pub one_number : Outcome Float → Outcome (List Float)
one_number (gives x) = gives (x ∷ [])
one_number (refused number place) = refused number place

unfoldable pub two_numbers : Outcome Profile → Outcome (List Float)
two_numbers (gives p) = gives (returned_number p ∷ temperature_in p ∷ [])
two_numbers (refused number place) = refused number place

-- 4 and the length needed where the slice for the values has not k numbers; then the rest
unfoldable pub lent : {A : Type 0} → ℕ → List Float → Outcome A → Outcome A
lent k out rest = cond (not (eqb (length out) k)) (refused 4 k) rest

-- another lent slice: as it was after that refusal, else what the call leaves in it
unfoldable pub kept_unless_long : ℕ → List Float → List Float → List Float → List Float
kept_unless_long k out xs ys = cond (not (eqb (length out) k)) xs ys
