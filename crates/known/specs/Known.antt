-- The call for a record of which only some fields are known: its answer and the row.
use Rattle.std.specs.Prelude.{ℕ, cond, not, List, ◌≡◌, eqb, ℤ, length, Float}
use Rattle.std.proofs.Common.{ap}
use Rattle.refusals.specs.Refusals.{Answer, Refused, accepted_of}
use Rattle.refusals.specs.declared.Reason.TheVariants.{WrongLength}
use Rattle.setting.specs.declared.Input.{Input}
use Rattle.atmosphere.specs.Atmosphere.{eleven_of}
use Rattle.known_record.specs.KnownRecord.{only_known, known_refusal, filled_answer}
use Rattle.known_record.proofs.Refusals.{answer_is}
use Rattle.counts.specs.Counts.{counts_of}

-- 4 for a row that is not of length 11; then 2, 1, 3, 10, with 1 by the fields that count under the row
unfoldable pub known_answer : ℕ → List ℤ → Input → ℕ → Answer
known_answer known w n len = cond (not (eqb len 11)) (Refused WrongLength 11) (known_refusal (counts_of w) known w n)

-- the lent row afterwards: accepted, the eleven numbers of the record with 0 in the fields that are not known; else as it was
unfoldable pub known_row : ℕ → List ℤ → Input → List Float → List Float
known_row known w n xs = cond (accepted_of (known_answer known w n (length xs))) (eleven_of w (only_known known n)) xs

-- the same answer by way of the record with 0 in the fields that are not known
unfoldable pub filled_answer_at : ℕ → List ℤ → Input → ℕ → Answer
filled_answer_at known w filled len = cond (not (eqb len 11)) (Refused WrongLength 11) (filled_answer (counts_of w) known w filled)

pub filled_is : (known : ℕ) (w : List ℤ) (n : Input) (len : ℕ) → filled_answer_at known w (only_known known n) len ≡ known_answer known w n len
unfolding filled_answer_at known_answer counts_of
filled_is known w n len = ap (cond (not (eqb len 11)) (Refused WrongLength 11)) (answer_is (counts_of w) known w n tt tt)
