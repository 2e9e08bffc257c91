-- Many records from C: the answers and the rows afterwards.
use Rattle.std.specs.Prelude.{ℕ, cond, List, ℤ, length, Float}
use Rattle.refusals.specs.Refusals.{Answer, accepted_of}
use Rattle.record_list.specs.RecordList.{lengths_answer}
use Rattle.records.specs.Records.{answers_to, rows_to}

-- 4 with the length that is needed
unfoldable pub host_records : List ℤ → List Float → List Float → List ℤ → ℕ → ℕ → Answer
host_records days f l w answers rows = lengths_answer (length days) (length f) (length l) (length w) answers rows

-- the answers, one a record; as they were where a length is refused
unfoldable pub host_answers : List ℤ → List Float → List Float → List ℤ → List ℕ → ℕ → List ℕ
host_answers days f l w xs rows = cond (accepted_of (host_records days f l w (length xs) rows)) (answers_to w days f l (length days) xs) xs

-- the rows, eleven numbers a record
unfoldable pub host_record_rows : List ℤ → List Float → List Float → List ℤ → ℕ → List Float → List Float
host_record_rows days f l w answers xs = cond (accepted_of (host_records days f l w answers (length xs))) (rows_to w days f l (length days) xs) xs
