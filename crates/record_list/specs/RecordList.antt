-- Records that lie one behind the other under one switch row: days one a record, fields eight, histories seven or none at all; an answer and a row of
-- eleven for each.
use Rattle.std.specs.Prelude.{ℕ, ◌*◌, ◌≡◌, false, cond, not, ◌&&◌, List, eqb, ltb, ℤ, pos, length, get_or, take, drop, Float}
use Rattle.refusals.specs.Refusals.{Accepted, Answer, Refused}
use Rattle.refusals.specs.declared.Reason.TheVariants.{WrongLength}
use Rattle.setting.specs.declared.Input.{Input}
use Rattle.host_record.specs.Record.{record_of}

-- the lengths of days, fields and histories agree
abbrev pub Listed : ℕ → ℕ → ℕ → Type 0
Listed count fields histories = (fields ≡ 8 * count) × ((not (eqb histories 0) && not (eqb histories (7 * count))) ≡ false)

-- the k-th history: none where there is none at all
abbrev pub history_at : List Float → ℕ → List Float
history_at l k = cond (eqb (length l) 0) l (take 7 (drop (7 * k) l))

-- the k-th record, of the year 0
unfoldable pub record_at : List ℤ → List Float → List Float → ℕ → Input
record_at days f l k = record_of (pos 0) (get_or days k (pos 0)) (take 8 (drop (8 * k) f)) (history_at l k)

-- 4 with the length that is needed: rows and answers may be longer
unfoldable pub lengths_answer : ℕ → ℕ → ℕ → ℕ → ℕ → ℕ → Answer
lengths_answer count fields histories switches answers rows =
    cond (ltb rows (11 * count)) (Refused WrongLength (11 * count)) (
    cond (ltb answers count) (Refused WrongLength count) (
    cond (not (eqb fields (8 * count))) (Refused WrongLength (8 * count)) (
    cond (not (eqb histories 0) && not (eqb histories (7 * count))) (Refused WrongLength (7 * count)) (
    cond (not (eqb switches 24)) (Refused WrongLength 24) (
    Accepted)))))
