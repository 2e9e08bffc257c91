-- Document 01's refusals of a column in order, with document 02's 10.
use Rattle.std.specs.Prelude.{ℕ, ◌+◌, ◌*◌, Bool, cond, not, List, [], ◌∷◌, ltb, ℤ, length, Float}
use Rattle.numbers.specs.Literals.{0·0, 2500·0}
use Rattle.numbers.specs.Tests.{finite_of}
use Rattle.refusals.specs.Refusals.{Accepted, Answer, Refused, accepted_of}
use Rattle.refusals.specs.declared.Reason.TheVariants.{NotFinite, NotMixed, OutOfRange, TooMany, WrongLength}
use Rattle.setting.specs.declared.Input.{Input}
use Rattle.setting.specs.Switches.{given, is_one}
use Rattle.acceptance.specs.Acceptance.{within_of, judged_of, unmixed_of, with_alt_of}

-- each altitude in order, the first of them with the index k: 2, else 3; place 17 plus the index
unfoldable pub altitudes_from : ℕ → List Float → Answer
altitudes_from k [] = Accepted
altitudes_from k (z ∷ zs) =
    cond (not (finite_of z)) (Refused NotFinite (17 + k))
    (cond (not (within_of 0·0 2500·0 z)) (Refused OutOfRange (17 + k))
    (altitudes_from (k + 1) zs))

-- 10, '17 plus the lowest such index': an altitude below 72.5 km, where switch 15 isn't 1; one says whether it is
unfoldable pub unmixed_from : Bool → ℕ → List Float → Answer
unmixed_from one k [] = Accepted
unmixed_from one k (z ∷ zs) = cond (unmixed_of one z) (Refused NotMixed (17 + k)) (unmixed_from one (k + 1) zs)

-- the record, its own altitude not looked at; each altitude's 2 or 3; 'once all altitudes have passed those', 10
unfoldable pub judged_all_of : List ℤ → Input → List Float → Answer
judged_all_of w n alts =
    let a = judged_of w (with_alt_of n 0·0) in
    cond (not (accepted_of a)) a
    (cond (not (accepted_of (altitudes_from 0 alts))) (altitudes_from 0 alts)
    (unmixed_from (is_one (given w 15)) 0 alts))

-- 5 for more than 512 altitudes; 4 for a buffer shorter than 11 times the count; then the record and the altitudes
unfoldable pub column_answer : List ℤ → Input → List Float → ℕ → Answer
column_answer w n alts len =
    cond (ltb 512 (length alts)) (Refused TooMany 512)
    (cond (ltb len (11 * length alts)) (Refused WrongLength (11 * length alts))
    (judged_all_of w n alts))
