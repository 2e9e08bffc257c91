-- What an answer to a column says of the lent buffer and of the number of altitudes: 4 is for a buffer that is too short, and for nothing else.
use Rattle.std.specs.Prelude.{ℕ, ◌+◌, ◌*◌, ◌≤◌, ◌<◌, ◌≡◌, refl, Bool, true, false, cond, not, List, [], ◌∷◌, ltb, ℤ, length, Float, Err, Ok}
use Rattle.std.proofs.Common.{ap, arith, sym, ltb-false, ltb-true}
use Rattle.refusals.specs.Refusals.{Accepted, Answer, Refused, accepted_of, refusal_place}
use Rattle.refusals.specs.declared.Reason.{Reason}
use Rattle.refusals.specs.declared.Reason.TheVariants.{NotFinite, NotMixed, OutOfRange, TooMany, WrongLength}
use Rattle.setting.specs.declared.Input.{Input}
use Rattle.numbers.specs.Literals.{0·0, 2500·0}
use Rattle.numbers.specs.Tests.{finite_of}
use Rattle.setting.specs.Switches.{given, is_one}
use Rattle.acceptance.specs.Acceptance.{within_of, unmixed_of, judged_of, with_alt_of}
use Rattle.acceptance.specs.Refusals.{test_passed, Never, accepted_never, then_never, judged_never_4}
use Rattle.altitudes.specs.Altitudes.{altitudes_from, unmixed_from, judged_all_of, column_answer}

-- An accepted column has at most 512 altitudes.
pub at_most_512 : (w : List ℤ) (n : Input) (alts : List Float) (len : ℕ) → accepted_of (column_answer w n alts len) ≡ true → length alts ≤ 512
unfolding column_answer
at_most_512 w n alts len h = ltb-false 512 (length alts) (test_passed (ltb 512 (length alts)) TooMany 512 _ h).0

-- ---- 4

altitudes_never_4 : (k : ℕ) (zs : List Float) → Never WrongLength (altitudes_from k zs)
unfolding altitudes_from
altitudes_never_4 k [] = accepted_never WrongLength
altitudes_never_4 k (z ∷ zs) =
    then_never (not (finite_of z)) WrongLength NotFinite (17 + k) _ (λ e. omega arith)
    (then_never (not (within_of 0·0 2500·0 z)) WrongLength OutOfRange (17 + k) _ (λ e. omega arith)
    (altitudes_never_4 (k + 1) zs))

unmixed_never_4 : (one : Bool) (k : ℕ) (zs : List Float) → Never WrongLength (unmixed_from one k zs)
unfolding unmixed_from
unmixed_never_4 one k [] = accepted_never WrongLength
unmixed_never_4 one k (z ∷ zs) = then_never (unmixed_of one z) WrongLength NotMixed (17 + k) _ (λ e. omega arith) (unmixed_never_4 one (k + 1) zs)

first_never : (i : Reason) (a rest : Answer) → Never i a → Never i rest → Never i (cond (not (accepted_of a)) a rest)
first_never i (Ok v) rest h g = g
first_never i (Err r) rest h g = h

judged_all_never_4 : (w : List ℤ) (n : Input) (alts : List Float) → Never WrongLength (judged_all_of w n alts)
unfolding judged_all_of
judged_all_never_4 w n alts =
    first_never WrongLength (judged_of w (with_alt_of n 0·0)) _ (judged_never_4 w (with_alt_of n 0·0))
    (first_never WrongLength (altitudes_from 0 alts) _ (altitudes_never_4 0 alts) (unmixed_never_4 (is_one (given w 15)) 0 alts))

-- A column that is refused with 4 has a buffer shorter than 11 times its altitudes, and the place is the length needed.
pub room_told : (w : List ℤ) (n : Input) (alts : List Float) (len k : ℕ) → column_answer w n alts len ≡ Refused WrongLength k → (len < 11 * length alts) × (k ≡ 11 * length alts)
unfolding column_answer
room_told w n alts len k e = many (ltb 512 (length alts)) e
  where
    short : (b : Bool) → ltb len (11 * length alts) ≡ b → cond b (Refused WrongLength (11 * length alts)) (judged_all_of w n alts) ≡ Refused WrongLength k
        → (len < 11 * length alts) × (k ≡ 11 * length alts)
    short true t f = (ltb-true len (11 * length alts) t, sym (ap refusal_place f))
    short false t f = absurd (judged_all_never_4 w n alts k f)

    many : (b : Bool) → cond b (Refused TooMany 512) (cond (ltb len (11 * length alts)) (Refused WrongLength (11 * length alts)) (judged_all_of w n alts)) ≡ Refused WrongLength k
        → (len < 11 * length alts) × (k ≡ 11 * length alts)
    many true f = absurd (then_never true WrongLength TooMany 512 Accepted (λ g. omega arith) (accepted_never WrongLength) k f)
    many false f = short (ltb len (11 * length alts)) refl f

-- so 4 cannot occur where there is room for the rows, as in a call that is lent none
pub room_never_4 : (w : List ℤ) (n : Input) (alts : List Float) → Never WrongLength (column_answer w n alts (11 * length alts))
room_never_4 w n alts k e = let h = (room_told w n alts (11 * length alts) k e).0 in omega arith
