-- What an accepted answer says of the refusals before it, and which number an answer can have.
use Rattle.std.specs.Prelude.{ℕ, ◌≡◌, refl, Bool, true, false, cond, List, ℤ}
use Rattle.std.proofs.Common.{ap, arith, sym}
use Rattle.std.proofs.lemmas.Bool.{false≢true}
use Rattle.refusals.specs.Refusals.{Accepted, Answer, Refused, accepted_of, number_of, refusal_number}
use Rattle.refusals.specs.declared.Reason.{Reason}
use Rattle.refusals.specs.declared.Reason.TheVariants.{HistoryLacking, NotFinite, OutOfRange, WrongLength}
use Rattle.setting.specs.declared.Input.{Input}
use Rattle.setting.specs.ApHistory.{lacks_history_of}
use Rattle.acceptance.specs.Acceptance.{unfit_of, outside_of, found_of, judged_of}

pub no_refusal : (c : Bool) (n : Reason) (k : ℕ) (x : Answer) → cond c (Refused n k) x ≡ Accepted → (c ≡ false) × (x ≡ Accepted)
no_refusal true n k x e = absurd (false≢true (ap accepted_of e))
no_refusal false n k x e = (refl, e)

-- the same by the test
pub test_passed : (c : Bool) (n : Reason) (k : ℕ) (x : Answer) → accepted_of (cond c (Refused n k) x) ≡ true → (c ≡ false) × (accepted_of x ≡ true)
test_passed true n k x h = absurd (false≢true h)
test_passed false n k x h = (refl, h)

-- ---- which reason an answer has

-- an answer that is no refusal for the reason i
abbrev pub Never : Reason → Answer → Type 0
Never i a = (k : ℕ) → a ≡ Refused i k → ⊥

pub accepted_never : (i : Reason) → Never i Accepted
accepted_never i k e = false≢true (sym (ap accepted_of e))

-- a refusal for another reason, then the rest
pub then_never : (c : Bool) (i n : Reason) (k : ℕ) (x : Answer) → (number_of n ≡ number_of i → ⊥) → Never i x → Never i (cond c (Refused n k) x)
then_never true i n k x other rest j e = other (ap refusal_number e)
then_never false i n k x other rest j e = rest j e

-- a record's answer is 2, 1, 3 or none: 4 is for lengths alone
pub judged_never_4 : (w : List ℤ) (n : Input) → Never WrongLength (judged_of w n)
unfolding judged_of
judged_never_4 w n =
    then_never (found_of (unfit_of n)) WrongLength NotFinite (unfit_of n) _ (λ e. omega arith)
    (then_never (lacks_history_of w n) WrongLength HistoryLacking 10 _ (λ e. omega arith)
    (then_never (found_of (outside_of n)) WrongLength OutOfRange (outside_of n) Accepted (λ e. omega arith)
    (accepted_never WrongLength)))
