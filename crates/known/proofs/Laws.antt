-- The call's outcomes.
use Prim.Native.Nat.{ℕ}
use mathlib.Core.Path.{◌≡◌, ◌∙◌, ap}
use mathlib.Core.Bool.{true, not}
use mathlib.Core.List.{List}
use borrow.Author.Tests.{eqb-true, not-false}
use lib.Dec.{eqb}
use lib.IntN.{ℤ}
use Rattle.refusals.specs.declared.Reason.TheVariants.{WrongLength}
use Rattle.refusals.specs.Refusals.{Answer, accepted_of}
use Rattle.setting.specs.declared.Input.{Input}
use Rattle.acceptance.specs.Refusals.{test_passed}
use Rattle.known_record.specs.KnownRecord.{only_known}
use Rattle.known.specs.Known.{known_answer, filled_answer_at, filled_is}

-- the answer that the code computed is the definition's
pub answer_known : (known : ℕ) (w : List ℤ) (n filled : Input) (len : ℕ) (a : Answer) → filled ≡ only_known known n → a ≡ filled_answer_at known w filled len → a ≡ known_answer known w n len
answer_known known w n filled len a e f = f ∙ ap (λ (z : Input). filled_answer_at known w z len) e ∙ filled_is known w n len

pub accepted_length : (known : ℕ) (w : List ℤ) (n : Input) (len : ℕ) → accepted_of (known_answer known w n len) ≡ true → len ≡ 11
unfolding known_answer
accepted_length known w n len h = eqb-true len 11 (not-false _ (test_passed (not (eqb len 11)) WrongLength 11 _ h).0)
