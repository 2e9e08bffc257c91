-- Cases of the altitude's range, and of refusal 10: a table each, and one statement that covers it.
use Rattle.std.specs.Prelude.{◌≡◌, refl, Bool, true, false, ◌&&◌, List, [], ◌∷◌, map, ℤ, pos, replicate, set, Float}
use Rattle.std.specs.Float.Ieee.{neg, le, lt, of_bits, round}
use Rattle.numbers.specs.Literals.{dec, 0·0, 4·0, 16·0, 70·0, 72·5, 100·0, 150·0, 2500·0}
use Rattle.numbers.specs.Tests.{finite_of}
use Rattle.refusals.specs.Refusals.{Accepted, Answer, Refused}
use Rattle.refusals.specs.declared.Reason.TheVariants.{NotMixed, OutOfRange}
use Rattle.setting.specs.declared.Input.{Input}
use Rattle.setting.specs.declared.History.TheVariants.{Present}
use Rattle.setting.specs.ApHistory.{asks_history_of, lacks_history_of}
use Rattle.acceptance.specs.Acceptance.{within_of, array_unfit_of, unfit_of, array_outside_of, outside_of, found_of, judged_of, unmixed_of, record_answer}

-- the first published case at an altitude and a longitude, with an array
abbrev pub sample : Float → Float → Input
sample alt long =
    record {
      year = pos 0;
      doy = pos 172;
      sec = dec 29000 0;
      alt = alt;
      g_lat = dec 60 0;
      g_long = long;
      lst = 16·0;
      f107a = 150·0;
      f107 = 150·0;
      ap = 4·0;
      history = Present;
      ap_array = 100·0 ∷ 100·0 ∷ 100·0 ∷ 100·0 ∷ 100·0 ∷ 100·0 ∷ 100·0 ∷ [];
    }

-- a case: what the definition answers, and the answer of document 01
pub record AnswerCase : Type 0 where
  pub given : Answer
  pub answer : Answer

-- alt 2,500 and 2,500.5
unfoldable pub answer_cases : List ℤ → List AnswerCase
answer_cases w =
    record { given = judged_of w (sample 2500·0 (neg 70·0)); answer = Accepted } ∷
    record { given = judged_of w (sample (dec 25005 1) (neg 70·0)); answer = Refused OutOfRange 3 } ∷
    []

-- with its array there, no row finds the history lacking
pub array_there : (b : Bool) → (b && false) ≡ false
array_there true = refl
array_there false = refl

-- for every row, each case gives its answer
pub answer_cases_hold : (w : List ℤ) → map (λ (c : AnswerCase). c.given) (answer_cases w) ≡ map (λ (c : AnswerCase). c.answer) (answer_cases w)
unfolding answer_cases judged_of lacks_history_of outside_of array_outside_of unfit_of array_unfit_of found_of within_of finite_of dec neg le lt round of_bits
answer_cases_hold w = rw (array_there (asks_history_of w)) refl

-- every switch 1 but 15
abbrev row : ℤ → List ℤ
row s = set (replicate 24 (pos 1)) 15 s

-- Refusal 10: below 72.5 km and not at it, where switch 15 is not 1 (2 is not 1), after the range checks
unfoldable pub mixing : List AnswerCase
mixing =
    record { given = record_answer (row (pos 1)) (sample 0·0 (neg 70·0)); answer = Accepted } ∷
    record { given = record_answer (row (pos 0)) (sample 72·5 (neg 70·0)); answer = Accepted } ∷
    record { given = record_answer (row (pos 0)) (sample (dec 72499 3) (neg 70·0)); answer = Refused NotMixed 3 } ∷
    record { given = record_answer (row (pos 2)) (sample 0·0 (neg 70·0)); answer = Refused NotMixed 3 } ∷
    record { given = record_answer (row (pos 0)) (sample 0·0 (neg (dec 10005 1))); answer = Refused OutOfRange 5 } ∷
    []

pub mixing_hold : map (λ (c : AnswerCase). c.given) mixing ≡ map (λ (c : AnswerCase). c.answer) mixing
unfolding mixing record_answer unmixed_of judged_of lacks_history_of asks_history_of outside_of array_outside_of unfit_of array_unfit_of found_of within_of finite_of dec neg le lt round of_bits
mixing_hold = refl
