-- Refusal 10 in a column: one table, and one statement that covers it.
use Rattle.std.specs.Prelude.{◌≡◌, refl, List, [], ◌∷◌, map, ℤ, pos, replicate, set, Float}
use Rattle.std.specs.Float.{nan}
use Rattle.std.specs.Float.Ieee.{neg, le, lt, eq, of_bits, round}
use Rattle.numbers.specs.Literals.{dec, 0·0, 70·0, 72·5, 100·0, 400·0}
use Rattle.numbers.specs.Tests.{finite_of}
use Rattle.refusals.specs.Refusals.{Accepted, Answer, Refused}
use Rattle.refusals.specs.declared.Reason.TheVariants.{NotFinite, NotMixed, OutOfRange}
use Rattle.setting.specs.ApHistory.{asks_history_of, lacks_history_of}
use Rattle.acceptance.specs.Acceptance.{within_of, array_unfit_of, unfit_of, array_outside_of, outside_of, found_of, judged_of, unmixed_of, with_alt_of}
use Rattle.acceptance.specs.Cases.{AnswerCase, sample}
use Rattle.altitudes.specs.Altitudes.{altitudes_from, unmixed_from, judged_all_of, column_answer}

-- a column of the first published case, every switch 1 but 15, with a buffer of 100
abbrev pub column : ℤ → List Float → Answer
column fifteen alts = column_answer (set (replicate 24 (pos 1)) 15 fifteen) (sample 400·0 (neg 70·0)) alts 100

-- the lowest index below 72.5 km; not at it; not where switch 15 is 1; not before a later altitude's 3 or 2
unfoldable pub column_mixing : List AnswerCase
column_mixing =
    record { given = column (pos 0) (100·0 ∷ 70·0 ∷ 0·0 ∷ []); answer = Refused NotMixed 18 } ∷
    record { given = column (pos 0) (100·0 ∷ 72·5 ∷ []); answer = Accepted } ∷
    record { given = column (pos 1) (100·0 ∷ 0·0 ∷ []); answer = Accepted } ∷
    record { given = column (pos 2) (0·0 ∷ dec 25005 1 ∷ []); answer = Refused OutOfRange 18 } ∷
    record { given = column (pos 2) (0·0 ∷ 100·0 ∷ nan ∷ []); answer = Refused NotFinite 19 } ∷
    []

pub column_mixing_hold : map (λ (c : AnswerCase). c.given) column_mixing ≡ map (λ (c : AnswerCase). c.answer) column_mixing
unfolding column_mixing column_answer judged_all_of altitudes_from unmixed_from unmixed_of with_alt_of judged_of lacks_history_of asks_history_of outside_of array_outside_of unfit_of array_unfit_of found_of within_of finite_of dec neg le lt eq round of_bits
column_mixing_hold = refl
