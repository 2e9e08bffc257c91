-- The answer of the second one-altitude call (W-211), with document 02's words beside it.
use Rattle.std.specs.Prelude.{ℕ, Bool, cond, not, ◌&&◌, ◌||◌, List, [], ◌∷◌, eqb, ltb, ℤ, Option, Some, None, Float}
use Rattle.std.specs.Float.Ieee.{lt, eq}
use Rattle.numbers.specs.Literals.{0·0, 1·0, 4·0, 14·0, 16·0, 28·0, 32·0, 40·0, 72·5}
use Rattle.numbers.specs.Tests.{finite_of}
use Rattle.parameters.specs.declared.Parameters.{Parameters}
use Rattle.refusals.specs.Refusals.{Accepted, Answer, Refused, accepted_of}
use Rattle.refusals.specs.declared.Reason.TheVariants.{ConstantUnfit, NotMixed, WrongLength}
use Rattle.setting.specs.declared.Input.{Input}
use Rattle.setting.specs.Switches.{given, is_one}
use Rattle.acceptance.specs.Acceptance.{lowest, judged_of}

-- 'not finite or not above 0'
unfoldable pub unfit_value : Float → Bool
unfit_value x = not (finite_of x) || not (lt 0·0 x)

-- 'a mass of mixed air equal to 1, 4, 14, 16, 28, 32 or 40': a species' own mass
unfoldable pub of_species : Float → Bool
of_species x = eq x 1·0 || eq x 4·0 || eq x 14·0 || eq x 16·0 || eq x 28·0 || eq x 32·0 || eq x 40·0

-- 'the first of the nine, in the order named': its position from 1; 10 is none of them
unfoldable pub first_unfit : Parameters → ℕ
first_unfit c =
    lowest 1
    (unfit_value c.rgas ∷
    (unfit_value c.xmm || of_species c.xmm) ∷
    unfit_value c.he ∷
    unfit_value c.o ∷
    unfit_value c.n2 ∷
    unfit_value c.o2 ∷
    unfit_value c.ar ∷
    unfit_value c.h ∷
    unfit_value c.n ∷ []) 10

-- a position is one of the nine
unfoldable pub one_of_nine : ℕ → Bool
one_of_nine k = ltb k 10

-- that position, if it is one
abbrev pub among_nine : ℕ → Option ℕ
among_nine k = cond (one_of_nine k) (Some k) None

-- 'below 72.5 km .. wherever switch 15 isn't 1', and 'also where the N2 altitude is below 72.5'; one says whether switch 15, as given, is 1
unfoldable pub unmixed_with : Parameters → Bool → Float → Bool
unmixed_with c one z = lt z 72·5 && (not one || lt c.n2 72·5)

-- '16 .. (place, its position from 1), before every other check'; then as the one-altitude call: 4 for a row whose length is not 11, what the record
-- meets, and 10 'after the range checks, place 3'
unfoldable pub answer_with : Parameters → List ℤ → Input → ℕ → Answer
answer_with c w n len =
    cond (one_of_nine (first_unfit c)) (Refused ConstantUnfit (first_unfit c))
    (cond (not (eqb len 11)) (Refused WrongLength 11)
    (cond (not (accepted_of (judged_of w n))) (judged_of w n)
    (cond (unmixed_with c (is_one (given w 15)) n.alt) (Refused NotMixed 3) Accepted)))
