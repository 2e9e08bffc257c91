-- Nine constants out of a slice, and the order in which the call that takes them refuses its slices.
use Rattle.std.specs.Prelude.{ℕ, cond, not, List, eqb, ℤ, length, Float}
use Rattle.numbers.specs.Arithmetic.{◌‼◌}
use Rattle.parameters.specs.declared.Parameters.{Parameters}
use Rattle.refusals.specs.Refusals.{Answer, Refused}
use Rattle.refusals.specs.declared.Reason.TheVariants.{ConstantUnfit, WrongLength}
use Rattle.parameter_answer.specs.ParameterAnswer.{first_unfit, one_of_nine}
use Rattle.host_record.specs.Record.{lengths_of}

-- the gas constant, the mass of mixed air, then the altitudes 'in the order He, O, N2, O2, Ar, H, N'
unfoldable pub nine_of : List Float → Parameters
nine_of x =
    record { rgas = x ‼ 0; xmm = x ‼ 1; he = x ‼ 2; o = x ‼ 3; n2 = x ‼ 4; o2 = x ‼ 5; ar = x ‼ 6; h = x ‼ 7; n = x ‼ 8 }

-- 4 for the nine themselves, which must be there to be judged; 16 'before every other check'; 4 for the row, for the record's slices; then the rest
unfoldable pub lengths_with : List Float → ℕ → List Float → List Float → List ℤ → Answer → Answer
lengths_with x len f l w rest =
    cond (not (eqb (length x) 9)) (Refused WrongLength 9)
    (cond (one_of_nine (first_unfit (nine_of x))) (Refused ConstantUnfit (first_unfit (nine_of x)))
    (cond (not (eqb len 11)) (Refused WrongLength 11) (lengths_of f l w rest)))
