-- `first_unfit` meets its contract.
use Rattle.std.specs.Prelude.{position, Bool, ◌∷◌, []}
use Rattle.std.proofs.Common.{sym, ◌∙◌, ap}
use Rattle.parameter_answer.specs.ParameterAnswer.{first_unfit}
use Rattle.parameter_answer.proofs.Nine.{nine_some, nine_none}
use Rattle.parameter_answer.proofs.first_unfit.Goals as goal

pub returns-in-Some : goal.returns-in-Some
unfolding first_unfit
returns-in-Some c =
    simp (← c.of_species.ensures, ← c.unfit_value.ensures, ← c.unfit_value-2.ensures, ← c.unfit_value-3.ensures, ← c.unfit_value-4.ensures, ← c.unfit_value-5.ensures, ← c.unfit_value-6.ensures, ← c.unfit_value-7.ensures, ← c.unfit_value-8.ensures, ← c.unfit_value-9.ensures)
    (nine_some _ _ _ _ _ _ _ _ _ _ (sym c.first_passed.ensures ∙ c.in-Some.is))

pub returns-in-None : goal.returns-in-None
unfolding first_unfit
returns-in-None c =
    simp (← c.of_species.ensures, ← c.unfit_value.ensures, ← c.unfit_value-2.ensures, ← c.unfit_value-3.ensures, ← c.unfit_value-4.ensures, ← c.unfit_value-5.ensures, ← c.unfit_value-6.ensures, ← c.unfit_value-7.ensures, ← c.unfit_value-8.ensures, ← c.unfit_value-9.ensures)
    (nine_none _ _ _ _ _ _ _ _ _ (sym c.first_passed.ensures ∙ c.in-None.is))
