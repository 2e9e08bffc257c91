-- `unfit_value` meets its contract.
use Rattle.parameter_answer.specs.ParameterAnswer.{unfit_value}
use Rattle.parameter_answer.proofs.unfit_value.Goals as goal

pub returns : goal.returns
unfolding unfit_value
returns c = simp (← c.finite.ensures)
