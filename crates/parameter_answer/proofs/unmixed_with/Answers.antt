-- `unmixed_with` meets its contract.
use mathlib.Core.Path.{refl}
use Rattle.parameter_answer.specs.ParameterAnswer.{unmixed_with}
use Rattle.parameter_answer.proofs.unmixed_with.Goals as goal

pub returns : goal.returns
unfolding unmixed_with
returns c = refl
