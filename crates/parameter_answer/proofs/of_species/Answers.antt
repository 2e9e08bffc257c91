-- `of_species` meets its contract.
use mathlib.Core.Path.{refl}
use Rattle.parameter_answer.specs.ParameterAnswer.{of_species}
use Rattle.parameter_answer.proofs.of_species.Goals as goal

pub returns : goal.returns
unfolding of_species
returns c = refl
