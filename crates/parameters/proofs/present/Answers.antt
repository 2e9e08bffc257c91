-- `present` meets its contract.
use mathlib.Core.Path.{refl}
use Rattle.parameters.specs.Parameters.{present_of}
use Rattle.parameters.proofs.present.Goals as goal

pub returns : goal.returns
unfolding present_of
returns c = refl
