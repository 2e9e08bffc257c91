-- `meso_stage` meets its contract.
use Rattle.lower_atmosphere.specs.LowerAtmosphere.{meso_plan}
use Rattle.lower_atmosphere.proofs.meso_stage.Goals as goal

pub returns : goal.returns
unfolding meso_plan
returns c = c.meso_nodes.ensures
