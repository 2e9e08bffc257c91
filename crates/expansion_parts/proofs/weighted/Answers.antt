-- `weighted` meets its contract.
use Rattle.expansion_parts.proofs.Sum.{weighted_law}
use Rattle.expansion_parts.proofs.weighted.Goals as goal

pub returns : goal.returns
returns c = weighted_law _ _ _ c.abs-nine.result c.requires c.abs-nine.ensures
