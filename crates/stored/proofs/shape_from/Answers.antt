-- `shape_from` meets its contract.
use Rattle.parameters.specs.Parameters.{present_of}
use Rattle.stored.specs.Stored.{shape_in}
use Rattle.stored.proofs.shape_from.Goals as goal

pub returns : goal.returns
unfolding shape_in present_of
returns c = simp c.five_at-a.ensures
