-- `spine_from` meets its contract.
use Rattle.parameters.specs.Parameters.{present_of}
use Rattle.stored.specs.Stored.{spine_in}
use Rattle.stored.proofs.spine_from.Goals as goal

pub returns : goal.returns
unfolding spine_in present_of
returns c = simp (c.five_at-y2.ensures, c.five_at-ys.ensures, c.five_at-xs.ensures, c.log-lt.ensures)
