-- `read_at` meets its contract.
use Rattle.layers.specs.Layers.{layer_read}
use Rattle.layers.proofs.read_at.Goals as goal

pub returns : goal.returns
unfolding layer_read
returns c = simp (← c.splini-yi.ensures, ← c.splint-y.ensures)
