-- `down` meets its contract.
use Rattle.layers.specs.Layers.{down_of}
use Rattle.layers.proofs.down.Goals as goal

pub returns : goal.returns
unfolding down_of
returns c = simp (← c.exp-k.ensures, ← c.capped-c.ensures, ← c.read_at-a.ensures, ← c.zeta-zg.ensures)
