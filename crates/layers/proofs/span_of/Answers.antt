-- `span_of` meets its contract.
use Rattle.layers.specs.Layers.{span_of}
use Rattle.layers.proofs.span_of.Goals as goal

pub returns : goal.returns
unfolding span_of
returns c = simp (← c.first_five-y2.ensures, ← c.first_five-ys.ensures, ← c.first_five-xs.ensures, ← c.pow-q.ensures)
