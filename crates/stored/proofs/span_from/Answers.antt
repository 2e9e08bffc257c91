-- `span_from` meets its contract.
use Rattle.stored.specs.Stored.{span_in}
use Rattle.stored.proofs.span_from.Goals as goal

pub returns : goal.returns
unfolding span_in
returns c = simp (c.five_at-y2.ensures, c.five_at-ys.ensures, c.five_at-xs.ensures)
