-- `footing_from` meets its contract.
use Rattle.stored.specs.Stored.{footing_in}
use Rattle.stored.proofs.footing_from.Goals as goal

pub returns : goal.returns
unfolding footing_in
returns c = simp (c.present-c.ensures, c.span_from-v.ensures, c.span_from-u.ensures)
