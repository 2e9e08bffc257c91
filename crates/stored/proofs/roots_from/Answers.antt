-- `roots_from` meets its contract.
use Rattle.stored.specs.Stored.{roots_in}
use Rattle.stored.proofs.roots_from.Goals as goal

pub returns : goal.returns
unfolding roots_in
returns c = simp (c.root_at-n.ensures, c.root_at-h.ensures, c.root_at-ar.ensures, c.root_at-o2.ensures, c.root_at-o.ensures, c.root_at-he.ensures, c.root_at-n2.ensures)
