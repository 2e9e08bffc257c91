-- `need_at` meets its contract.
use Rattle.needed_sets.specs.NeededSets.{need_at}
use Rattle.needed_sets.proofs.need_at.Goals as goal

pub returns : goal.returns
unfolding need_at
returns c = simp (c.pick-z.ensures, c.pdl1-l.ensures)
