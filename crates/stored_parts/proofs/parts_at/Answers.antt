-- `parts_at` meets its contract.
use Rattle.stored_parts.specs.Parts.{parts_at}
use Rattle.stored_parts.proofs.parts_at.Goals as goal

pub returns : goal.returns
unfolding parts_at
returns c = simp (c.below_300-under.ensures, c.above_za-high.ensures, c.above_summit-above.ensures, c.from_summit-reached.ensures)
