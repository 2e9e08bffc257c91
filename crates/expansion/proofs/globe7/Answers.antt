-- `globe7` meets its contract.
use Rattle.expansion_parts.specs.ExpansionParts.{day_cosines_of}
use Rattle.expansion.specs.Expansion.{globe7_value, globe7_of}
use Rattle.expansion.proofs.globe7.Goals as goal

pub returns : goal.returns
unfolding globe7_of globe7_value day_cosines_of
returns c =
    simp (← c.globe7_value-x.ensures, ← c.day_cosines-d.ensures, ← c.carried_in-c.ensures, ← c.rows-g.ensures, ← c.after-a.ensures)
