-- `glob7s` meets its contract.
use Rattle.expansion_parts.specs.ExpansionParts.{day_cosines_of, longitude_cosines_of}
use Rattle.expansion.specs.Expansion.{glob7s_from, glob7s_of}
use Rattle.expansion.proofs.glob7s.Goals as goal

pub returns : goal.returns
unfolding glob7s_of glob7s_from day_cosines_of longitude_cosines_of
returns c =
    simp (← c.glob7s_from.ensures, ← c.longitude_cosines-e.ensures, ← c.day_cosines-d.ensures, ← c.carried_in-c.ensures, ← c.rows-g.ensures)
