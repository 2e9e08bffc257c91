-- `o2_mixed` meets its contract.
use Rattle.species.specs.Rooted.{o2_mixed_from}
use Rattle.species.proofs.o2_mixed.Goals as goal

pub returns : goal.returns
unfolding o2_mixed_from
returns c = simp (← c.blended_o2.ensures, ← c.gas-dd.ensures)
