-- `dm28m` meets its contract.
use Rattle.lower_atmosphere.specs.LowerAtmosphere.{dm28m_of}
use Rattle.lower_atmosphere.proofs.dm28m.Goals as goal

pub returns : goal.returns
unfolding dm28m_of
returns c = simp (← c.pick.ensures)
