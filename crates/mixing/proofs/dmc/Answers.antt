-- `dmc` meets its contract.
use Rattle.mixing.specs.Mixing.{dmc_of}
use Rattle.mixing.proofs.dmc.Goals as goal

pub returns : goal.returns
unfolding dmc_of
returns c = simp (← c.pick.ensures)
