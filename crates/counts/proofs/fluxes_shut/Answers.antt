-- `fluxes_shut` meets its contract.
use Rattle.counts.proofs.fluxes_shut.Goals as goal

pub returns : goal.returns
returns c = rw c.above_zero-one_above_zero.ensures
