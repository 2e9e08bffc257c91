-- `legendre_in` meets its contract.
use Rattle.expansion_values.specs.ExpansionValues.{legendre_in}
use Rattle.expansion_values.proofs.legendre_in.Goals as goal

pub returns : goal.returns
unfolding legendre_in
returns c = c.legendre.ensures
