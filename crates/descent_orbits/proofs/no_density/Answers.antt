-- `no_density` meets its contract.
use Rattle.descent_orbits.proofs.Laws.{tested}
use Rattle.descent_orbits.proofs.no_density.Goals as goal

pub returns : goal.returns
returns c = tested c.args.x
