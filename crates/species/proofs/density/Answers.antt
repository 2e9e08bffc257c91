-- `density` meets its contract.
use mathlib.Core.Path.{◌∙◌}
use Rattle.species.specs.Rooted.{gas_is}
use Rattle.species.proofs.Laws.{logged_at}
use Rattle.species.proofs.density.Goals as goal

pub gas-requires : goal.gas-requires
gas-requires c = logged_at c.args.h c.args.z c.args.p c.requires

pub returns : goal.returns
returns c = let A = c.args in
    c.gas.ensures ∙ gas_is A.h A.z A.p c.requires A.dlb A.xm A.alpha
