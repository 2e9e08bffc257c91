-- `root_of` meets its contract.
use Rattle.species.specs.Rooted.{turbopause_density_of, gas_root}
use Rattle.species.proofs.root_of.Goals as goal

pub turbopause_density-b-requires : goal.turbopause_density-b-requires
turbopause_density-b-requires c = λ e. c.requires c.if-on.true

pub returns-then-on : goal.returns-then-on
unfolding gas_root turbopause_density_of
returns-then-on c = simp (c.log-r.ensures, c.turbopause_density-b.ensures, c.if-on.true)

pub returns : goal.returns
unfolding gas_root
returns c = simp c.if-on.false
