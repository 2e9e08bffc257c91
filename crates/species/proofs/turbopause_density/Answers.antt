-- `turbopause_density` meets its contract.
use Rattle.species.specs.Rooted.{turbopause_density_of}
use Rattle.species.proofs.turbopause_density.Goals as goal

pub gas-requires : goal.gas-requires
gas-requires c = c.requires c.if-on.true

pub returns-then-on : goal.returns-then-on
unfolding turbopause_density_of
returns-then-on c = simp (← c.gas.ensures) (simp c.if-on.true)

pub returns : goal.returns
unfolding turbopause_density_of
returns c = simp c.if-on.false
