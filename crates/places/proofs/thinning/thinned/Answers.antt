-- `thinned` meets its contract.
use Rattle.places.specs.Thinning.{thinned_of}
use Rattle.places.proofs.Placed.{thinned_law}
use Rattle.places.proofs.thinning.thinned.Goals as goal

pub returns-then-t : goal.returns-then-t
unfolding thinned_of
returns-then-t c = simp c.if-t.true

pub returns-then-not-t : goal.returns-then-not-t
unfolding thinned_of
returns-then-not-t c = simp (c.if-not-t.true, c.if-t.false)

pub returns : goal.returns
returns c =
    thinned_law c.args.t c.args.dlb c.if-t.false c.if-not-t.false
