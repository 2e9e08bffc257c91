-- `spine_of` meets its contract.
use Rattle.places.specs.Place.{spine_of}
use Rattle.places.proofs.place.spine_of.Goals as goal

pub returns : goal.returns
unfolding spine_of
returns c =
    simp (
      ← c.first_five-y2.ensures,
      ← c.first_five-ys.ensures,
      ← c.first_five-xs.ensures,
      ← c.pow-g.ensures,
      ← c.pow-q.ensures,
      ← c.layer-l.ensures,
      ← c.gradient-dta.ensures,
      ← c.log-lt.ensures,
      ← c.bates-tt.ensures,
      ← c.zeta-zg2.ensures,
    )
