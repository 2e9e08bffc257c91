-- `globe7_season` meets its contract.
use Rattle.season.specs.Season.{globe7_season}
use Rattle.season.proofs.globe7_season.Goals as goal

pub returns-then-n : goal.returns-then-n
unfolding globe7_season
returns-then-n c = rw c.if-n.true c.fill_places.ensures

pub returns-then-n-2 : goal.returns-then-n-2
unfolding globe7_season
returns-then-n-2 c =
    rw (c.if-n.false, c.if-n-2.true) (rw c.fill_places-2.ensures at c.fill_places-then-n-2.ensures)

pub returns : goal.returns
unfolding globe7_season
returns c =
    rw (c.if-n.false, c.if-n-2.false)
    (rw c.fill_places-2.ensures at (rw c.fill_places-3.ensures at c.fill_places-4.ensures))
