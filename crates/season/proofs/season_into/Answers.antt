-- `season_into` meets its contract.
use Rattle.season.specs.Season.{season_into}
use Rattle.season.proofs.season_into.Goals as goal

pub returns : goal.returns
unfolding season_into
returns c =
    rw c.globe7_season.ensures at (rw c.copy_places.ensures at c.glob7s_season.ensures)
