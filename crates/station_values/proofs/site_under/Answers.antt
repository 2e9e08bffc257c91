-- `site_under` meets its contract.
use Rattle.station_values.specs.StationValues.{site_under}
use Rattle.station_values.proofs.site_under.Goals as goal

pub returns : goal.returns
unfolding site_under
returns c = simp (c.site_of.ensures, c.day-doy.ensures)
