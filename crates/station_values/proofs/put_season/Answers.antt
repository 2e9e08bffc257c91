-- `put_season` meets its contract.
use mathlib.Core.Path.{ap₂, ◌∙◌}
use mathlib.Core.Bool.{true}
use lib.Ieee.{Float}
use Rattle.needed_sets.specs.declared.Need.{Need}
use Rattle.season.specs.Season.{season_into}
use Rattle.station_values.specs.WholeSeason.{season_again}
use Rattle.station_values.proofs.put_season.Goals as goal

pub returns : goal.returns
returns c =
    let s = c.args.s.now in
    c.season_into.ensures ∙ ap₂ (λ (d : Float) (a : Need). season_into d a true s) c.day-doy.ensures c.all_sets-a.ensures ∙ season_again _ s c.requires
