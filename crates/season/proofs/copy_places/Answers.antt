-- `copy_places` meets its contract.
use mathlib.Core.Path.{refl}
use Rattle.season.specs.Season.{copied_places}
use Rattle.season.proofs.copy_places.Goals as goal

pub returns : goal.returns
unfolding copied_places
returns c = refl
