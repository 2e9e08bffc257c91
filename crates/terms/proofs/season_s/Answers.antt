-- `season_s` meets its contract.
use Rattle.terms.specs.Terms.{season_sof}
use mathlib.Core.Path.{refl}
use Rattle.terms.proofs.season_s.Goals as goal

pub returns : goal.returns
unfolding season_sof
returns c = refl
