-- `daily_s` meets its contract.
use Rattle.terms.specs.Terms.{daily_sof}
use mathlib.Core.Path.{refl}
use Rattle.terms.proofs.daily_s.Goals as goal

pub returns : goal.returns
unfolding daily_sof
returns c = refl
