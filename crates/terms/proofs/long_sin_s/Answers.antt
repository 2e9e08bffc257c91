-- `long_sin_s` meets its contract.
use Rattle.terms.specs.Terms.{long_sin_sof}
use mathlib.Core.Path.{refl}
use Rattle.terms.proofs.long_sin_s.Goals as goal

pub returns : goal.returns
unfolding long_sin_sof
returns c = refl
