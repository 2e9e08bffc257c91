-- `long_cos_s` meets its contract.
use Rattle.terms.specs.Terms.{long_cos_sof}
use mathlib.Core.Path.{refl}
use Rattle.terms.proofs.long_cos_s.Goals as goal

pub returns : goal.returns
unfolding long_cos_sof
returns c = refl
