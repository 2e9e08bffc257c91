-- `long_cos` meets its contract.
use Rattle.terms.specs.Terms.{long_cos_of}
use mathlib.Core.Path.{refl}
use Rattle.terms.proofs.long_cos.Goals as goal

pub returns : goal.returns
unfolding long_cos_of
returns c = refl
