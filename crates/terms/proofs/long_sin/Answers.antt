-- `long_sin` meets its contract.
use Rattle.terms.specs.Terms.{long_sin_of}
use mathlib.Core.Path.{refl}
use Rattle.terms.proofs.long_sin.Goals as goal

pub returns : goal.returns
unfolding long_sin_of
returns c = refl
