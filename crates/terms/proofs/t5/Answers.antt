-- `t5` meets its contract.
use Rattle.terms.specs.Terms.{t5_of}
use mathlib.Core.Path.{refl}
use Rattle.terms.proofs.t5.Goals as goal

pub returns : goal.returns
unfolding t5_of
returns c = refl
