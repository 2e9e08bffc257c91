-- `t3` meets its contract.
use Rattle.terms.specs.Terms.{t3_of}
use mathlib.Core.Path.{refl}
use Rattle.terms.proofs.t3.Goals as goal

pub returns : goal.returns
unfolding t3_of
returns c = refl
