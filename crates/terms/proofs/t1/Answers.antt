-- `t1` meets its contract.
use Rattle.terms.specs.Terms.{t1_of}
use mathlib.Core.Path.{refl}
use Rattle.terms.proofs.t1.Goals as goal

pub returns : goal.returns
unfolding t1_of
returns c = refl
