-- `t4` meets its contract.
use Rattle.terms.specs.Terms.{t4_of}
use mathlib.Core.Path.{refl}
use Rattle.terms.proofs.t4.Goals as goal

pub returns : goal.returns
unfolding t4_of
returns c = refl
