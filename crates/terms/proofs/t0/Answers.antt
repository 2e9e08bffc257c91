-- `t0` meets its contract.
use Rattle.terms.specs.Terms.{t0_of}
use mathlib.Core.Path.{refl}
use Rattle.terms.proofs.t0.Goals as goal

pub returns : goal.returns
unfolding t0_of
returns c = refl
