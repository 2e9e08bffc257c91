-- `t1s` meets its contract.
use Rattle.terms.specs.Terms.{t1s_of}
use mathlib.Core.Path.{refl}
use Rattle.terms.proofs.t1s.Goals as goal

pub returns : goal.returns
unfolding t1s_of
returns c = refl
