-- `t3s` meets its contract.
use Rattle.terms.specs.Terms.{t3s_of}
use mathlib.Core.Path.{refl}
use Rattle.terms.proofs.t3s.Goals as goal

pub returns : goal.returns
unfolding t3s_of
returns c = refl
