-- `t4s` meets its contract.
use Rattle.terms.specs.Terms.{t4s_of}
use mathlib.Core.Path.{refl}
use Rattle.terms.proofs.t4s.Goals as goal

pub returns : goal.returns
unfolding t4s_of
returns c = refl
