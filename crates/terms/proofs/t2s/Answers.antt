-- `t2s` meets its contract.
use Rattle.terms.specs.Terms.{t2s_of}
use mathlib.Core.Path.{refl}
use Rattle.terms.proofs.t2s.Goals as goal

pub returns : goal.returns
unfolding t2s_of
returns c = refl
