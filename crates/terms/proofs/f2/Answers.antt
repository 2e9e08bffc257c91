-- `f2` meets its contract.
use Rattle.terms.specs.Terms.{f2_of}
use mathlib.Core.Path.{refl}
use Rattle.terms.proofs.f2.Goals as goal

pub returns : goal.returns
unfolding f2_of
returns c = refl
