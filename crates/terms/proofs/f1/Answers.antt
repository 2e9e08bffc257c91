-- `f1` meets its contract.
use Rattle.terms.specs.Terms.{f1_of}
use mathlib.Core.Path.{refl}
use Rattle.terms.proofs.f1.Goals as goal

pub returns : goal.returns
unfolding f1_of
returns c = refl
