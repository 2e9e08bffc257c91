-- `activity_long` meets its contract.
use Rattle.terms.specs.Terms.{activity_long_of}
use mathlib.Core.Path.{refl}
use Rattle.terms.proofs.activity_long.Goals as goal

pub returns : goal.returns
unfolding activity_long_of
returns c = refl
