-- `activity_ut` meets its contract.
use Rattle.terms.specs.Terms.{activity_ut_of}
use mathlib.Core.Path.{refl}
use Rattle.terms.proofs.activity_ut.Goals as goal

pub returns : goal.returns
unfolding activity_ut_of
returns c = refl
