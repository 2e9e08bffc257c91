-- `ut_mean` meets its contract.
use Rattle.terms.specs.Terms.{ut_mean_of}
use mathlib.Core.Path.{refl}
use Rattle.terms.proofs.ut_mean.Goals as goal

pub returns : goal.returns
unfolding ut_mean_of
returns c = refl
