-- `ut_long` meets its contract.
use Rattle.terms.specs.Terms.{ut_long_of}
use mathlib.Core.Path.{refl}
use Rattle.terms.proofs.ut_long.Goals as goal

pub returns : goal.returns
unfolding ut_long_of
returns c = refl
