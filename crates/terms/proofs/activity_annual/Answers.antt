-- `activity_annual` meets its contract.
use Rattle.terms.specs.Terms.{activity_annual_of}
use mathlib.Core.Path.{refl}
use Rattle.terms.proofs.activity_annual.Goals as goal

pub returns : goal.returns
unfolding activity_annual_of
returns c = refl
