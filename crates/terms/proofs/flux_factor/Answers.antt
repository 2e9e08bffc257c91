-- `flux_factor` meets its contract.
use Rattle.terms.specs.Terms.{flux_factor_of}
use mathlib.Core.Path.{refl}
use Rattle.terms.proofs.flux_factor.Goals as goal

pub returns : goal.returns
unfolding flux_factor_of
returns c = refl
