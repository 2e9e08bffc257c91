-- `diurnal_s` meets its contract.
use Rattle.terms.specs.Terms.{diurnal_sof}
use mathlib.Core.Path.{refl}
use Rattle.terms.proofs.diurnal_s.Goals as goal

pub returns : goal.returns
unfolding diurnal_sof
returns c = refl
