-- `diurnal` meets its contract.
use Rattle.terms.specs.Terms.{diurnal_of}
use mathlib.Core.Path.{refl}
use Rattle.terms.proofs.diurnal.Goals as goal

pub returns : goal.returns
unfolding diurnal_of
returns c = refl
