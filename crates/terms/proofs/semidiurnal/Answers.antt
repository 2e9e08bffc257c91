-- `semidiurnal` meets its contract.
use Rattle.terms.specs.Terms.{semidiurnal_of}
use mathlib.Core.Path.{refl}
use Rattle.terms.proofs.semidiurnal.Goals as goal

pub returns : goal.returns
unfolding semidiurnal_of
returns c = refl
