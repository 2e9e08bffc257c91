-- `semidiurnal_s` meets its contract.
use Rattle.terms.specs.Terms.{semidiurnal_sof}
use mathlib.Core.Path.{refl}
use Rattle.terms.proofs.semidiurnal_s.Goals as goal

pub returns : goal.returns
unfolding semidiurnal_sof
returns c = refl
