-- `terdiurnal_s` meets its contract.
use Rattle.terms.specs.Terms.{terdiurnal_sof}
use mathlib.Core.Path.{refl}
use Rattle.terms.proofs.terdiurnal_s.Goals as goal

pub returns : goal.returns
unfolding terdiurnal_sof
returns c = refl
