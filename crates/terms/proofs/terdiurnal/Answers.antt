-- `terdiurnal` meets its contract.
use Rattle.terms.specs.Terms.{terdiurnal_of}
use mathlib.Core.Path.{refl}
use Rattle.terms.proofs.terdiurnal.Goals as goal

pub returns : goal.returns
unfolding terdiurnal_of
returns c = refl
