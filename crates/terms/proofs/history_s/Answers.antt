-- `history_s` meets its contract.
use Rattle.terms.specs.Terms.{history_sof}
use mathlib.Core.Path.{refl}
use Rattle.terms.proofs.history_s.Goals as goal

pub returns : goal.returns
unfolding history_sof
returns c = refl
