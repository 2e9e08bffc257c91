-- `fresh` is the definition's State.
use mathlib.Core.Path.{refl}
use Rattle.setting.specs.State.{fresh_of}
use Rattle.setting.proofs.fresh.Goals as goal

pub returns : goal.returns
unfolding fresh_of
returns c = refl
