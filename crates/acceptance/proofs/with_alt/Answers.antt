-- `with_alt` meets its contract.
use Rattle.acceptance.specs.Acceptance.{with_alt_of}
use mathlib.Core.Path.{refl}
use Rattle.acceptance.proofs.with_alt.Goals as goal

pub returns : goal.returns
unfolding with_alt_of
returns c = refl
