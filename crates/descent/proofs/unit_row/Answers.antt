-- `unit_row` meets its contract.
use mathlib.Core.Path.{refl}
use Rattle.descent.specs.Descent.{unit_row}
use Rattle.descent.proofs.unit_row.Goals as goal

pub returns : goal.returns
unfolding unit_row
returns c = refl
