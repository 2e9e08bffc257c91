-- `ptl0` is the definition's list. Made by scripts/tables.py.
use mathlib.Core.Path.{refl}
use Rattle.tables.specs.Tables.{ptl_t0}
use Rattle.tables.proofs.ptl0.Goals as goal

pub returns : goal.returns
unfolding ptl_t0
returns c = refl
