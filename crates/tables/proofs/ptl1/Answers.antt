-- `ptl1` is the definition's list. Made by scripts/tables.py.
use mathlib.Core.Path.{refl}
use Rattle.tables.specs.Tables.{ptl_t1}
use Rattle.tables.proofs.ptl1.Goals as goal

pub returns : goal.returns
unfolding ptl_t1
returns c = refl
