-- `ptm` is the definition's list. Made by scripts/tables.py.
use mathlib.Core.Path.{refl}
use Rattle.tables.specs.Tables.{ptm_t}
use Rattle.tables.proofs.ptm.Goals as goal

pub returns : goal.returns
unfolding ptm_t
returns c = refl
