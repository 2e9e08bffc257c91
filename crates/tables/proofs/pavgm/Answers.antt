-- `pavgm` is the definition's list. Made by scripts/tables.py.
use mathlib.Core.Path.{refl}
use Rattle.tables.specs.Tables.{pavgm_t}
use Rattle.tables.proofs.pavgm.Goals as goal

pub returns : goal.returns
unfolding pavgm_t
returns c = refl
