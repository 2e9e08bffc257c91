-- `pma7` is the definition's list. Made by scripts/tables.py.
use mathlib.Core.Path.{refl}
use Rattle.tables.specs.Tables.{pma_t7}
use Rattle.tables.proofs.pma7.Goals as goal

pub returns : goal.returns
unfolding pma_t7
returns c = refl
