-- `pma4` is the definition's list. Made by scripts/tables.py.
use mathlib.Core.Path.{refl}
use Rattle.tables.specs.Tables.{pma_t4}
use Rattle.tables.proofs.pma4.Goals as goal

pub returns : goal.returns
unfolding pma_t4
returns c = refl
