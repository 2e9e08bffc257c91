-- `pma3` is the definition's list. Made by scripts/tables.py.
use mathlib.Core.Path.{refl}
use Rattle.tables.specs.Tables.{pma_t3}
use Rattle.tables.proofs.pma3.Goals as goal

pub returns : goal.returns
unfolding pma_t3
returns c = refl
