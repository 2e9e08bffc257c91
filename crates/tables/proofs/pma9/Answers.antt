-- `pma9` is the definition's list. Made by scripts/tables.py.
use mathlib.Core.Path.{refl}
use Rattle.tables.specs.Tables.{pma_t9}
use Rattle.tables.proofs.pma9.Goals as goal

pub returns : goal.returns
unfolding pma_t9
returns c = refl
