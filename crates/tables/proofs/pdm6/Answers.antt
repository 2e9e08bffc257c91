-- `pdm6` is the definition's list. Made by scripts/tables.py.
use mathlib.Core.Path.{refl}
use Rattle.tables.specs.Tables.{pdm_t6}
use Rattle.tables.proofs.pdm6.Goals as goal

pub returns : goal.returns
unfolding pdm_t6
returns c = refl
