-- `pdm4` is the definition's list. Made by scripts/tables.py.
use mathlib.Core.Path.{refl}
use Rattle.tables.specs.Tables.{pdm_t4}
use Rattle.tables.proofs.pdm4.Goals as goal

pub returns : goal.returns
unfolding pdm_t4
returns c = refl
