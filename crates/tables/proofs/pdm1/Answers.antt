-- `pdm1` is the definition's list. Made by scripts/tables.py.
use mathlib.Core.Path.{refl}
use Rattle.tables.specs.Tables.{pdm_t1}
use Rattle.tables.proofs.pdm1.Goals as goal

pub returns : goal.returns
unfolding pdm_t1
returns c = refl
