-- `pdm2` is the definition's list. Made by scripts/tables.py.
use mathlib.Core.Path.{refl}
use Rattle.tables.specs.Tables.{pdm_t2}
use Rattle.tables.proofs.pdm2.Goals as goal

pub returns : goal.returns
unfolding pdm_t2
returns c = refl
