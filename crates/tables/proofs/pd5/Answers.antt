-- `pd5` is the definition's list. Made by scripts/tables.py.
use mathlib.Core.Path.{refl}
use Rattle.tables.specs.Tables.{pd_t5}
use Rattle.tables.proofs.pd5.Goals as goal

pub returns : goal.returns
unfolding pd_t5
returns c = refl
