-- `pd2` is the definition's list. Made by scripts/tables.py.
use mathlib.Core.Path.{refl}
use Rattle.tables.specs.Tables.{pd_t2}
use Rattle.tables.proofs.pd2.Goals as goal

pub returns : goal.returns
unfolding pd_t2
returns c = refl
