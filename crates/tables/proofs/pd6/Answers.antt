-- `pd6` is the definition's list. Made by scripts/tables.py.
use mathlib.Core.Path.{refl}
use Rattle.tables.specs.Tables.{pd_t6}
use Rattle.tables.proofs.pd6.Goals as goal

pub returns : goal.returns
unfolding pd_t6
returns c = refl
