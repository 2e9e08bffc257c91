-- `pd8` is the definition's list. Made by scripts/tables.py.
use mathlib.Core.Path.{refl}
use Rattle.tables.specs.Tables.{pd_t8}
use Rattle.tables.proofs.pd8.Goals as goal

pub returns : goal.returns
unfolding pd_t8
returns c = refl
