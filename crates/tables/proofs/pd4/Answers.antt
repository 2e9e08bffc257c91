-- `pd4` is the definition's list. Made by scripts/tables.py.
use mathlib.Core.Path.{refl}
use Rattle.tables.specs.Tables.{pd_t4}
use Rattle.tables.proofs.pd4.Goals as goal

pub returns : goal.returns
unfolding pd_t4
returns c = refl
