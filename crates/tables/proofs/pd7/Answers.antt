-- `pd7` is the definition's list. Made by scripts/tables.py.
use mathlib.Core.Path.{refl}
use Rattle.tables.specs.Tables.{pd_t7}
use Rattle.tables.proofs.pd7.Goals as goal

pub returns : goal.returns
unfolding pd_t7
returns c = refl
