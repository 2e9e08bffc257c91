-- `pd3` is the definition's list. Made by scripts/tables.py.
use mathlib.Core.Path.{refl}
use Rattle.tables.specs.Tables.{pd_t3}
use Rattle.tables.proofs.pd3.Goals as goal

pub returns : goal.returns
unfolding pd_t3
returns c = refl
