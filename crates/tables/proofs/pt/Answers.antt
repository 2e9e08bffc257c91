-- `pt` is the definition's list. Made by scripts/tables.py.
use mathlib.Core.Path.{refl}
use Rattle.tables.specs.Tables.{pt_t}
use Rattle.tables.proofs.pt.Goals as goal

pub returns : goal.returns
unfolding pt_t
returns c = refl
