-- `ps` is the definition's list. Made by scripts/tables.py.
use mathlib.Core.Path.{refl}
use Rattle.tables.specs.Tables.{ps_t}
use Rattle.tables.proofs.ps.Goals as goal

pub returns : goal.returns
unfolding ps_t
returns c = refl
