-- `pdl0` is the definition's list. Made by scripts/tables.py.
use mathlib.Core.Path.{refl}
use Rattle.tables.specs.Tables.{pdl_t0}
use Rattle.tables.proofs.pdl0.Goals as goal

pub returns : goal.returns
unfolding pdl_t0
returns c = refl
