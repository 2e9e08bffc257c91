-- `tell` meets its contract.
use mathlib.Core.Path.{refl, ap₂, ◌∙◌}
use Prim.Native.Nat.{ℕ}
use Rattle.host_record.specs.Record.{packed_of}
use Rattle.oracle_expansion.specs.OracleExpansion.{expanded_after}
use Rattle.oracle_expansion.proofs.tell.Goals as goal

pub returns-in-Ok : goal.returns-in-Ok
unfolding expanded_after
returns-in-Ok c = rw c.in-Ok.is (refl, c.put.ensures)

pub returns-in-Err : goal.returns-in-Err
unfolding expanded_after
returns-in-Err c = rw c.in-Err.is (c.packed.ensures ∙ ap₂ (λ (n k : ℕ). packed_of n k) c.number.ensures c.place.ensures, refl)
