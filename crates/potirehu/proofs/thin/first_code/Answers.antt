-- `first_code` meets its contract.
use Prim.Native.Nat.{ℕ}
use mathlib.Core.Path.{sym, ◌∙◌, ap}
use Rattle.host_record.specs.Record.{packed_of}
use Rattle.potirehu.specs.FirstBelow.{first_code}
use Rattle.potirehu.proofs.thin.first_code.Goals as goal

pub returns-in-Err : goal.returns-in-Err
returns-in-Err c = c.packed.ensures ∙ ap (λ (n : ℕ). packed_of n c.in-Err.r.place) c.number.ensures ∙ sym (ap first_code c.in-Err.is)
