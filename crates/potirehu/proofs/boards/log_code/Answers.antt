-- `log_code` meets its contract.
use mathlib.Core.Path.{sym, ◌∙◌, ap, ap₂}
use Prim.Native.Nat.{ℕ}
use Rattle.host_record.specs.Record.{packed_of, code_of}
use Rattle.potirehu.specs.Boards.{log_code_of}
use Rattle.potirehu.proofs.boards.log_code.Goals as goal

pub returns-in-Err : goal.returns-in-Err
returns-in-Err c = c.packed.ensures ∙ ap₂ (λ (n k : ℕ). packed_of n k) c.number.ensures c.place.ensures ∙ sym (ap log_code_of c.in-Err.is)
