-- `code` meets its contract.
use Rattle.std.specs.Prelude.{refl}
use Rattle.std.proofs.Common.{◌∙◌}
use Rattle.host_record.specs.Record.{code_of}
use Rattle.host_record.proofs.code.Goals as goal

pub returns-in-Ok : goal.returns-in-Ok
unfolding code_of
returns-in-Ok c = rw c.in-Ok.is refl

pub returns-in-Err : goal.returns-in-Err
unfolding code_of
returns-in-Err c = c.packed.ensures ∙ rw (c.in-Err.is, c.number.ensures) refl
