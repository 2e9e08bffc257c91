-- `potirehu_logs` meets its contract.
use Rattle.host_record.specs.Record.{code_of}
use mathlib.Core.Path.{◌∙◌, ap}
use Rattle.potirehu.specs.Boards.{log_code_of}
use Rattle.potirehu.proofs.boards.potirehu_logs.Goals as goal

pub returns : goal.returns
returns c =
    let held = c.held_in-a in
    (c.log_code.ensures ∙ ap log_code_of held.ensures.0, held.ensures.1)
