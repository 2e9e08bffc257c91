-- `potirehu_station_sec` meets its contract.
use mathlib.Core.Path.{ap, ◌∙◌}
use Rattle.host_record.specs.Record.{code_of}
use Rattle.potirehu.proofs.stations.potirehu_station_sec.Goals as goal

pub returns : goal.returns
returns c = let a = c.change-a in (c.code.ensures ∙ ap code_of a.ensures.0, a.ensures.1)
