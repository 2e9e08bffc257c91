-- `record_of` meets its contract.
use mir.Facts.{to_z-of_z}
use Rattle.host_record.specs.Record.{record_of}
use Rattle.host_record.proofs.record_of.Goals as goal

pub returns : goal.returns
unfolding record_of
returns c =
    let F = c.ranges in
    simp (to_z-of_z F.year, to_z-of_z F.doy, ← c.values-a.ensures, ← c.history-h.ensures)
