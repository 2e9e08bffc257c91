-- `record_in` meets its contract.
use Rattle.station_record.specs.Record.{record_in}
use mathlib.Core.Path.{◌≡◌}
use mir.Syntax.{w32}
use mir.Val.{of_z, to_z}
use borrow.Author.Rules.{rules}
use Rattle.station_record.proofs.record_in.Goals as goal

pub returns : goal.returns
unfolding record_in
returns c =
    let year : to_z w32 (of_z w32 c.whole_number-year.result) ≡ c.whole_number-year.result = search rules in
    let doy : to_z w32 (of_z w32 c.whole_number-doy.result) ≡ c.whole_number-doy.result = search rules in
    simp (year, doy) (simp (c.history_in-h.ensures, c.whole_number-doy.ensures, c.whole_number-year.ensures))
