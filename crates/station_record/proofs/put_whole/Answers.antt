-- `put_whole` meets its contract: year, doy and the mark come first, the switches behind them.
use mathlib.Core.Path.{◌≡◌}
use borrow.Author.Rules.{rules}
use mir.Syntax.{w32}
use mir.Val.{of_z, to_z}
use Rattle.station_record.specs.Record.{station_whole}
use Rattle.station_record.proofs.Laws.{first_three}
use Rattle.station_record.proofs.put_whole.Goals as goal

pub returns : goal.returns
unfolding station_whole
returns c =
    let A = c.args in
    let year : to_z w32 (of_z w32 A.n.year) ≡ A.n.year = search rules in
    let doy : to_z w32 (of_z w32 A.n.doy) ≡ A.n.doy = search rules in
    let mark : to_z w32 (of_z w32 c.mark.result) ≡ c.mark.result = search rules in
    rw (c.copy_from_slice.ensures.after, year, doy, mark, c.mark.ensures) (first_three A.whole.now A.w _ _ _ c.requires)
