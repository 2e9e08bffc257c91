-- `lst_shut` meets its contract.
use Rattle.counts.proofs.lst_shut.Goals as goal

pub returns : goal.returns
returns c =
    rw (c.is_one-fourteen.ensures, c.is_one-eight.ensures, c.above_zero-seven_above_zero.ensures, c.is_one-seven.ensures, c.nine_is_zero-no_activity.ensures)
