-- `ap_shut` meets its contract.
use Rattle.setting.specs.ApHistory.{asks_history_of}
use Rattle.counts.proofs.ap_shut.Goals as goal

pub returns : goal.returns
unfolding asks_history_of
returns c =
    rw (c.is_one-thirteen.ensures, c.is_one-ten.ensures, c.nine_is_zero-no_activity.ensures, c.asks_history-history.ensures)
