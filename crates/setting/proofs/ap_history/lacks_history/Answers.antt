-- `lacks_history` meets its contract.
use Rattle.setting.specs.ApHistory.{lacks_history_of}
use Rattle.setting.proofs.ap_history.lacks_history.Goals as goal

pub returns : goal.returns
unfolding lacks_history_of
returns c = rw (c.absent-b.ensures, c.asks_history-a.ensures)
