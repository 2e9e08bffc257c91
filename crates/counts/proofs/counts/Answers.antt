-- `counts` meets its contract.
use Rattle.setting.specs.ApHistory.{asks_history_of}
use Rattle.counts.specs.Counts.{counts_of}
use Rattle.counts.proofs.counts.Goals as goal

pub returns : goal.returns
unfolding counts_of asks_history_of
returns c =
    rw (c.asks_history-history.ensures, c.ap_shut-ap.ensures, c.fluxes_shut-fluxes.ensures, c.lst_shut-lst.ensures, c.g_long_shut-g_long.ensures, c.sec_shut-sec.ensures)
