-- `sets_for` meets its contract.
use Rattle.std.specs.Prelude.{Err}
use Rattle.std.proofs.Common.{sym, ap, ◌∙◌, arith, rules}
use Rattle.std.proofs.lemmas.Result.{err_from_is_err_and}
use Rattle.refusals.specs.Refusals.{accepted_of}
use Rattle.station.specs.Station.{sets_of}
use Rattle.station.proofs.Laws.{not_sec}
use Rattle.station.proofs.sets_for.Goals as goal

pub returns-in-Sec : goal.returns-in-Sec
returns-in-Sec c = rw c.in-Sec.is c.globe7_sets.ensures

pub returns-in_default : goal.returns-in_default
returns-in_default c = c.need_of.ensures ∙ rw c.all_parts.ensures (not_sec c.args.c c.in_default.not-Sec)
