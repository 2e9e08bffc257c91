-- `fill` meets its contract.
use Rattle.std.specs.Prelude.{refl}
use Rattle.std.proofs.Common.{sym, ap, ◌∙◌, arith, rules}
use Rattle.std.proofs.lemmas.Result.{err_from_is_err_and}
use Rattle.refusals.specs.Refusals.{accepted_of}
use Rattle.station.specs.Station.{filled_of, refilled_of}
use Rattle.station.proofs.fill.Goals as goal

pub returns : goal.returns
unfolding filled_of
returns c = c.refill.ensures ∙ rw (c.copy_from_slice.ensures.after, c.record_numbers.ensures, c.put_values.ensures) refl
