-- `main_in` meets its contract.
use mathlib.Core.Path.{sym, ap}
use borrow.Author.Rules.{rules}
use lib.IntN.{pos}
use lib.ListN.{get_or}
use Rattle.setting.specs.Switches.{is_one, on_off}
use Rattle.setting.proofs.Signed.{tested, not_one}
use Rattle.station_record.proofs.main_in.Goals as goal

pub returns-then-x-eq1 : goal.returns-then-x-eq1
returns-then-x-eq1 c = let a = c.args in ap on_off (sym (tested is_one (get_or a.whole.now a.i (pos 0)) 1 (search rules) c.if-x-eq1.true))

pub returns : goal.returns
returns c = let a = c.args in ap on_off (sym (not_one (get_or a.whole.now a.i (pos 0)) c.if-x-eq1.false))
