-- `history_in` meets its contract.
use mathlib.Core.Path.{sym, ap}
use mathlib.Core.Bool.{Bool, cond}
use borrow.Author.Rules.{rules}
use lib.IntN.{pos}
use lib.ListN.{get_or}
use Rattle.setting.specs.declared.History.{History}
use Rattle.setting.specs.declared.History.TheVariants.{Absent, Present}
use Rattle.setting.specs.Switches.{is_one}
use Rattle.setting.proofs.Signed.{tested, not_one}
use Rattle.station_record.specs.Record.{history_in}
use Rattle.station_record.proofs.history_in.Goals as goal

pub returns-then-x-eq1 : goal.returns-then-x-eq1
unfolding history_in
returns-then-x-eq1 c = let a = c.args in ap (λ (b : Bool). cond {A = History} b Present Absent) (sym (tested is_one (get_or a.whole.now 2 (pos 0)) 1 (search rules) c.if-x-eq1.true))

pub returns : goal.returns
unfolding history_in
returns c = let a = c.args in ap (λ (b : Bool). cond {A = History} b Present Absent) (sym (not_one (get_or a.whole.now 2 (pos 0)) c.if-x-eq1.false))
