-- `main_of` meets its contract.
use mathlib.Core.Path.{sym, ap}
use borrow.Author.Rules.{rules}
use Rattle.setting.specs.Switches.{is_one, on_off}
use Rattle.setting.proofs.Signed.{tested, not_one}
use Rattle.setting.proofs.switches.main_of.Goals as goal

pub returns-then-x-eq1 : goal.returns-then-x-eq1
returns-then-x-eq1 c = ap on_off (sym (tested is_one c.args.x 1 (search rules) c.if-x-eq1.true))

pub returns : goal.returns
returns c = ap on_off (sym (not_one c.args.x c.if-x-eq1.false))
