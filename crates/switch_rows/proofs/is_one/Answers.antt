-- `is_one` meets its contract.
use mathlib.Core.Path.{sym}
use borrow.Author.Rules.{rules}
use Rattle.setting.specs.Switches.{given, is_one}
use Rattle.setting.proofs.Signed.{tested, not_one}
use Rattle.switch_rows.proofs.is_one.Goals as goal

pub returns-then-x-eq1 : goal.returns-then-x-eq1
returns-then-x-eq1 c = let a = c.args in sym (tested is_one (given a.w a.i) 1 (search rules) c.if-x-eq1.true)

pub returns : goal.returns
returns c = let a = c.args in sym (not_one (given a.w a.i) c.if-x-eq1.false)
