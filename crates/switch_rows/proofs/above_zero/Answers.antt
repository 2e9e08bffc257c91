-- `above_zero` meets its contract.
use mathlib.Core.Path.{sym}
use mathlib.Core.Bool.{true, false}
use borrow.Author.Rules.{rules}
use Rattle.setting.specs.Switches.{given}
use Rattle.setting.proofs.Signed.{above}
use Rattle.switch_rows.proofs.above_zero.Goals as goal

pub returns-then-x-gt0 : goal.returns-then-x-gt0
returns-then-x-gt0 c = let a = c.args in sym (above (given a.w a.i) true (search rules) c.if-x-gt0.true)

pub returns : goal.returns
returns c = let a = c.args in sym (above (given a.w a.i) false (search rules) c.if-x-gt0.false)
