-- `cross_of` meets its contract.
use mathlib.Core.Path.{sym, ap}
use mathlib.Core.Bool.{true, false}
use borrow.Author.Rules.{rules}
use Rattle.setting.specs.Switches.{on_off}
use Rattle.setting.proofs.Signed.{above}
use Rattle.setting.proofs.switches.cross_of.Goals as goal

pub returns-then-x-gt0 : goal.returns-then-x-gt0
returns-then-x-gt0 c = ap on_off (sym (above c.args.x true (search rules) c.if-x-gt0.true))

pub returns : goal.returns
returns c = ap on_off (sym (above c.args.x false (search rules) c.if-x-gt0.false))
