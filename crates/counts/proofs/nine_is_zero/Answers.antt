-- `nine_is_zero` meets its contract.
use mathlib.Core.Path.{sym}
use Rattle.setting.specs.Switches.{given}
use Rattle.setting.proofs.Signed.{tested}
use Rattle.shutoff.specs.Shut.{is_zero}
use Rattle.counts.proofs.Zero.{not_zero}
use borrow.Author.Rules.{rules}
use Rattle.counts.proofs.nine_is_zero.Goals as goal

pub returns-then-x-eq0 : goal.returns-then-x-eq0
returns-then-x-eq0 c = sym (tested is_zero (given c.args.w 9) 0 (search rules) c.if-x-eq0.true)

pub returns : goal.returns
returns c = sym (not_zero (given c.args.w 9) c.if-x-eq0.false)
