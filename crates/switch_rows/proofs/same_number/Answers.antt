-- `same_number` meets its contract.
use mathlib.Core.Path.{sym}
use borrow.Author.Rules.{rules}
use Rattle.setting.specs.Switches.{given}
use Rattle.switch_rows.proofs.Laws.{equal, unequal}
use Rattle.switch_rows.proofs.same_number.Goals as goal

pub returns-then-x-y : goal.returns-then-x-y
returns-then-x-y c =
    let s = c.args in
    sym (equal (given s.a s.i) (given s.b s.i) (search rules) (search rules) c.if-x-y.true)

pub returns : goal.returns
returns c =
    let s = c.args in
    sym (unequal (given s.a s.i) (given s.b s.i) c.if-x-y.false)
