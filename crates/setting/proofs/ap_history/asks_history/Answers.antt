-- `asks_history` meets its contract.
use mathlib.Core.Path.{sym}
use Rattle.setting.specs.Switches.{given}
use Rattle.setting.specs.ApHistory.{is_minus_one, asks_history_of}
use Rattle.setting.proofs.Signed.{tested, not_minus_one}
use borrow.Author.Rules.{rules}
use Rattle.setting.proofs.ap_history.asks_history.Goals as goal

pub returns-then-x : goal.returns-then-x
unfolding asks_history_of
returns-then-x c = sym (tested is_minus_one (given c.args.w 9) 4294967295 (search rules) c.if-x.true)

pub returns : goal.returns
unfolding asks_history_of
returns c = sym (not_minus_one (given c.args.w 9) c.if-x.false)
