-- `to_i32` meets its contract: the size fits, so its bits read as signed are the size.
use mir.Syntax.{w32}
use mir.ValLaws.{to_z_pos}
use borrow.Author.Rules.{rules}
use Rattle.line_form.proofs.to_i32.Goals as goal

pub returns : goal.returns
returns c = to_z_pos w32 c.args.size (search rules)
