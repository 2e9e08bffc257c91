-- `fixed_point::choose` meets its contract. Assumes nothing.
use Rattle.fixed_point.proofs.Choice.{choose_zero, choose_other}
use Rattle.fixed_point.proofs.choose.Goals as goal

pub returns-then-h-eq0 : goal.returns-then-h-eq0
returns-then-h-eq0 c = choose_zero c.args.h c.args.x c.args.y c.if-h-eq0.true

pub returns : goal.returns
returns c = choose_other c.args.h c.args.x c.args.y c.if-h-eq0.false
