-- `day_within` meets its contract.
use borrow.Author.Rules.{rules}
use Rattle.acceptance.proofs.Day.{early, late, inside}
use Rattle.acceptance.proofs.day_within.Goals as goal

pub returns-then-d-lt1 : goal.returns-then-d-lt1
returns-then-d-lt1 c = early c.args.n.doy (search rules) c.if-d-lt1.true

pub returns-then-d-gt366 : goal.returns-then-d-gt366
returns-then-d-gt366 c = late c.args.n.doy (search rules) c.if-d-gt366.true

pub returns : goal.returns
returns c = inside c.args.n.doy (search rules) c.if-d-lt1.false c.if-d-gt366.false
