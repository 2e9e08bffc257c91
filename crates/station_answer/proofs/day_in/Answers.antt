-- `day_in` meets its contract.
use borrow.Author.Rules.{rules}
use lib.IntN.{pos}
use lib.ListN.{get_or}
use Rattle.acceptance.proofs.Day.{early, late, inside}
use Rattle.station_answer.proofs.day_in.Goals as goal

pub returns-then-d-lt1 : goal.returns-then-d-lt1
returns-then-d-lt1 c = early (get_or c.args.whole.now 1 (pos 0)) (search rules) c.if-d-lt1.true

pub returns-then-d-gt366 : goal.returns-then-d-gt366
returns-then-d-gt366 c = late (get_or c.args.whole.now 1 (pos 0)) (search rules) c.if-d-gt366.true

pub returns : goal.returns
returns c = inside (get_or c.args.whole.now 1 (pos 0)) (search rules) c.if-d-lt1.false c.if-d-gt366.false
