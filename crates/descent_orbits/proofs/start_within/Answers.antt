-- `start_within` meets its contract.
use mir.Syntax.{w64}
use mir.Facts.{to_z-of_z}
use borrow.Author.Rules.{rules}
use Rattle.descent_orbits.proofs.Laws.{below_range, above_range, in_range}
use Rattle.descent_orbits.proofs.start_within.Goals as goal

pub returns-then-start-lt200000000 : goal.returns-then-start-lt200000000
returns-then-start-lt200000000 c = below_range 200000000 1000000000 _ c.args.start (to_z-of_z {w = w64} {z = c.args.start} (search rules)) c.if-start-lt200000000.true

pub returns-then-start-gt1000000000 : goal.returns-then-start-gt1000000000
returns-then-start-gt1000000000 c = above_range 200000000 1000000000 _ c.args.start (to_z-of_z {w = w64} {z = c.args.start} (search rules)) c.if-start-gt1000000000.true

pub returns : goal.returns
returns c = in_range 200000000 1000000000 _ c.args.start (to_z-of_z {w = w64} {z = c.args.start} (search rules)) c.if-start-lt200000000.false c.if-start-gt1000000000.false
