-- `setting_within` meets its contract.
use mir.Syntax.{w32}
use mir.Facts.{to_z-of_z}
use borrow.Author.Rules.{rules}
use Rattle.descent_orbits.proofs.Laws.{below_range, above_range, in_range}
use Rattle.descent_orbits.proofs.setting_within.Goals as goal

pub returns-then-s-lt1 : goal.returns-then-s-lt1
returns-then-s-lt1 c = below_range 1 4 _ c.args.s (to_z-of_z {w = w32} {z = c.args.s} (search rules)) c.if-s-lt1.true

pub returns-then-s-gt4 : goal.returns-then-s-gt4
returns-then-s-gt4 c = above_range 1 4 _ c.args.s (to_z-of_z {w = w32} {z = c.args.s} (search rules)) c.if-s-gt4.true

pub returns : goal.returns
returns c = in_range 1 4 _ c.args.s (to_z-of_z {w = w32} {z = c.args.s} (search rules)) c.if-s-lt1.false c.if-s-gt4.false
