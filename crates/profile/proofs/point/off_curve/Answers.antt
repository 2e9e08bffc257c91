-- `off_curve` meets its contract.
use Rattle.profile.specs.Point.{off_curve}
use borrow.Author.Rules.{rules}
use Rattle.profile.proofs.point.off_curve.Goals as goal

pub returns : goal.returns
unfolding off_curve
returns c = search rules
