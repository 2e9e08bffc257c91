-- `turbopause` meets its contract.
use Rattle.mixing_limits.proofs.Some.{never}
use Rattle.species.proofs.turbopause.Goals as goal

pub returns : goal.returns
returns c = λ e. never c.args.on c.if-on.false e
