-- `mixing` meets its contract.
use Rattle.species.proofs.Laws.{mixes}
use Rattle.species.proofs.mixing.Goals as goal

pub returns : goal.returns
returns c = mixes c.args.on c.args.p c.args.xmm c.mixing_at.result c.mixing_at.ensures
