-- `local_cos` meets its contract.
use Rattle.views.specs.Phases.{local_cos_of}
use Rattle.views.proofs.phases.local_cos.Goals as goal

pub returns : goal.returns
unfolding local_cos_of
returns c = simp (← c.cos.ensures)
