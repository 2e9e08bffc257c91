-- `ut_cos` meets its contract.
use Rattle.views.specs.Phases.{ut_cos_of}
use Rattle.views.proofs.phases.ut_cos.Goals as goal

pub returns : goal.returns
unfolding ut_cos_of
returns c = simp (← c.cos.ensures)
