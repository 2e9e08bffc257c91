-- `annual_cos` meets its contract.
use Rattle.views.specs.Phases.{annual_cos_of}
use Rattle.views.proofs.phases.annual_cos.Goals as goal

pub returns : goal.returns
unfolding annual_cos_of
returns c = simp (← c.cos.ensures)
