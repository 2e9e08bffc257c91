-- `long_phase_cos` meets its contract.
use Rattle.views.specs.Phases.{long_phase_cos_of}
use Rattle.views.proofs.phases.long_phase_cos.Goals as goal

pub returns : goal.returns
unfolding long_phase_cos_of
returns c = simp (← c.cos.ensures)
