-- `semiannual_cos` meets its contract.
use Rattle.views.specs.Phases.{semiannual_cos_of}
use Rattle.views.proofs.phases.semiannual_cos.Goals as goal

pub returns : goal.returns
unfolding semiannual_cos_of
returns c = simp (← c.cos.ensures)
