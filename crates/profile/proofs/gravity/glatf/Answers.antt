-- `glatf` meets its contract.
use Rattle.profile.specs.Gravity.{glatf_of}
use Rattle.profile.proofs.gravity.glatf.Goals as goal

pub returns : goal.returns
unfolding glatf_of
returns c = simp (← c.cos-c2.ensures)
