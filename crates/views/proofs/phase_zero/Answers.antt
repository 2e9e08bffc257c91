-- `phase_zero` meets its contract.
use Rattle.views.specs.Phases.{local_cos_of, long_phase_cos_of}
use Rattle.views.specs.View.{plain_of}
use Rattle.views.proofs.phase_zero.Goals as goal

pub returns : goal.returns
unfolding plain_of local_cos_of long_phase_cos_of
returns c = simp (c.cos_again-long.ensures, c.ut_long_cos-ut_long.ensures, c.ut_cos-ut.ensures, c.cos_again-local.ensures, c.semiannual_cos-half_year.ensures, c.annual_cos-year.ensures)
