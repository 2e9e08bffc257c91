-- `density` meets its contract.
use Rattle.descent.proofs.Laws.{density_read}
use Rattle.descent.proofs.density.Goals as goal

pub returns : goal.returns
returns c = density_read _ _ _ _ _ c.kilometres-z.ensures c.gtd7.ensures.1
