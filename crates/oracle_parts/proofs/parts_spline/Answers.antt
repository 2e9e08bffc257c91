-- `parts_spline` meets its contract.
use mathlib.Core.Path.{ap, ◌∙◌}
use Rattle.oracle_parts.specs.OracleParts.{outcome_code}
use Rattle.oracle_parts.proofs.Told.{write_given}
use Rattle.oracle_parts.proofs.parts_spline.Goals as goal

pub returns-in-Ok-clause-value : goal.returns-in-Ok-clause-value
returns-in-Ok-clause-value c = write_given _ tt ∙ ap outcome_code c.in-Ok.ensures.y2_after
