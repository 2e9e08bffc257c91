-- `activity` meets its contract.
use mathlib.Core.Path.{◌∙◌}
use Rattle.line_form.specs.Grammar.{activity_fields}
use Rattle.line_form.proofs.activity.Goals as goal

pub returns : goal.returns
unfolding activity_fields
returns c = (c.field.ensures.0 ∙ rw (c.field-b.ensures.0, c.field-a.ensures.0), c.field.ensures.1)
