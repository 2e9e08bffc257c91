-- `place` meets its contract.
use mathlib.Core.Path.{◌∙◌}
use Rattle.line_form.specs.Grammar.{place_fields}
use Rattle.line_form.proofs.place.Goals as goal

pub returns : goal.returns
unfolding place_fields
returns c = (c.field.ensures.0 ∙ rw (c.field-b.ensures.0, c.field-a.ensures.0), c.field.ensures.1)
