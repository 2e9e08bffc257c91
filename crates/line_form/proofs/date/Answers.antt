-- `date` meets its contract.
use mathlib.Core.Path.{◌∙◌}
use native.Mathlib.Omega.{arith}
use Rattle.line_form.proofs.Laws.{start_next}
use Rattle.line_form.specs.Grammar.{date_fields}
use Rattle.line_form.proofs.date.Goals as goal

pub field-b-requires : goal.field-b-requires
field-b-requires c = record { m_bound = omega arith; next_in_bounds = start_next _ _ c.start-a.ensures }

pub returns : goal.returns
unfolding date_fields
returns c = (c.field.ensures.0 ∙ rw (c.field-d.ensures.0, c.field-c.ensures.0, c.field-b.ensures.0, c.start-a.ensures), c.field.ensures.1)
