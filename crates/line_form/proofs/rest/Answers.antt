-- `rest` meets its contract.
use mathlib.Core.Path.{◌∙◌}
use native.Mathlib.Omega.{arith}
use Rattle.line_form.proofs.Laws.{later_next}
use Rattle.line_form.specs.Grammar.{last_fields}
use Rattle.line_form.proofs.rest.Goals as goal

pub field-c-requires : goal.field-c-requires
field-c-requires c = record { m_bound = omega arith; next_in_bounds = later_next _ _ _ _ c.later-b.ensures c.field-a.ensures.1 c.requires }

pub returns : goal.returns
unfolding last_fields
returns c = c.closed.ensures ∙ rw (c.field-c.ensures.0, c.later-b.ensures, c.field-a.ensures.0)
