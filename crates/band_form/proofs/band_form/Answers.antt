-- `band_form` meets its contract.
use mathlib.Core.Path.{◌∙◌}
use native.Mathlib.Omega.{arith}
use Rattle.band_form.specs.Line.{band_form_of}
use Rattle.line_form.proofs.Laws.{start_next}
use Rattle.band_form.proofs.band_form.Goals as goal

pub field-a-requires : goal.field-a-requires
field-a-requires c = record { m_bound = omega arith; next_in_bounds = start_next _ _ c.start-r.ensures }

pub returns : goal.returns
unfolding band_form_of
returns c = c.closed.ensures ∙ rw (c.field-b.ensures.0, c.field-a.ensures.0, c.start-r.ensures)
