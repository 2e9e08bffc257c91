-- `dnet_form` meets its contract.
use mathlib.Core.Path.{◌∙◌}
use native.Mathlib.Omega.{arith}
use Rattle.line_form.specs.Grammar.{dnet_form_of}
use Rattle.line_form.proofs.Laws.{start_next}
use Rattle.line_form.proofs.dnet_form.Goals as goal

pub field-q-requires : goal.field-q-requires
field-q-requires c = record { m_bound = omega arith; next_in_bounds = start_next _ _ c.start-r.ensures }

pub returns : goal.returns
unfolding dnet_form_of
returns c = c.closed.ensures ∙ rw (c.field-q.ensures.0, c.start-r.ensures)
