-- `field` meets its contract.
use mathlib.Core.Path.{◌∙◌}
use Rattle.line_form.proofs.Laws.{stopped_next, next_is, starts_fits, field_stopped, field_other, field_read}
use Rattle.line_form.proofs.field.Goals as goal

pub returns-then-not-r : goal.returns-then-not-r
returns-then-not-r c = (field_stopped _ _ _ _ _ c.if-not-r.true, c.requires.next_in_bounds)

pub returns-then-not-starts : goal.returns-then-not-starts
returns-then-not-starts c =
    (c.stopped.ensures ∙ field_other _ _ _ _ _ c.if-not-r.false _ c.starts.ensures c.if-not-starts.true-raw, stopped_next _ _ _ c.stopped.ensures c.requires.next_in_bounds)

pub numbers-requires : goal.numbers-requires
numbers-requires c =
    record { m_bound = c.requires.m_bound; next_in_bounds = next_is _ _ _ _ c.passed-q.ensures (starts_fits _ _ _ _ c.starts.ensures c.if-not-starts.false-raw c.requires.next_in_bounds) }

pub returns : goal.returns
returns c =
    (c.numbers.ensures.0 ∙ field_read _ _ _ _ _ c.if-not-r.false _ c.starts.ensures c.if-not-starts.false-raw _ c.passed-q.ensures, c.numbers.ensures.1)
