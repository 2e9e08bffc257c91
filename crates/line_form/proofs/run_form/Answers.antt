-- `run_form` meets its contract.
use Rattle.line_form.specs.Grammar.{run_form_of}
use Rattle.line_form.proofs.run_form.Goals as goal

pub returns : goal.returns
unfolding run_form_of
returns c = rw (c.rest-reading.ensures, c.starts-array.ensures, c.activity-c.ensures.0, c.place-b.ensures.0, c.date-a.ensures.0)
