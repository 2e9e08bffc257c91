-- `potirehu_counts` meets its contract.
use Rattle.std.specs.Prelude.{Err}
use Rattle.host_record.specs.Record.{code_of}
use mathlib.Core.Path.{◌∙◌, ap}
use borrow.Author.Tests.{eq-eqb, ne_eqb}
use Rattle.potirehu.specs.KnownInPart.{host_counts, host_counted}
use Rattle.potirehu.proofs.known_in_part.potirehu_counts.Goals as goal

pub returns-then-fields-ne17 : goal.returns-then-fields-ne17
unfolding host_counts host_counted
returns-then-fields-ne17 c =
    let short = ne_eqb _ _ c.if-fields-ne17.true in
    ((c.code.ensures ∙ ap code_of (ap Err c.at.ensures)) ∙ simp short, simp short)

pub returns-then-switches-ne24 : goal.returns-then-switches-ne24
unfolding host_counts host_counted
returns-then-switches-ne24 c =
    let long = eq-eqb _ _ c.if-fields-ne17.false in
    let short = ne_eqb _ _ c.if-switches-ne24.true in
    ((c.code-then-switches-ne24.ensures ∙ ap code_of (ap Err c.at-then-switches-ne24.ensures)) ∙ simp (long, short), simp (long, short))

pub returns : goal.returns
unfolding host_counts host_counted
returns c =
    let fields_long = eq-eqb _ _ c.if-fields-ne17.false in
    let switches_long = eq-eqb _ _ c.if-switches-ne24.false in (
      c.code-2.ensures ∙ simp (fields_long, switches_long),
      rw (c.put_marks.ensures, c.counts-counted.ensures, c.switch_row-w.ensures) (simp (fields_long, switches_long)),
    )
