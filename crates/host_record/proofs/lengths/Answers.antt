-- `lengths` meets its contract.
use Rattle.std.specs.Prelude.{Err, refl}
use Rattle.std.proofs.Common.{sym, ◌∙◌, ap, eq-eqb}
use Rattle.std.proofs.lemmas.Bool.{ne_eqb}
use Rattle.host_record.specs.Record.{lengths_of}
use Rattle.host_record.proofs.lengths.Goals as goal

pub returns-then-fields-ne8 : goal.returns-then-fields-ne8
unfolding lengths_of
returns-then-fields-ne8 c = ap Err c.at.ensures ∙ rw (ne_eqb _ _ c.if-fields-ne8.true) refl

pub returns-then-ap_array : goal.returns-then-ap_array
unfolding lengths_of
returns-then-ap_array c = ap Err c.at-then-ap_array.ensures ∙ simp (eq-eqb _ _ c.if-fields-ne8.false, c.if-ap_array.true)

pub returns-then-switches-ne24 : goal.returns-then-switches-ne24
unfolding lengths_of
returns-then-switches-ne24 c = ap Err c.at-then-switches-ne24.ensures ∙ simp (eq-eqb _ _ c.if-fields-ne8.false, c.if-ap_array.false, ne_eqb _ _ c.if-switches-ne24.true)

pub returns : goal.returns
unfolding lengths_of
returns c = simp (eq-eqb _ _ c.if-fields-ne8.false, c.if-ap_array.false, eq-eqb _ _ c.if-switches-ne24.false)
