-- `band_lengths` meets its contract.
use Rattle.std.specs.Prelude.{Err}
use mathlib.Core.Path.{ap, ◌∙◌}
use borrow.Author.Tests.{eq-eqb, ne_eqb}
use Rattle.potirehu.specs.Bands.{band_lengths_of}
use Rattle.potirehu.proofs.banded.band_lengths.Goals as goal

pub returns-then-len-ne11 : goal.returns-then-len-ne11
unfolding band_lengths_of
returns-then-len-ne11 c =
    ap Err c.at.ensures ∙ simp (ne_eqb _ _ c.if-len-ne11.true)

pub returns-then-table-ne1601 : goal.returns-then-table-ne1601
unfolding band_lengths_of
returns-then-table-ne1601 c =
    ap Err c.at-then-table-ne1601.ensures ∙ simp (eq-eqb _ _ c.if-len-ne11.false, ne_eqb _ _ c.if-table-ne1601.true)

pub returns-then-fields-ne8 : goal.returns-then-fields-ne8
unfolding band_lengths_of
returns-then-fields-ne8 c =
    ap Err c.at-then-fields-ne8.ensures ∙ simp (eq-eqb _ _ c.if-len-ne11.false, eq-eqb _ _ c.if-table-ne1601.false, ne_eqb _ _ c.if-fields-ne8.true)

pub returns-then-ap_array : goal.returns-then-ap_array
unfolding band_lengths_of
returns-then-ap_array c =
    ap Err c.at-then-ap_array.ensures ∙ simp (eq-eqb _ _ c.if-len-ne11.false, eq-eqb _ _ c.if-table-ne1601.false, eq-eqb _ _ c.if-fields-ne8.false, c.if-ap_array.true)

pub returns : goal.returns
unfolding band_lengths_of
returns c =
    simp (eq-eqb _ _ c.if-len-ne11.false, eq-eqb _ _ c.if-table-ne1601.false, eq-eqb _ _ c.if-fields-ne8.false, c.if-ap_array.false)
