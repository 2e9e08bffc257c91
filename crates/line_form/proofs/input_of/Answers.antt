-- `input_of` meets its contract.
use mir.Syntax.{w32}
use mir.Facts.{to_z-of_z}
use borrow.Author.Rules.{rules}
use lib.IntN.{pos}
use lib.ListN.{get_or}
use Rattle.line_form.proofs.Laws.{input_is}
use Rattle.line_form.proofs.input_of.Goals as goal

pub returns : goal.returns
returns c =
    let v = c.args.f.reading.values in
    input_is _ _ _ _ _ _ _ _ _ _ _ _ _
    (to_z-of_z {w = w32} {z = get_or v 0 (pos 0)} (search rules))
    (to_z-of_z {w = w32} {z = get_or v 1 (pos 0)} (search rules))
    c.thousandths_at.ensures
    c.thousandths_at-2.ensures
    c.thousandths_at-3.ensures
    c.thousandths_at-4.ensures
    c.thousandths_at-5.ensures
    c.thousandths_at-6.ensures
    c.thousandths_at-7.ensures
    c.thousandths_at-8.ensures
    c.history_of.ensures
    c.array_of.ensures
