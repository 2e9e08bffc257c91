-- `bands` meets its contract.
use Rattle.std.specs.Prelude.{Err}
use mathlib.Core.Path.{sym, ap, ◌∙◌}
use Rattle.std.proofs.lemmas.Result.{err_from_is_err_and}
use Rattle.refusals.specs.Refusals.{accepted_of}
use Rattle.band_form.proofs.Laws.{read_4, read_refused, read_accepted, read_clean}
use Rattle.band_form.proofs.bands.Goals as goal

pub returns-then-table-ne1601 : goal.returns-then-table-ne1601
returns-then-table-ne1601 c = let r = read_4 _ _ c.if-table-ne1601.true in (ap Err c.at.ensures ∙ r.0, r.1)

pub returns-in_err-judge : goal.returns-in_err-judge
returns-in_err-judge c =
    let p = err_from_is_err_and c.from_residual.result c.from_residual.ensures.1 in
    let r = read_refused _ _ c.if-table-ne1601.false _ c.judge.ensures (ap accepted_of c.judge.ensures ∙ sym (ap accepted_of c.in_err-judge.ensures)) in
    (p.1 ∙ ap Err p.2 ∙ c.in_err-judge.ensures ∙ sym c.judge.ensures ∙ r.0, r.1)

pub fill-requires : goal.fill-requires
fill-requires c =
    (read_clean _ c.args.table.now c.if-table-ne1601.false _ c.judge.ensures (ap accepted_of c.judge.ensures ∙ sym (ap accepted_of c.in_ok-judge.ensures)), c.if-table-ne1601.false)

pub returns : goal.returns
returns c =
    let r = read_accepted _ _ c.if-table-ne1601.false _ c.judge.ensures (ap accepted_of c.judge.ensures ∙ sym (ap accepted_of c.in_ok-judge.ensures)) _ c.fill.ensures in
    (c.in_ok-judge.ensures ∙ sym c.judge.ensures ∙ r.0, r.1)
