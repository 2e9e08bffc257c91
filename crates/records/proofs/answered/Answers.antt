-- `answered` meets its contract.
use Rattle.std.specs.Prelude.{Err}
use mathlib.Core.Path.{◌≡◌, sym, ap, ◌∙◌}
use Rattle.std.proofs.lemmas.Result.{err_from_is_err_and}
use Rattle.refusals.specs.Refusals.{accepted_of}
use Rattle.records.proofs.Laws.{refused_row, accepted_row}
use borrow.Author.Rules.{rules}
use mir.Syntax.{w32}
use mir.Val.{of_z, to_z}
use Rattle.records.proofs.answered.Goals as goal

pub returns-in_err-record_answer : goal.returns-in_err-record_answer
returns-in_err-record_answer c =
    let A = c.args in
    let p = err_from_is_err_and c.from_residual.result c.from_residual.ensures.1 in (
      p.1 ∙ ap Err p.2 ∙ c.in_err-record_answer.ensures,
      refused_row A.w A.n A.out.now c.requires.1 (sym (ap accepted_of c.in_err-record_answer.ensures)),
      c.requires.0,
    )

pub row_in_season-requires : goal.row_in_season-requires
row_in_season-requires c = (c.requires.1, c.need_at-a.ensures, c.season_for.ensures)

pub returns : goal.returns
returns c =
    let A = c.args in
    let doy : to_z w32 (of_z w32 A.n.doy) ≡ A.n.doy = search (rules, c.struct_told-1.given) in (
      c.in_ok-record_answer.ensures,
      accepted_row A.w A.n A.out.now c.requires.1 _ (sym (ap accepted_of c.in_ok-record_answer.ensures)) c.row_in_season.ensures,
      (c.season_for.ensures.places, rw doy c.season_for.ensures),
    )
