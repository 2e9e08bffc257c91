-- `gtd7_records` meets its contract: the records below i are answered, and the season that is kept is right.
use mathlib.Core.Path.{◌≡◌, refl, ap, ◌∙◌}
use native.Mathlib.Omega.{arith}
use borrow.Author.Rules.{rules}
use lib.ListN.{length}
use Rattle.host_record.specs.Record.{code_of}
use Rattle.records.specs.Records.{answers_to, rows_to}
use Rattle.records.proofs.Laws.{next_answer, next_row}
use Rattle.records.proofs.gtd7_records.Goals as goal

pub loop-i-init : goal.loop-i-init
unfolding answers_to rows_to
loop-i-init c = ((refl, tt), refl, refl)

pub record_at-n-requires : goal.record_at-n-requires
record_at-n-requires c = (c.requires.0, search rules)

pub answered-requires : goal.answered-requires
answered-requires c = (c.loop-i.invariant.0, search rules)

pub loop-i-preserved : goal.loop-i-preserved
loop-i-preserved c =
    let at = c.loop-i in
    let A = c.args in
    let e = c.answered.ensures in (
      e.2,
      next_answer A.w A.days.now A.fields.now A.ap_arrays.now at.i _ c.record_at-n.ensures _ _ _ at.invariant.1 (c.code.ensures ∙ ap code_of e.0),
      next_row A.w A.days.now A.fields.now A.ap_arrays.now at.i _ c.record_at-n.ensures _ _ _ at.invariant.2 e.1,
    )

pub returns : goal.returns
returns c =
    let at = c.loop-i in
    let e : at.i ≡ length c.args.days.now = omega arith in
    (at.invariant.1 ∙ rw e, at.invariant.2 ∙ rw e)
