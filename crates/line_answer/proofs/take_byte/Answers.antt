-- `take_byte` meets its contract.
use mathlib.Core.Path.{refl, sym}
use native.Mathlib.Omega.{arith}
use lib.Seq.{length-take-le}
use Rattle.line_answer.proofs.Cut.{line_ended, line_kept_lem, begun_anew, one_kept, behind_written}
use borrow.Author.Rules.{rules}
use Rattle.line_answer.proofs.take_byte.Goals as goal

pub slice_bounds-answer-end-then-b-eq10 : goal.slice_bounds-answer-end-then-b-eq10
slice_bounds-answer-end-then-b-eq10 c = sym (length-take-le _ _ (search rules))

pub returns-then-b-eq10 : goal.returns-then-b-eq10
returns-then-b-eq10 c =
    let anew = begun_anew _ _ _ c.if-b-eq10.true in record {
      result_after = (
        line_ended _ _ _ _ _ _ _ c.if-b-eq10.true (search rules) c.answer-end.ensures.0 c.next_number.ensures,
        search rules,
        omega (arith, c.answer-end.ensures.0.1),
        omega (arith, c.answer-end.ensures.0.1, c.answer-end.ensures.1),
      );
      len_value = (anew.0, anew.1, behind_written _ _ _ _ _ (search rules) c.answer-end.ensures.0);
    }

pub returns : goal.returns
returns c =
    let call = c.keep in
    let start = c.args in
    let step = one_kept start.line.now start.p.len start.b _ _ c.if-b-eq10.false call.ensures.0 call.ensures.1 in record { result_after = (line_kept_lem start.line.now start.out.now start.p start.b _ _ c.if-b-eq10.false call.ensures.3, call.ensures.2, search rules, search rules); len_value = (step.0, step.1, refl) }
