-- `feed` meets its contract: the bytes before the current one are taken.
use mathlib.Core.Path.{refl, ◌∙◌}
use native.Mathlib.Omega.{arith}
use borrow.Author.Rules.{rules}
use Rattle.line_answer.proofs.Cut.{fed_first, fed_more, fed_last, line_more, line_last, behind_more}
use Rattle.line_answer.proofs.feed.Goals as goal

pub loop-b-init : goal.loop-b-init
loop-b-init c =
    let a = c.args in
    (search rules, search rules, fed_first a.chunk.now a.line.now a.out.now a.p.len a.p.number, refl, refl)

pub loop-b-preserved : goal.loop-b-preserved
loop-b-preserved c =
    let at = c.loop-b in
    let chunk = c.args.chunk.now in (
      search rules,
      search rules,
      fed_more chunk at.b-index _ _ c.loop-b-test.true c.take_byte-q.ensures.result_after.0 ∙ at.invariant.2,
      line_more chunk at.b-index _ _ _ _ c.loop-b-test.true c.take_byte-q.ensures.len_value.0 c.take_byte-q.ensures.len_value.1 ∙ at.invariant.3,
      behind_more _ _ _ _ _ c.take_byte-q.ensures.result_after.2 at.invariant.4 c.take_byte-q.ensures.len_value.2,
    )

pub returns : goal.returns
returns c =
    let at = c.loop-b in
    let chunk = c.args.chunk.now in record { result_after = (fed_last chunk at.b-index _ (omega arith) ∙ at.invariant.2, search rules, search rules); line_after = (line_last chunk at.b-index _ _ (omega arith) ∙ at.invariant.3, at.invariant.4) }
