-- `finish` meets its contract.
use Prim.Native.Nat.{zero-le}
use mathlib.Core.Path.{refl, sym}
use native.Mathlib.Omega.{arith}
use lib.Seq.{length-take-le}
use Rattle.line_answer.proofs.Cut.{no_last, last_line, behind_written}
use borrow.Author.Rules.{rules}
use Rattle.line_answer.proofs.finish.Goals as goal

pub returns-then-len-eq0 : goal.returns-then-len-eq0
returns-then-len-eq0 c = (no_last _ _ _ c.if-len-eq0.true, search rules, refl)

pub slice_bounds-answer-end : goal.slice_bounds-answer-end
slice_bounds-answer-end c = sym (length-take-le _ _ (search rules))

pub returns : goal.returns
returns c = (
  last_line _ _ _ c.if-len-eq0.false (search rules) _ _ _ c.answer.ensures.0,
  omega (arith, c.answer.ensures.0.1, c.answer.ensures.1),
  behind_written _ _ _ _ _ zero-le c.answer.ensures.0,
)
