-- `globe7` meets its contract.
use borrow.Author.Tests.{eq-eqb, ne_eqb}
use Rattle.expansion_calls.specs.ExpansionCalls.{globe7_call_of}
use Rattle.views.specs.Shared.{shared}
use borrow.Author.Rules.{rules}
use Rattle.expansion_calls.proofs.globe7.Goals as goal

pub returns-then-p-ne150 : goal.returns-then-p-ne150
unfolding globe7_call_of
returns-then-p-ne150 c = simp (ne_eqb _ _ c.if-p-ne150.true)

pub returns-then-lacks_history : goal.returns-then-lacks_history
unfolding globe7_call_of
returns-then-lacks_history c = simp (← c.lacks_history.ensures) (simp (c.if-lacks_history.true, eq-eqb _ _ c.if-p-ne150.false))

pub globe7-a-requires : goal.globe7-a-requires
globe7-a-requires c = (search rules, shared _ _ _ c.view_of-v.ensures)

pub returns : goal.returns
unfolding globe7_call_of
returns c = simp (← c.globe7-a.ensures, ← c.view_of-v.ensures, ← c.lacks_history.ensures) (simp (c.if-lacks_history.false, eq-eqb _ _ c.if-p-ne150.false))
