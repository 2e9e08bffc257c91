-- `glob7s` meets its contract.
use borrow.Author.Tests.{ltb-false}
use Rattle.numbers.specs.Booleans.{neither}
use Rattle.expansion_calls.specs.ExpansionCalls.{glob7s_call_of}
use Rattle.views.specs.Shared.{shared}
use Rattle.expansion_calls.proofs.glob7s.Goals as goal

pub returns-then-p : goal.returns-then-p
unfolding glob7s_call_of
returns-then-p c = simp c.if-p.true

pub glob7s-a-requires : goal.glob7s-a-requires
glob7s-a-requires c = (ltb-false _ _ (neither _ _ c.if-p.false).0, shared _ _ _ c.view_of-v.ensures)

pub returns : goal.returns
unfolding glob7s_call_of
returns c = simp (← c.glob7s-a.ensures, ← c.view_of-v.ensures) (simp c.if-p.false)
