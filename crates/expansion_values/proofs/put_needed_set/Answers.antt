-- `put_needed_set` meets its contract.
use mathlib.Core.Path.{sym, ◌∙◌}
use mathlib.Core.Bool.{false≢true}
use borrow.Author.Tests.{not-true}
use Rattle.expansion_values.proofs.Laws.{globe7_length}
use Rattle.expansion_values.proofs.put_needed_set.Goals as goal

pub returns-then-not-on : goal.returns-then-not-on
returns-then-not-on c = (c.requires.1, (λ h. absurd (false≢true (sym (not-true _ c.if-not-on.true-raw) ∙ h))))

pub returns : goal.returns
returns c = (globe7_length _ _ c.put_globe7_set.ensures, (λ h. c.put_globe7_set.ensures))
