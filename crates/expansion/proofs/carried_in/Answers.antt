-- `carried_in` meets its contract.
use Rattle.expansion.specs.Expansion.{carried_of}
use borrow.Author.Rules.{rules}
use Rattle.expansion.proofs.carried_in.Goals as goal

pub returns : goal.returns
unfolding carried_of
returns c = search rules
