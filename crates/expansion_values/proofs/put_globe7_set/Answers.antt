-- `put_globe7_set` meets its contract.
use mathlib.Core.Path.{◌∙◌}
use Rattle.fixed_point.proofs.Arms.{rest_above}
use Rattle.needed_sets.specs.Sets.{globe7_sets}
use Rattle.expansion_values.proofs.Laws.{globe7_last}
use borrow.Author.Rules.{rules}
use Rattle.expansion_values.proofs.put_globe7_set.Goals as goal

pub returns-in-0 : goal.returns-in-0
unfolding globe7_sets
returns-in-0 c = search rules

pub returns-in-1 : goal.returns-in-1
unfolding globe7_sets
returns-in-1 c = search rules

pub returns-in-2 : goal.returns-in-2
unfolding globe7_sets
returns-in-2 c = search rules

pub returns-in-3 : goal.returns-in-3
unfolding globe7_sets
returns-in-3 c = search rules

pub returns-in-4 : goal.returns-in-4
unfolding globe7_sets
returns-in-4 c = search rules

pub returns-in-5 : goal.returns-in-5
unfolding globe7_sets
returns-in-5 c = search rules

pub returns-in-6 : goal.returns-in-6
unfolding globe7_sets
returns-in-6 c = search rules

pub returns-in-7 : goal.returns-in-7
unfolding globe7_sets
returns-in-7 c = search rules

pub returns-in-8 : goal.returns-in-8
unfolding globe7_sets
returns-in-8 c = search rules

pub returns-in-9 : goal.returns-in-9
unfolding globe7_sets
returns-in-9 c = search rules

-- past the last key: one index is left
pub returns-in_default : goal.returns-in_default
returns-in_default c = c.ps.ensures ∙ globe7_last c.args.k (rest_above 10 c.args.k c.in_default.in_default-own.rest) c.requires
