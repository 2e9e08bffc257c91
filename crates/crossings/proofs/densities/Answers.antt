-- `densities` meets its contract.
use mathlib.Core.Path.{◌∙◌}
use Rattle.crossings.proofs.Laws.{densities_are}
use borrow.Author.Rules.{rules}
use Rattle.crossings.proofs.densities.Goals as goal

pub densities_at-requires : goal.densities_at-requires
densities_at-requires c = (search rules, search rules)

pub returns : goal.returns
returns c =
    let stored = c.stored_for-sw in
    c.densities_at.ensures
    ∙ densities_are c.args.w c.args.n c.args.alts.now _ stored.result _ stored.ensures.0 stored.ensures.1 c.requires.1
