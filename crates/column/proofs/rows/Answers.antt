-- `rows` meets its contract.
use mathlib.Core.Path.{◌∙◌}
use Rattle.column.proofs.Laws.{rows_are}
use borrow.Author.Rules.{rules}
use Rattle.column.proofs.rows.Goals as goal

pub rows_at-requires : goal.rows_at-requires
rows_at-requires c = (search rules, search rules)

pub returns : goal.returns
returns c =
    let stored = c.stored_for-sw in
    c.rows_at.ensures
    ∙ rows_are c.args.w c.args.n c.args.alts.now _ stored.result _ stored.ensures.0 stored.ensures.1 c.requires.1
