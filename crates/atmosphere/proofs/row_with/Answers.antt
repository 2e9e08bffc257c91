-- `row_with` meets its contract.
use mathlib.Core.Path.{sym, ◌∙◌}
use Rattle.atmosphere.proofs.Laws.{row_with_law}
use borrow.Author.Rules.{rules}
use Rattle.atmosphere.proofs.row_with.Goals as goal

pub put_row_above-requires : goal.put_row_above-requires
put_row_above-requires c = (search rules, sym c.takes_upper_way.ensures ∙ c.if-takes_upper_way.true)

pub returns-then-takes_upper_way : goal.returns-then-takes_upper_way
returns-then-takes_upper_way c =
    let A = c.args in
    row_with_law A.c A.w A.n _ c.values_at-v.result c.put_row_above.ensures c.values_at-v.ensures c.requires.1

pub put_row_lower-requires : goal.put_row_lower-requires
put_row_lower-requires c =
    (search rules, c.requires.1, sym c.takes_upper_way.ensures ∙ c.if-takes_upper_way.false)

pub returns : goal.returns
returns c =
    let A = c.args in
    row_with_law A.c A.w A.n _ c.values_at-v.result c.put_row_lower.ensures c.values_at-v.ensures c.requires.1
