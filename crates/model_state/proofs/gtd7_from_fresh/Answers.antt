-- `gtd7_from_fresh` meets its contract.
use Rattle.model_state.proofs.Laws.{from_fresh}
use borrow.Author.Rules.{rules}
use Rattle.model_state.proofs.gtd7_from_fresh.Goals as goal

pub expansion_values_of-l-requires : goal.expansion_values_of-l-requires
expansion_values_of-l-requires c = (c.requires, search rules)

pub returns : goal.returns
returns c =
    let A = c.args in
    from_fresh A.v A.x A.alt c.gtd7.result.value c.gtd7.result.state c.after-s8.result c.after-s7.result c.fresh-s.result
    c.pd8-p8.result c.pd7-p7.result _ c.expansion_values_of-l.result c.with_high-a.result c.need_at-b.result
    c.gtd7.ensures c.after-s8.ensures c.pd8-p8.ensures c.after-s7.ensures c.pd7-p7.ensures c.fresh-s.ensures
    c.expansion_values_of-l.ensures c.season_into.ensures c.with_high-a.ensures c.need_at-b.ensures
