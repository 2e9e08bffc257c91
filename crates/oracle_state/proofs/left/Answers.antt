-- `left` meets its contract.
use Rattle.views.specs.Shared.{shared}
use Rattle.oracle_state.proofs.Laws.{left_law}
use Rattle.oracle_state.proofs.left.Goals as goal

pub gtd7_from_fresh-r-requires : goal.gtd7_from_fresh-r-requires
gtd7_from_fresh-r-requires c = shared _ _ _ c.view_of-v.ensures

pub returns : goal.returns
returns c = let A = c.args in
    left_law A.w A.n c.gtd7_from_fresh-r.result.value c.gtd7_from_fresh-r.result.state c.site_of-x.result c.view_of-v.result
    c.gtd7_from_fresh-r.ensures c.site_of-x.ensures c.view_of-v.ensures
