-- `same_need` meets its contract.
use Rattle.records.proofs.same_need.Goals as goal

pub returns : goal.returns
returns c = rw (c.agree-tropo.ensures, c.agree-meso.ensures, c.agree-nodes.ensures, c.agree-ps.ensures, c.agree-pt.ensures, c.agree-high.ensures)
