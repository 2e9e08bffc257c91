-- `responses_to` meets its contract.
use Rattle.activity.specs.Responses.{responses_of}
use Rattle.activity.proofs.responses_to.Goals as goal

pub returns : goal.returns
unfolding responses_of
returns c = simp (c.g0-g6.ensures, c.g0-g5.ensures, c.g0-g4.ensures, c.g0-g3.ensures, c.g0-g2.ensures, c.g0-g1.ensures, c.sqrt-r.ensures, c.pick-q.ensures)
