-- `layer` meets its contract.
use Rattle.profile.specs.Curve.{layer_of}
use Rattle.profile.proofs.curve.layer.Goals as goal

pub returns : goal.returns
unfolding layer_of
returns c = simp (← c.splint-y.ensures, ← c.second-y2.ensures, ← c.slope-yd2.ensures, ← c.pow-q.ensures, ← c.slope-yd1.ensures, ← c.node_ys-ys.ensures, ← c.node_xs-xs.ensures, ← c.zeta-zgdif.ensures, ← c.zeta-zg.ensures)
