-- `segment` meets its contract.
use mathlib.Core.Path.{◌∙◌, ap}
use Rattle.spline.specs.Nodes.{segment_of, area_of}
use Rattle.spline.proofs.nodes.segment.Goals as goal

pub returns : goal.returns
unfolding segment_of
returns c =
    let a = c.args in
    c.area.ensures ∙ ap (area_of a.xa.now a.ya.now a.y2a.now a.k) c.pick-xx.ensures
