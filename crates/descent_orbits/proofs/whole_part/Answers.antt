-- `whole_part` meets its contract.
use mathlib.Core.Path.{◌∙◌}
use native.Mathlib.Omega.{arith}
use Rattle.descent_orbits.proofs.Laws.{whole_scaled, whole_fits}
use Rattle.descent_orbits.proofs.whole_part.Goals as goal

pub scaled-requires : goal.scaled-requires
scaled-requires c =
    let w = whole_fits c.args.x c.requires in
    (w.0, omega arith, omega (arith, w.1, whole_scaled c.args.x))

pub returns : goal.returns
returns c =
    let e = c.scaled.ensures ∙ whole_scaled c.args.x in
    (e, omega (arith, e, (whole_fits c.args.x c.requires).1))
