-- `orbit_at` meets its contract.
use mathlib.Core.Path.{sym, ap, ◌∙◌}
use mir.Syntax.{w32}
use mir.Facts.{to_z-of_z}
use borrow.Author.Rules.{rules}
use Rattle.descent_orbits.specs.DescentOrbits.{density_by_setting}
use Rattle.descent_orbits.proofs.Laws.{thin, arrives, sinks}
use Rattle.descent_orbits.proofs.orbit_at.Goals as goal

pub returns-then-no_density : goal.returns-then-no_density
returns-then-no_density c =
    let A = c.args in
    let s = to_z-of_z {w = w32} {z = A.s} (search rules) in
    thin A.a _ _ (c.product-x.ensures ∙ ap (density_by_setting A.d) s) _ c.no_density.ensures c.if-no_density.true

pub whole_part-loss-requires : goal.whole_part-loss-requires
whole_part-loss-requires c = sym c.no_density.ensures ∙ c.if-no_density.false

pub returns-then-a-loss : goal.returns-then-a-loss
returns-then-a-loss c =
    let A = c.args in
    let s = to_z-of_z {w = w32} {z = A.s} (search rules) in
    arrives A.a _ _ (c.product-x.ensures ∙ ap (density_by_setting A.d) s) _ c.no_density.ensures c.if-no_density.false _
    c.whole_part-loss.ensures.0 c.if-a-loss.true

pub returns : goal.returns
returns c =
    let A = c.args in
    let s = to_z-of_z {w = w32} {z = A.s} (search rules) in
    sinks A.a _ _ (c.product-x.ensures ∙ ap (density_by_setting A.d) s) _ c.no_density.ensures c.if-no_density.false _
    c.whole_part-loss.ensures.0 c.if-a-loss.false
