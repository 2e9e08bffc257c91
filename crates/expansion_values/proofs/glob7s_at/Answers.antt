-- `glob7s_at` meets its contract.
use mathlib.Core.Path.{◌∙◌, ap₂}
use mathlib.Core.List.{List}
use lib.Ieee.{Float}
use Rattle.expansion.specs.declared.Carried.{Carried}
use Rattle.expansion.specs.Expansion.{glob7s_from_given}
use Rattle.expansion_values.proofs.glob7s_at.Goals as goal

pub returns-then-on : goal.returns-then-on
returns-then-on c =
    let A = c.args in
    rw (c.if-on.true, ← c.longitude_seasons_at-e.ensures, ← c.seasons_at-d.ensures)
    (c.glob7s_from.ensures
    ∙ ap₂ (λ (t : List Float) (u : Carried). glob7s_from_given A.v t A.g u c.seasons_at-d.result c.longitude_seasons_at-e.result) c.requires.2 c.glob7s_before-c.ensures)

pub returns : goal.returns
returns c = simp c.if-on.false
