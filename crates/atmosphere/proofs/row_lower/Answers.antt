-- `row_lower` meets its contract.
use mathlib.Core.Path.{sym, ap, ◌∙◌}
use mathlib.Core.Bool.{false≢true}
use lib.Ieee.{Float, lt}
use Rattle.numbers.specs.Literals.{32·5}
use Rattle.footing.specs.Footing.{row_below_of}
use Rattle.atmosphere.specs.Rows.{eleven_below}
use Rattle.atmosphere.proofs.row_lower.Goals as goal

pub footing_of-f-requires : goal.footing_of-f-requires
footing_of-f-requires c = λ e. absurd (false≢true (sym c.unknown-q.ensures ∙ e))

pub returns : goal.returns
returns c =
    let A = c.args in
    eleven_below A.sw A.x A.l A.alt (lt A.alt 32·5) c.footing_of-f.result c.row_below.result
    c.requires.0 (c.row_below.ensures ∙ ap (λ (u : Float). row_below_of u c.footing_of-f.result A.alt) c.units_switch-sw0.ensures) c.footing_of-f.ensures (λ e. e)
    c.requires.1
