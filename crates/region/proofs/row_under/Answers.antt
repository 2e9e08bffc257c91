-- `row_under` meets its contract.
use mathlib.Core.Path.{ap, ◌∙◌}
use mathlib.Core.List.{List}
use lib.Ieee.{Float}
use Rattle.numbers.specs.Arithmetic.{◌‼◌}
use Rattle.numbers.specs.Literals.{72·5}
use Rattle.places.specs.Place.{under_of}
use Rattle.region.specs.Region.{row_under}
use Rattle.region.proofs.Laws.{under_logged}
use Rattle.region.proofs.row_under.Goals as goal

pub temperature_at-t1-requires : goal.temperature_at-t1-requires
temperature_at-t1-requires c =
    let A = c.args in
    c.under-p.ensures ∙ ap (λ (l : List Float). under_of A.h.re A.s A.z (l ‼ 15) 72·5) c.pdl1-l.ensures

pub row_at-requires : goal.row_at-requires
row_at-requires c = (under_logged _ _ _ _ _ _ c.under-p.ensures c.requires.0, under_logged _ _ _ _ _ _ c.under-k.ensures c.requires.1)

pub returns : goal.returns
unfolding row_under
returns c = simp (c.row_at.ensures, c.temperature_at-t1.ensures, c.sqrt-r.ensures, c.under-k.ensures, c.under-p.ensures, c.pdl1-l.ensures)
