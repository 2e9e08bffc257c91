-- `put_row_above` meets its contract.
use mathlib.Core.Path.{ap, ◌∙◌}
use Rattle.gts7_arithmetic.specs.declared.Site.{Site}
use Rattle.atmosphere.specs.Atmosphere.{eleven_from}
use Rattle.atmosphere.proofs.put_row_above.Goals as goal

pub row_above-r-requires : goal.row_above-r-requires
row_above-r-requires c = c.requires.1

pub returns : goal.returns
returns c =
    let A = c.args in
    c.put_row.ensures ∙ c.row_above-r.ensures.0 ∙ ap (λ (x : Site). eleven_from A.v.sw x A.v.values A.n.alt) c.site_from-x.ensures
