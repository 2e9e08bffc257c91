-- `put_row_lower` meets its contract.
use mathlib.Core.Path.{ap, ◌∙◌}
use Rattle.gts7_arithmetic.specs.declared.Site.{Site}
use Rattle.atmosphere.specs.Atmosphere.{eleven_from}
use Rattle.atmosphere.proofs.Laws.{site_mass}
use Rattle.atmosphere.proofs.put_row_lower.Goals as goal

pub row_lower-lower-requires : goal.row_lower-lower-requires
row_lower-lower-requires c =
    (site_mass _ _ _ _ _ _ _ c.site_from-x.ensures c.requires.1, c.requires.2)

pub returns : goal.returns
returns c =
    let A = c.args in
    c.put_row.ensures ∙ c.row_lower-lower.ensures ∙ ap (λ (x : Site). eleven_from A.v.sw x A.v.values A.n.alt) c.site_from-x.ensures
