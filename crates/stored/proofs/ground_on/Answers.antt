-- `ground_on` meets its contract.
use mathlib.Core.Path.{ap, ◌∙◌}
use Rattle.footing.specs.declared.Footing.{Footing}
use Rattle.footing.specs.Footing.{row_below_of}
use Rattle.stored.proofs.ground_on.Goals as goal

pub returns : goal.returns
returns c =
    let A = c.args in
    c.put.ensures ∙ c.row_below-r.ensures ∙ ap (λ (f : Footing). row_below_of A.sw0 f A.alt) c.footing_from-f.ensures
