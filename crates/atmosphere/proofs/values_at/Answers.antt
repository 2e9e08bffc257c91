-- `values_at` meets its contract.
use mathlib.Core.Path.{ap, ◌∙◌}
use Rattle.needed_sets.specs.declared.Need.{Need}
use Rattle.expansion_values.specs.ExpansionValues.{record_values_of}
use Rattle.atmosphere.proofs.values_at.Goals as goal

pub returns : goal.returns
returns c =
    let A = c.args in
    c.record_values.ensures.0 ∙ ap (λ (a : Need). record_values_of A.w A.n a) c.need_at-a.ensures
