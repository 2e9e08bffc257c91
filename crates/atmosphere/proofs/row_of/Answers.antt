-- `row_of` meets its contract.
use mathlib.Core.Path.{ap, sym, ◌∙◌}
use Rattle.parameters.specs.declared.Parameters.{Parameters}
use Rattle.atmosphere.specs.Atmosphere.{eleven_with, eleven_of}
use Rattle.atmosphere.proofs.Laws.{present_mass, row_with_law}
use borrow.Author.Rules.{rules}
use Rattle.atmosphere.proofs.row_of.Goals as goal

pub put_row_above-requires : goal.put_row_above-requires
put_row_above-requires c = (search rules, sym c.takes_upper_way.ensures ∙ c.if-takes_upper_way.true)

pub returns-then-takes_upper_way : goal.returns-then-takes_upper_way
unfolding eleven_of
returns-then-takes_upper_way c =
    let A = c.args in
    row_with_law c.present-c.result A.w A.n _ c.values_at-v.result c.put_row_above.ensures c.values_at-v.ensures (rw (← c.present-c.ensures) at present_mass)
    ∙ ap (λ (k : Parameters). eleven_with k A.w A.n) c.present-c.ensures

pub put_row_lower-requires : goal.put_row_lower-requires
put_row_lower-requires c =
    (search rules, (rw (← c.present-c.ensures) at present_mass), sym c.takes_upper_way.ensures ∙ c.if-takes_upper_way.false)

pub returns : goal.returns
unfolding eleven_of
returns c =
    let A = c.args in
    row_with_law c.present-c.result A.w A.n _ c.values_at-v.result c.put_row_lower.ensures c.values_at-v.ensures (rw (← c.present-c.ensures) at present_mass)
    ∙ ap (λ (k : Parameters). eleven_with k A.w A.n) c.present-c.ensures
