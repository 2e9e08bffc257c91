-- `row_above` meets its contract.
use mathlib.Core.Path.{refl, sym, ap, ◌∙◌}
use borrow.Author.Tests.{not-true}
use Rattle.gts7_arithmetic.specs.declared.Gts7Output.{Gts7Output}
use Rattle.atmosphere.specs.Rows.{eleven_above}
use Rattle.atmosphere.proofs.Laws.{unmixed_dm28, dm28_at}
use Rattle.atmosphere.proofs.row_above.Goals as goal

pub unmixed_row-row-requires : goal.unmixed_row-row-requires
unmixed_row-row-requires c = (c.mixed_at-m.ensures, sym c.some_mixed.ensures ∙ not-true _ c.if-not-some_mixed.true-raw)

pub returns-then-not-some_mixed : goal.returns-then-not-some_mixed
returns-then-not-some_mixed c =
    let A = c.args in (
      c.unmixed_row-row.ensures ∙ eleven_above A.sw A.x A.l A.alt _ _ c.pick-altt.result refl refl c.pick-altt.ensures c.requires,
      dm28_at A.sw A.x A.l c.pick-altt.result _ _
          (unmixed_dm28 A.sw A.x c.pick-altt.result A.l c.mixed_at-m.result c.mixed_at-m.ensures (sym c.some_mixed.ensures ∙ not-true _ c.if-not-some_mixed.true-raw))
          c.pick-altt.ensures,
    )

pub returns : goal.returns
returns c =
    let A = c.args in (
      eleven_above A.sw A.x A.l A.alt c.above-b.result c.gts7_stage-u.result c.pick-altt.result c.above-b.ensures c.gts7_stage-u.ensures c.pick-altt.ensures c.requires,
      dm28_at A.sw A.x A.l c.pick-altt.result _ _ (ap (λ (u : Gts7Output). u.base.dm) c.gts7_stage-u.ensures) c.pick-altt.ensures,
    )
