-- `count` meets its contract: n of the pairs below i pass the level.
use mathlib.Core.Path.{refl, sym, ◌∙◌}
use mathlib.Core.Bool.{true, false}
use native.Mathlib.Omega.{arith}
use Rattle.crossings_list.specs.CrossingsList.{below, those}
use Rattle.crossings_list.proofs.Laws.{counted, whole}
use Rattle.crossings_list.proofs.count.Goals.{then-passes, else-passes}
use Rattle.crossings_list.proofs.count.Goals as goal

pub loop-i-init : goal.loop-i-init
unfolding below those
loop-i-init c = (omega arith, refl)

pub loop-i-preserved : goal.loop-i-preserved
loop-i-preserved c =
    let at = c.loop-i in
    let A = c.args in
    let more = counted A.level A.d.now at.i at.n at.invariant.1 in
    elim c.if-passes.branch [
      | then-passes w ↦ (omega (arith, w.n-is), omega (arith, w.n-is, more true (sym w.if-passes.true ∙ c.passes.ensures) 1 refl))
      | else-passes w ↦ (omega (arith, w.n-is), omega (arith, w.n-is, more false (sym w.if-passes.false ∙ c.passes.ensures) 0 refl))
    ]

pub returns : goal.returns
returns c =
    let at = c.loop-i in
    let A = c.args in
    whole A.level A.d.now at.i at.n at.invariant.1 (omega (arith, c.saturating_sub-i-end.ensures))
