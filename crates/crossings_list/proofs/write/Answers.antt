-- `write` meets its contract: the list of the pairs below i stands at the start.
use mathlib.Core.Path.{refl, sym, ◌∙◌}
use mathlib.Core.Bool.{true, false}
use native.Mathlib.Omega.{arith}
use lib.ListN.{length}
use Rattle.crossings_list.specs.CrossingsList.{below, those}
use Rattle.crossings_list.proofs.Laws.{room, written, whole_written}
use Rattle.crossings_list.proofs.write.Goals.{then-passes, else-passes}
use Rattle.crossings_list.proofs.write.Goals as goal

pub loop-i-init : goal.loop-i-init
unfolding below those
loop-i-init c = (refl, refl)

pub bounds-out-n : goal.bounds-out-n
bounds-out-n c =
    let at = c.loop-i in
    let A = c.args in
    let fits = room A.level A.d.now at.i at.n at.invariant.0 true (sym c.if-passes.true ∙ c.passes.ensures) (omega (arith, c.saturating_sub-i-end.ensures)) (length A.out.now) c.requires in
    omega (arith, fits.1 refl)

pub loop-i-preserved : goal.loop-i-preserved
loop-i-preserved c =
    let at = c.loop-i in
    let A = c.args in
    elim c.if-passes.branch [
      | then-passes w ↦
          let f = sym w.if-passes.true ∙ c.passes.ensures in
          let fits = room A.level A.d.now at.i at.n at.invariant.0 true f (omega (arith, c.saturating_sub-i-end.ensures)) (length A.out.now) c.requires in
          written A.level A.d.now at.i at.n at.invariant.0 true f at.out A.out.now _ _ fits.1 at.invariant.1 w.out-is w.n-is
      | else-passes w ↦
          let f = sym w.if-passes.false ∙ c.passes.ensures in
          let fits = room A.level A.d.now at.i at.n at.invariant.0 false f (omega (arith, c.saturating_sub-i-end.ensures)) (length A.out.now) c.requires in
          written A.level A.d.now at.i at.n at.invariant.0 false f at.out A.out.now _ _ fits.1 at.invariant.1 w.out-is (omega (arith, w.n-is))
    ]

pub returns : goal.returns
returns c =
    let at = c.loop-i in
    let A = c.args in
    whole_written A.level A.d.now at.i at.n at.invariant.0 (omega (arith, c.saturating_sub-i-end.ensures)) at.out A.out.now at.invariant.1
