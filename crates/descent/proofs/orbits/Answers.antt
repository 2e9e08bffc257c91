-- `orbits` meets its contract: the first i orbits are flown, down to a.
use mathlib.Core.Path.{refl}
use Prim.Native.Nat.{◌-◌}
use mir.Syntax.{w32}
use mir.Facts.{to_z-of_z}
use native.Mathlib.Omega.{arith}
use borrow.Author.Rules.{rules}
use lib.IntN.{pos}
use lib.ListN.{get_or}
use Rattle.std.proofs.Common.{subst}
use Rattle.std.specs.Prelude.{◌≡◌, length}
use Rattle.descent_orbits.specs.declared.Ending.TheVariants.{Spent}
use Rattle.descent_orbits.specs.Lent.{Ended}
use Rattle.descent_orbits.proofs.Turns.{begun, all_flown, stopped, sunk, flies, Answered}
use Rattle.descent.specs.Stored.{station_density}
use Rattle.descent.proofs.Laws.{orbit_told}
use Rattle.descent.proofs.orbits.Goals as goal

pub loop-i-init : goal.loop-i-init
loop-i-init c = (search rules, search rules, begun _ _ _ _)

pub returns-in-Ends : goal.returns-in-Ends
returns-in-Ends c =
    let at = c.loop-i in
    let A = c.args in
    let S = A.settings.now in
    let D = station_density A.whole.now A.numbers.now in
    let s = to_z-of_z {w = w32} {z = get_or S at.i (pos 0)} (search rules) in
    let p = orbit_told D at.a c.orbit_at.result _ _ _ c.orbit_at.ensures c.density-d.ensures s in
    stopped D A.start S A.losses.now at.a at.i at.losses at.invariant.2 (search rules) c.orbit_at.result p _ c.in-Ends.is

pub put_loss-requires : goal.put_loss-requires
put_loss-requires c =
    let k = sunk _ _ _ _ c.orbit_at.ensures c.in-Loses.is in
    (search rules, omega (arith, k, c.loop-i.invariant.1))

pub overflow_sub-a : goal.overflow_sub-a
overflow_sub-a c =
    omega (arith, sunk _ _ _ _ c.orbit_at.ensures c.in-Loses.is)

pub loop-i-preserved : goal.loop-i-preserved
loop-i-preserved c =
    let at = c.loop-i in
    let A = c.args in
    let S = A.settings.now in
    let D = station_density A.whole.now A.numbers.now in
    let s = to_z-of_z {w = w32} {z = get_or S at.i (pos 0)} (search rules) in
    let p = orbit_told D at.a c.orbit_at.result _ _ _ c.orbit_at.ensures c.density-d.ensures s in
    let k = sunk _ _ _ _ c.orbit_at.ensures c.in-Loses.is in (
      omega (arith, k),
      omega (arith, at.invariant.1),
      rw c.put_loss.ensures
          (flies D A.start S A.losses.now at.a at.i at.losses at.invariant.2 (search rules) c.orbit_at.result p _ c.in-Loses.is c.requires.2),
    )

pub returns : goal.returns
returns c =
    let at = c.loop-i in
    let A = c.args in
    let S = A.settings.now in
    let D = station_density A.whole.now A.numbers.now in
    let e : at.i ≡ length S = omega arith in
    subst (λ k. Answered D A.start S A.losses.now (Ended Spent at.a k) at.losses) e (all_flown D A.start S A.losses.now at.a at.i at.losses at.invariant.2 e)
