-- `all_within` meets its contract: all says it of the altitudes below k.
use mathlib.Core.Path.{refl, ◌∙◌}
use Prim.Native.Nat.{◌-◌}
use native.Mathlib.Omega.{arith}
use borrow.Author.Rules.{rules}
use Rattle.altitudes.specs.Within.{all_within}
use Rattle.altitudes.proofs.Laws.{within_here, all_within_lem}
use Rattle.altitudes.proofs.all_within.Goals as goal

pub loop-z-init : goal.loop-z-init
loop-z-init c = refl

pub loop-z-preserved : goal.loop-z-preserved
loop-z-preserved c =
    let at = c.loop-z in
    let alts = c.args.alts.now in
    within_here alts at.z-index (search rules) at.all _ c.within-all.ensures ∙ at.invariant

pub returns : goal.returns
returns c =
    let at = c.loop-z in
    all_within_lem c.args.alts.now at.z-index at.all (omega arith) ∙ at.invariant
