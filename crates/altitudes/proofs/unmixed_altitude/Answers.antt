-- `unmixed_altitude` meets its contract: N2 is mixed at the altitudes below k, or they lie at or above 72.5 km.
use Rattle.std.specs.Prelude.{Err}
use mathlib.Core.Path.{refl, sym, ◌∙◌, ap}
use Prim.Native.Nat.{◌-◌}
use native.Mathlib.Omega.{arith}
use borrow.Author.Rules.{rules}
use Rattle.altitudes.specs.Within.{none_unmixed}
use Rattle.altitudes.proofs.Laws.{unmixed_here, mixed_here, all_mixed}
use Rattle.altitudes.proofs.unmixed_altitude.Goals as goal

pub returns-then-on : goal.returns-then-on
returns-then-on c =
    sym (none_unmixed _ 0 _ c.if-on.true)

pub loop-k-init : goal.loop-k-init
loop-k-init c = refl

pub returns-then-unmixed : goal.returns-then-unmixed
returns-then-unmixed c =
    let at = c.loop-k in
    ap Err c.at.ensures ∙ (unmixed_here _ _ at.k (search rules) _ c.unmixed.ensures c.if-unmixed.true ∙ at.invariant)

pub loop-k-preserved : goal.loop-k-preserved
loop-k-preserved c =
    let at = c.loop-k in
    mixed_here _ _ at.k (search rules) _ c.unmixed.ensures c.if-unmixed.false ∙ at.invariant

pub returns : goal.returns
returns c =
    let at = c.loop-k in
    all_mixed _ _ at.k (omega arith) ∙ at.invariant
