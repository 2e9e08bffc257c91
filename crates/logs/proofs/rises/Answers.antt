-- `rises` meets its contract: the seconds below i rise.
use mathlib.Core.Path.{◌≡◌, sym, ◌∙◌}
use Prim.Native.Nat.{◌-◌, ◌+◌}
use native.Mathlib.Omega.{arith}
use Rattle.std.specs.Prelude.{◌≢◌}
use borrow.Author.Tests.{eqb-true, eqb-false}
use lib.ListN.{length, get_or}
use Rattle.logs.proofs.Laws.{begins, none_there, falls_here, rises_here, all_rise}
use Rattle.logs.proofs.rises.Goals as goal

pub returns-then-is_empty : goal.returns-then-is_empty
returns-then-is_empty c = none_there c.args.seconds.now (eqb-true _ _ (sym c.if-is_empty.ensures))

pub loop-i-init : goal.loop-i-init
loop-i-init c = begins c.args.seconds.now (eqb-false _ _ (sym c.if-is_empty.ensures))

pub returns-then-seconds-i : goal.returns-then-seconds-i
returns-then-seconds-i c = falls_here c.args.seconds.now _ c.loop-i.i c.loop-i-test.true c.if-seconds-i.true ∙ c.loop-i.invariant

pub loop-i-preserved : goal.loop-i-preserved
loop-i-preserved c =
    let s = c.args.seconds.now in
    let at = c.loop-i in
    let e : at.i + 1 - 1 ≡ at.i = omega arith in
    rw e (rises_here s (get_or s (at.i - 1) 0) at.i c.loop-i-test.true c.if-seconds-i.false ∙ at.invariant)

pub returns : goal.returns
returns c =
    let s = c.args.seconds.now in
    let at = c.loop-i in
    let some : length s ≢ 0 = eqb-false _ _ (sym c.if-is_empty.ensures) in
    let e : at.i ≡ length s = omega arith in
    sym e ∙ all_rise s _ at.i e ∙ at.invariant
