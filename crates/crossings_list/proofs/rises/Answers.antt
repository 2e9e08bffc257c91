-- `rises` meets its contract: the altitudes below i rise.
use mathlib.Core.Path.{◌≡◌, sym, ◌∙◌}
use Prim.Native.Nat.{◌+◌, ◌-◌}
use native.Mathlib.Omega.{arith}
use lib.ListN.{length}
use Rattle.std.proofs.lemmas.Bool.{eqb-false}
use Rattle.crossings_list.proofs.Laws.{begins, falls_here, rises_here, all_rise}
use Rattle.crossings_list.proofs.rises.Goals as goal

pub loop-i-init : goal.loop-i-init
loop-i-init c = begins c.args.alts.now (eqb-false (length c.args.alts.now) 0 (sym c.is_empty.ensures ∙ c.if-is_empty.false))

pub returns-then-not-alts-i : goal.returns-then-not-alts-i
returns-then-not-alts-i c =
    let at = c.loop-i in
    falls_here c.args.alts.now _ at.i c.loop-i-test.true c.if-not-alts-i.true ∙ at.invariant

pub loop-i-preserved : goal.loop-i-preserved
loop-i-preserved c =
    let at = c.loop-i in
    let e : at.i + 1 - 1 ≡ at.i = omega arith in
    rw e (rises_here c.args.alts.now _ at.i c.loop-i-test.true c.if-not-alts-i.false ∙ at.invariant)

pub returns : goal.returns
returns c =
    let at = c.loop-i in
    let some = eqb-false (length c.args.alts.now) 0 (sym c.is_empty.ensures ∙ c.if-is_empty.false) in
    let e : length c.args.alts.now ≡ at.i = omega (arith, some) in
    e ∙ all_rise _ _ _ (sym e) ∙ at.invariant
