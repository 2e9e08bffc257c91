-- `splint` meets its contract.
use mathlib.Core.Path.{refl, sym, ◌∙◌}
use Prim.Native.Nat.{◌-◌}
use borrow.Author.Rules.{rules}
use Rattle.spline.specs.Nodes.{splint_of}
use Rattle.spline.proofs.Walks.{search_lower, search_upper, search_done}
use Rattle.spline.proofs.nodes.splint.Goals as goal

pub loop-khi-init : goal.loop-khi-init
unfolding splint_of
loop-khi-init c = (search rules, search rules, (c.args.n - 1, search rules, refl))

pub loop-khi-preserved-then-xa-k : goal.loop-khi-preserved-then-xa-k
loop-khi-preserved-then-xa-k c =
    let at = c.loop-khi in
    let more = c.loop-khi-test.true in
    (search rules, search rules, (at.invariant.2.0 - 1, search rules, sym (search_lower _ _ _ _ _ _ _ more at.invariant.2.1 c.if-xa-k.true) ∙ at.invariant.2.2))

pub loop-khi-preserved : goal.loop-khi-preserved
loop-khi-preserved c =
    let at = c.loop-khi in
    let more = c.loop-khi-test.true in
    (search rules, search rules, (at.invariant.2.0 - 1, search rules, sym (search_upper _ _ _ _ _ _ _ more at.invariant.2.1 c.if-xa-k.false) ∙ at.invariant.2.2))

pub returns : goal.returns
returns c =
    let at = c.loop-khi in
    c.cubic.ensures ∙ (sym (search_done _ _ _ _ _ _ _ c.loop-khi-test.false) ∙ at.invariant.2.2)
