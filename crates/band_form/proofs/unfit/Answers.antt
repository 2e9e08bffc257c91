-- `unfit` meets its contract: the lines from `at` on have the numbers from n on.
use mathlib.Core.Path.{◌≡◌, refl, sym, ◌∙◌}
use native.Mathlib.Omega.{arith}
use borrow.Author.Rules.{rules}
use borrow.Author.Tests.{not-true, not-false}
use lib.ListN.{length}
use Rattle.band_form.proofs.Laws.{unfit_65, unfit_here, unfit_later, unfit_none}
use Rattle.band_form.proofs.unfit.Goals as goal

pub loop-at-init : goal.loop-at-init
loop-at-init c = (search rules, refl)

pub returns-then-n-gt64 : goal.returns-then-n-gt64
returns-then-n-gt64 c =
    let at = c.loop-at in
    unfit_65 _ _ _ c.band_at-f.ensures _ c.if-n-gt64.true ∙ at.invariant.1

pub returns-then-not-fit : goal.returns-then-not-fit
returns-then-not-fit c =
    let at = c.loop-at in
    unfit_here _ _ _ c.band_at-f.ensures _ c.if-n-gt64.false (sym c.fit.ensures ∙ not-true _ c.if-not-fit.true-raw) ∙ at.invariant.1

pub loop-at-smaller : goal.loop-at-smaller
loop-at-smaller c =
    let b = c.band_at-f.ensures in
    omega (arith, b.later, b.inside)

pub loop-at-preserved : goal.loop-at-preserved
loop-at-preserved c =
    let at = c.loop-at in
    let b = c.band_at-f.ensures in
    (b.inside, unfit_later _ _ _ b _ c.if-n-gt64.false (sym c.fit.ensures ∙ not-false _ c.if-not-fit.false-raw) ∙ at.invariant.1)

pub returns : goal.returns
returns c =
    let at = c.loop-at in
    let e : at.at ≡ length c.args.text.now = omega arith in
    unfit_none _ _ _ e ∙ at.invariant.1
