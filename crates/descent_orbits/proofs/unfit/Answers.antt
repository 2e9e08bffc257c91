-- `unfit` meets its contract: the settings below i are from 1 to 4.
use mathlib.Core.Path.{◌≡◌, refl, ap, ◌∙◌}
use mir.Syntax.{w32}
use mir.Facts.{to_z-of_z}
use lib.IntN.{pos}
use Prim.Native.Nat.{◌-◌}
use native.Mathlib.Omega.{arith}
use borrow.Author.Rules.{rules}
use lib.ListN.{get_or, length}
use Rattle.refusals.proofs.Index.{index_found, index_missing}
use Rattle.descent_orbits.specs.DescentOrbits.{setting_within, unfit_setting}
use Rattle.descent_orbits.proofs.Laws.{unfit_here, fits_here, all_fit}
use Rattle.descent_orbits.proofs.unfit.Goals as goal

pub loop-i-init : goal.loop-i-init
loop-i-init c = refl

pub returns-then-not-setting_within : goal.returns-then-not-setting_within
returns-then-not-setting_within c =
    let within = c.setting_within in
    let at = c.loop-i in
    let S = c.args.settings.now in
    let e = within.ensures ∙ ap setting_within (to_z-of_z {w = w32} {z = get_or S at.i (pos 0)} (search rules)) in
    index_found at.i _ _ (search rules) (unfit_here S at.i within.result (search rules) e c.if-not-setting_within.true-raw ∙ at.invariant)

pub loop-i-preserved : goal.loop-i-preserved
loop-i-preserved c =
    let within = c.setting_within in
    let at = c.loop-i in
    let S = c.args.settings.now in
    let e = within.ensures ∙ ap setting_within (to_z-of_z {w = w32} {z = get_or S at.i (pos 0)} (search rules)) in
    fits_here S at.i within.result (search rules) e c.if-not-setting_within.false-raw ∙ at.invariant

pub returns : goal.returns
returns c =
    let at = c.loop-i in
    let whole : at.i ≡ length c.args.settings.now = omega arith in
    let end : at.i ≡ unfit_setting c.args.settings.now = all_fit _ _ whole ∙ at.invariant in
    index_missing _ _ (omega (arith, whole, end))
