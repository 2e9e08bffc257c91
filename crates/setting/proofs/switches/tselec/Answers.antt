-- `tselec` meets its contract: at each turn the rest of the filling gives the whole rows.
use Prim.Native.Nat.{◌-◌}
use mathlib.Core.Path.{◌≡◌, refl, ◌∙◌, sym}
use borrow.Author.Rules.{rules}
use mir.Syntax.{w32}
use mir.Val.{of_z, to_z}
use Rattle.setting.specs.Switches.{given}
use Rattle.setting.proofs.Fill.{filled_more, filled_done, main_at, cross_at, flags_of_lem}
use Rattle.setting.proofs.switches.tselec.Goals as goal

pub loop-i-init : goal.loop-i-init
loop-i-init c = (refl, refl)

pub loop-i-preserved : goal.loop-i-preserved
loop-i-preserved c =
    let l = c.loop-i in
    let w = c.args.w in
    let e : to_z w32 (of_z w32 (given w l.i)) ≡ given w l.i = search rules in (
      rw (c.main_of.ensures, e) (filled_more 24 (main_at w) l.i l.sw (search rules) ∙ l.invariant.0),
      rw (c.cross_of.ensures, e) (filled_more 24 (cross_at w) l.i l.swc (search rules) ∙ l.invariant.1),
    )

pub returns : goal.returns
returns c =
    let l = c.loop-i in
    let w = c.args.w in
    flags_of_lem w l.sw l.swc c.nine_of-nine.result
    (sym (filled_done 24 (main_at w) l.i l.sw (search rules)) ∙ l.invariant.0)
    (sym (filled_done 24 (cross_at w) l.i l.swc (search rules)) ∙ l.invariant.1)
    c.nine_of-nine.ensures
