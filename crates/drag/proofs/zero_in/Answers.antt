-- `zero_in` meets its contract.
use mathlib.Core.Path.{◌≡◌, ◌∙◌, ap}
use borrow.Author.Rules.{rules}
use mir.Syntax.{w32}
use mir.Val.{of_z, to_z}
use lib.IntN.{ℤ}
use Rattle.setting.specs.Switches.{given, is_one, on_off}
use Rattle.drag.proofs.zero_in.Goals as goal

pub returns : goal.returns
returns c =
    let w = c.args.w in
    let e : to_z w32 (of_z w32 (given w 0)) ≡ given w 0 = search rules in
    c.main_of.ensures ∙ ap (λ (x : ℤ). on_off (is_one x)) e
