-- `gtd7_in_bands` meets its contract.
use Rattle.std.specs.Prelude.{Err}
use mathlib.Core.Path.{◌≡◌, sym, ap, ◌∙◌, subst}
use mathlib.Core.Bool.{false}
use mir.Syntax.{w64}
use mir.Facts.{to_z-of_z}
use borrow.Author.Rules.{rules}
use lib.IntN.{ℤ, pos}
use lib.Signed.{lt_z}
use lib.ListN.{length}
use Rattle.setting.specs.declared.Input.{Input}
use Rattle.acceptance.specs.Acceptance.{with_alt_of}
use Rattle.atmosphere.specs.Atmosphere.{answer_of, row_after}
use Rattle.band_table.specs.Table.{band_row}
use Rattle.band_table.specs.Kilometres.{kilometres_of_metres}
use Rattle.band_table.proofs.Laws.{found_inside}
use Rattle.bands.proofs.Laws.{longer, no_band_lem, in_band}
use Rattle.bands.proofs.gtd7_in_bands.Goals as goal

pub returns-then-out-ne11 : goal.returns-then-out-ne11
returns-then-out-ne11 c =
    let A = c.args in
    let r = longer A.table.now A.metre A.n A.out.now c.if-out-ne11.true in
    (ap Err c.at.ensures ∙ r.0, r.1)

pub returns-in_default : goal.returns-in_default
returns-in_default c =
    let A = c.args in
    let r = no_band_lem A.table.now A.metre A.n A.out.now c.if-out-ne11.false (sym c.in_default.is ∙ c.row_at.ensures ∙ ap (band_row A.table.now) (to_z-of_z {w = w64} {z = A.metre} (search rules))) in
    (ap Err c.at-in_default.ensures ∙ r.0, r.1)

pub kilometres-requires : goal.kilometres-requires
kilometres-requires c =
    let A = c.args in
    let f = found_inside A.table.now A.metre c.in-Some.w (sym (ap (band_row A.table.now) (to_z-of_z {w = w64} {z = A.metre} (search rules))) ∙ sym c.row_at.ensures ∙ c.in-Some.is) in
    subst (λ (z : ℤ). (lt_z z (pos 0) ≡ false) × (lt_z (pos 2500000) z ≡ false)) (sym (to_z-of_z {w = w64} {z = A.metre} (search rules))) f

pub returns : goal.returns
returns c =
    let A = c.args in
    let k = c.kilometres.ensures ∙ ap kilometres_of_metres (to_z-of_z {w = w64} {z = A.metre} (search rules)) in
    let m = c.with_alt-m.ensures ∙ ap (with_alt_of A.n) k in
    in_band A.table.now A.metre A.n A.out.now c.if-out-ne11.false c.in-Some.w (sym c.in-Some.is ∙ c.row_at.ensures ∙ ap (band_row A.table.now) (to_z-of_z {w = w64} {z = A.metre} (search rules)))
    c.gtd7.result _
    (c.gtd7.ensures.0 ∙ ap (λ (n : Input). answer_of c.in-Some.w n (length A.out.now)) m)
    (c.gtd7.ensures.1 ∙ ap (λ (n : Input). row_after c.in-Some.w n A.out.now) m)
