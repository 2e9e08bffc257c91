-- `row_at` meets its contract: the bands from the i-th on give what all give.
use mathlib.Core.Path.{◌≡◌, ap, ◌∙◌}
use Prim.Native.Nat.{◌+◌, ◌*◌, ◌-◌}
use native.Mathlib.Omega.{arith}
use mir.Syntax.{w32, w64}
use mir.Val.{to_z, of_z}
use mir.Facts.{to_z-of_z}
use borrow.Author.Rules.{rules}
use lib.IntN.{pos}
use lib.ListN.{get_or}
use Rattle.band_table.specs.Table.{row_from, band_count}
use Rattle.band_table.proofs.Laws.{row_here, row_later, row_none, row_length, row_below, row_above, row_within}
use Rattle.band_table.proofs.row_at.Goals as goal

pub returns-then-table-ne1601 : goal.returns-then-table-ne1601
returns-then-table-ne1601 c = row_length _ _ c.if-table-ne1601.true

pub returns-then-metre-lt0 : goal.returns-then-metre-lt0
returns-then-metre-lt0 c =
    row_below _ _ c.if-table-ne1601.false _ (to_z-of_z {w = w64} {z = c.args.metre} (search rules)) c.if-metre-lt0.true

pub returns-then-metre-gt2500000 : goal.returns-then-metre-gt2500000
returns-then-metre-gt2500000 c =
    row_above _ _ c.if-table-ne1601.false _ (to_z-of_z {w = w64} {z = c.args.metre} (search rules)) c.if-metre-lt0.false c.if-metre-gt2500000.true

pub loop-i-init : goal.loop-i-init
loop-i-init c =
    let z = get_or c.args.table.now 0 (pos 0) in
    let n = c.count-bands.ensures in
    let e : c.count-bands.result - 0 ≡ c.count-bands.result = omega arith in
    rw e (ap (λ m. row_from m c.args.table.now 1 (to_z w64 (of_z w64 c.args.metre))) (n.0 ∙ ap band_count (to_z-of_z {w = w32} {z = z} (search rules))))

pub returns-then-sooner : goal.returns-then-sooner
returns-then-sooner c =
    let at = c.loop-i in
    let z = get_or c.args.table.now (1 + 25 * at.i) (pos 0) in
    row_here _ _ _ _ _ (omega arith) (to_z-of_z {w = w32} {z = z} (search rules)) _ c.sooner.ensures c.if-sooner.true _ c.row_from-w.ensures
    ∙ (at.invariant ∙ row_within _ _ c.if-table-ne1601.false _ (to_z-of_z {w = w64} {z = c.args.metre} (search rules)) c.if-metre-lt0.false c.if-metre-gt2500000.false)

pub loop-i-preserved : goal.loop-i-preserved
loop-i-preserved c =
    let at = c.loop-i in
    let n = c.count-bands.result in
    let z = get_or c.args.table.now (1 + 25 * at.i) (pos 0) in
    let e : n - (at.i + 1) ≡ n - at.i - 1 = omega arith in
    let f : 1 + 25 * (at.i + 1) ≡ 1 + 25 * at.i + 25 = omega arith in
    rw (e, f) (row_later _ _ _ _ _ (omega arith) (to_z-of_z {w = w32} {z = z} (search rules)) _ c.sooner.ensures c.if-sooner.false ∙ at.invariant)

pub returns : goal.returns
returns c =
    let at = c.loop-i in
    let e : c.count-bands.result - at.i ≡ 0 = omega arith in
    row_none _ _ _ _ e ∙ (at.invariant ∙ row_within _ _ c.if-table-ne1601.false _ (to_z-of_z {w = w64} {z = c.args.metre} (search rules)) c.if-metre-lt0.false c.if-metre-gt2500000.false)
