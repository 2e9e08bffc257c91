-- `fill` meets its contract: n bands are put, and the lines from `at` on go from k on.
use mathlib.Core.Path.{◌≡◌, sym, ap, ◌∙◌}
use native.Mathlib.Omega.{arith}
use mir.Syntax.{w32}
use mir.Facts.{to_z-of_z}
use borrow.Author.Rules.{rules}
use lib.ListN.{length, length-set}
use Rattle.band_form.proofs.Laws.{clean_few, clean_next, put_length, filled_from, filled_more, one_line_more, bands_first, filled_all}
use Rattle.band_form.proofs.fill.Goals as goal

pub loop-at-init : goal.loop-at-init
loop-at-init c = (search rules, search rules, c.requires.0, c.requires.1, search rules, ap (λ bs. filled_from 1 bs c.args.table.now) (bands_first c.args.text.now), search rules)

pub put-requires : goal.put-requires
put-requires c =
    let at = c.loop-at in
    omega (arith, clean_few _ _ _ c.band_at-f.ensures _ (omega arith) at.invariant.2)

pub overflow_add-k : goal.overflow_add-k
overflow_add-k c =
    let at = c.loop-at in
    omega (arith, at.invariant.6)

pub loop-at-smaller : goal.loop-at-smaller
loop-at-smaller c =
    let b = c.band_at-f.ensures in
    omega (arith, b.later, b.inside)

pub loop-at-preserved : goal.loop-at-preserved
loop-at-preserved c =
    let at = c.loop-at in
    let b = c.band_at-f.ensures in
    let few = clean_few _ _ _ b _ (omega arith) at.invariant.2 in (
      b.inside,
      omega arith,
      clean_next _ _ _ b _ (omega arith) at.invariant.2,
      put_length _ at.table _ at.k (omega arith) c.put.ensures ∙ at.invariant.3,
      one_line_more _ _ _ b at.k at.table at.table at.n ∙ at.invariant.4,
      filled_more _ _ _ b _ _ _ c.put.ensures ∙ at.invariant.5,
      omega arith,
    )

pub shape_of-table : goal.shape_of-table
shape_of-table c =
    let at = c.loop-at in
    length-set at.table 0 _ ∙ (at.invariant.3 ∙ sym c.requires.1)

pub returns : goal.returns
returns c =
    let at = c.loop-at in
    let e : at.at ≡ length c.args.text.now = omega arith in
    let z = c.to_i32-z.result in
    filled_all _ _ _ _ _ _ _ e at.invariant.4 at.invariant.6 c.requires.1 at.invariant.5 (to_z-of_z {w = w32} {z = z} (search rules) ∙ c.to_i32-z.ensures)
