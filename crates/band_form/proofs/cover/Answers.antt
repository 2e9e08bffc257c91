-- `cover` meets its contract: from `at` on the lines are those from n on, after bands that reach up to `last`.
use Rattle.std.specs.Prelude.{Err}
use mathlib.Core.Path.{◌≡◌, refl, ap, ◌∙◌}
use native.Mathlib.Omega.{arith}
use mir.Syntax.{w32}
use mir.Val.{to_z}
use mir.Facts.{to_z-of_z}
use borrow.Author.Rules.{rules}
use lib.IntN.{pos}
use lib.ListN.{length}
use Rattle.band_form.specs.Bands.{cover_from}
use Rattle.band_form.proofs.Laws.{as_given, clean_few, clean_next, overlap, gap, goes_on, short, whole, bands_first}
use Rattle.band_form.proofs.cover.Goals as goal

pub loop-at-init : goal.loop-at-init
loop-at-init c = (search rules, search rules, c.requires, ap (cover_from 1 (pos 0)) (bands_first c.args.text.now))

pub returns-then-below : goal.returns-then-below
returns-then-below c =
    let at = c.loop-at in
    let f = c.from_of-from in
    ap Err c.at.ensures
    ∙ overlap _ _ _ c.band_at-f.ensures _ _ _ f.ensures _
    (as_given {b = to_z w32 at.last-bits} (to_z-of_z {w = w32} {z = f.result} (search rules)) refl _ c.below.ensures) c.if-below.true ∙ at.invariant.3

pub returns-then-below-2 : goal.returns-then-below-2
returns-then-below-2 c =
    let at = c.loop-at in
    let f = c.from_of-from in
    ap Err c.at-then-below-2.ensures
    ∙ gap _ _ _ c.band_at-f.ensures _ _ _ f.ensures _
    (as_given {b = to_z w32 at.last-bits} (to_z-of_z {w = w32} {z = f.result} (search rules)) refl _ c.below.ensures) c.if-below.false _
    (as_given {a = to_z w32 at.last-bits} refl (to_z-of_z {w = w32} {z = f.result} (search rules)) _ c.below-in-loop-at.ensures) c.if-below-2.true ∙ at.invariant.3

pub overflow_add-n : goal.overflow_add-n
overflow_add-n c =
    let at = c.loop-at in
    omega (arith, clean_few _ _ _ c.band_at-f.ensures _ at.invariant.1 at.invariant.2)

pub loop-at-smaller : goal.loop-at-smaller
loop-at-smaller c =
    let b = c.band_at-f.ensures in
    omega (arith, b.later, b.inside)

pub loop-at-preserved : goal.loop-at-preserved
loop-at-preserved c =
    let at = c.loop-at in
    let b = c.band_at-f.ensures in
    let f = c.from_of-from in (
      b.inside,
      search rules,
      clean_next _ _ _ b _ at.invariant.1 at.invariant.2,
      goes_on _ _ _ b _ _ _ f.ensures _
          (as_given {b = to_z w32 at.last-bits} (to_z-of_z {w = w32} {z = f.result} (search rules)) refl _ c.below.ensures) c.if-below.false _
          (as_given {a = to_z w32 at.last-bits} refl (to_z-of_z {w = w32} {z = f.result} (search rules)) _ c.below-in-loop-at.ensures) c.if-below-2.false _
          (to_z-of_z {w = w32} {z = c.to_of-last.result} (search rules) ∙ c.to_of-last.ensures) ∙ at.invariant.3,
    )

pub returns-then-below-3 : goal.returns-then-below-3
returns-then-below-3 c =
    let at = c.loop-at in
    let e : at.at ≡ length c.args.text.now = omega arith in
    ap Err c.at-then-below-3.ensures ∙ short _ _ _ e _ _ c.below-2.ensures c.if-below-3.true ∙ at.invariant.3

pub returns : goal.returns
returns c =
    let at = c.loop-at in
    let e : at.at ≡ length c.args.text.now = omega arith in
    whole _ _ _ e _ _ c.below-2.ensures c.if-below-3.false ∙ at.invariant.3
