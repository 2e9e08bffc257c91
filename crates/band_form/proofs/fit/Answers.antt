-- `fit` meets its contract.
use borrow.Author.Rules.{rules}
use borrow.Author.Tests.{not-true, not-false}
use mathlib.Core.Path.{refl}
use lib.IntN.{pos}
use mir.Syntax.{w32}
use mir.Facts.{to_z-of_z}
use Rattle.band_form.proofs.Laws.{as_given, not_ok, not_rising, rising}
use Rattle.band_form.proofs.fit.Goals as goal

pub returns-then-not-q : goal.returns-then-not-q
returns-then-not-q c = not_ok _ (not-true _ c.if-not-q.true)

pub returns-then-not-below : goal.returns-then-not-below
returns-then-not-below c =
    not_rising _ (not-false _ c.if-not-q.false) _ _ c.from_of-from.ensures c.to_of-to.ensures _ (as_given (to_z-of_z {w = w32} {z = c.from_of-from.result} (search rules)) (to_z-of_z {w = w32} {z = c.to_of-to.result} (search rules)) _ c.below.ensures) (not-true _ c.if-not-below.true-raw)

pub returns : goal.returns
returns c =
    rising _ (not-false _ c.if-not-q.false) _ _ c.from_of-from.ensures c.to_of-to.ensures _
    (as_given (to_z-of_z {w = w32} {z = c.from_of-from.result} (search rules)) (to_z-of_z {w = w32} {z = c.to_of-to.result} (search rules)) _ c.below.ensures) (not-false _ c.if-not-below.false-raw) _
    (as_given {a = pos 2500001} refl (to_z-of_z {w = w32} {z = c.to_of-to.result} (search rules)) _ c.below-2.ensures)
