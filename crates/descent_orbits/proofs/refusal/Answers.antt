-- `refusal` meets its contract.
use Rattle.std.specs.Prelude.{Err, length, ◌<◌, refl}
use Rattle.std.proofs.Common.{ap, sym, subst, ◌∙◌}
use Rattle.refusals.proofs.Index.{found_index, missing_index}
use mir.Syntax.{w64}
use mir.Facts.{to_z-of_z}
use borrow.Author.Rules.{rules}
use Rattle.descent_orbits.proofs.Laws.{start_off, ill_set, too_many, no_room, all_well}
use Rattle.descent_orbits.proofs.refusal.Goals as goal

pub returns-then-not-start_within : goal.returns-then-not-start_within
returns-then-not-start_within c =
    let A = c.args in
    ap Err c.at.ensures
    ∙ start_off A.start A.settings.now A.room _ (to_z-of_z {w = w64} {z = A.start} (search rules)) _ c.start_within.ensures c.if-not-start_within.true-raw

pub returns-in-Some : goal.returns-in-Some
returns-in-Some c =
    let A = c.args in
    let at = found_index _ _ _ (sym c.unfit.ensures ∙ c.in-Some.is) in
    ap Err c.at-in-Some.ensures
    ∙ ill_set A.start A.settings.now A.room _ (to_z-of_z {w = w64} {z = A.start} (search rules)) _ c.start_within.ensures c.if-not-start_within.false-raw _
    (sym at.1) (subst (λ k. k < length A.settings.now) at.1 at.0)

pub returns-then-count-gt10000 : goal.returns-then-count-gt10000
returns-then-count-gt10000 c =
    let A = c.args in
    ap Err c.at-then-count-gt10000.ensures
    ∙ too_many A.start A.settings.now A.room _ (to_z-of_z {w = w64} {z = A.start} (search rules)) _ c.start_within.ensures c.if-not-start_within.false-raw _
    refl (missing_index _ _ (sym c.unfit.ensures ∙ c.in_default.is)) c.if-count-gt10000.true

pub returns-then-room-count : goal.returns-then-room-count
returns-then-room-count c =
    let A = c.args in
    ap Err c.at-then-room-count.ensures
    ∙ no_room A.start A.settings.now A.room _ (to_z-of_z {w = w64} {z = A.start} (search rules)) _ c.start_within.ensures c.if-not-start_within.false-raw _
    refl (missing_index _ _ (sym c.unfit.ensures ∙ c.in_default.is)) c.if-count-gt10000.false c.if-room-count.true

pub returns : goal.returns
returns c =
    let A = c.args in
    all_well A.start A.settings.now A.room _ (to_z-of_z {w = w64} {z = A.start} (search rules)) _ c.start_within.ensures c.if-not-start_within.false-raw _
    refl (missing_index _ _ (sym c.unfit.ensures ∙ c.in_default.is)) c.if-count-gt10000.false c.if-room-count.false
