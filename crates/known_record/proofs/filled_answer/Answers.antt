-- `filled_answer` meets its contract.
use Rattle.std.specs.Prelude.{Err, refl}
use Rattle.std.proofs.Common.{sym, ◌∙◌, ap}
use Rattle.acceptance.specs.Acceptance.{field_at}
use Rattle.acceptance.proofs.Judging.{is_field, no_field}
use Rattle.known_record.specs.KnownRecord.{filled_answer}
use Rattle.known_record.proofs.filled_answer.Goals as goal

pub returns-in-Some : goal.returns-in-Some
unfolding filled_answer
returns-in-Some c =
    let at = is_field _ _ (sym c.unfit.ensures ∙ c.in-Some.is) in
    ap Err c.at.ensures ∙ rw (at.0, at.1) refl

pub returns-in-Some-lacking_field : goal.returns-in-Some-lacking_field
unfolding filled_answer
returns-in-Some-lacking_field c =
    let at = is_field _ _ (sym c.lacking_field.ensures ∙ c.in-Some-lacking_field.is) in
    ap Err c.at-in-Some-lacking_field.ensures
    ∙ rw (no_field _ (sym c.unfit.ensures ∙ c.in_default.is), sym c.lacks_history.ensures, at.0, at.1) refl

pub returns : goal.returns
unfolding filled_answer
returns c =
    c.record_answer.ensures
    ∙ rw (no_field _ (sym c.unfit.ensures ∙ c.in_default.is), sym c.lacks_history.ensures, no_field _ (sym c.lacking_field.ensures ∙ c.in_default-lacking_field.is)) refl
