-- `lacking_field` meets its contract: no field below i is lacking.
use Rattle.std.specs.Prelude.{true, false, refl}
use Rattle.std.proofs.Common.{◌∙◌, ap, arith, rules}
use Rattle.acceptance.specs.Acceptance.{field_at, found_of}
use Rattle.acceptance.proofs.Lowest.{field_some}
use Rattle.known_record.specs.KnownRecord.{lacking, lacking_field}
use Rattle.known_record.proofs.Laws.{lacking_here, known_here, ten_known}
use Rattle.known_record.proofs.lacking_field.Goals as goal

pub loop-i-init : goal.loop-i-init
unfolding lacking_field
loop-i-init c = refl

pub returns-then-counts-i : goal.returns-then-counts-i
returns-then-counts-i c =
    field_some c.loop-i.i (omega arith)
    ∙ ap field_at (lacking_here c.args.counts _ _ _ (search rules) _ c.known_at.ensures c.if-counts-i.true ∙ c.loop-i.invariant)

pub loop-i-preserved : goal.loop-i-preserved
loop-i-preserved c = known_here c.args.counts _ _ _ (search rules) _ c.known_at.ensures c.if-counts-i.false ∙ c.loop-i.invariant

pub returns-then-no_history : goal.returns-then-no_history
unfolding found_of
returns-then-no_history c = ap field_at (ten_known c.args.counts c.args.known _ true c.loop-i.i (omega arith) c.if-no_history.true ∙ c.loop-i.invariant)

pub returns : goal.returns
unfolding found_of
returns c = ap field_at (ten_known c.args.counts c.args.known _ false c.loop-i.i (omega arith) c.if-no_history.false ∙ c.loop-i.invariant)
