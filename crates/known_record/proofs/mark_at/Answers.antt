-- `mark_at` meets its contract.
use mathlib.Core.Path.{sym, ◌∙◌, ap}
use mathlib.Core.Bool.{false}
use lib.ListN.{get_or-map}
use Rattle.known_record.specs.KnownRecord.{mark_of, marks_of}
use Rattle.known_record.proofs.mark_at.Goals as goal

pub returns-then-marks-i : goal.returns-then-marks-i
unfolding marks_of
returns-then-marks-i c = let args = c.args in sym (get_or-map mark_of args.marks args.i false ∙ ap mark_of c.if-marks-i.true)

pub returns : goal.returns
unfolding marks_of
returns c = let args = c.args in sym (get_or-map mark_of args.marks args.i false ∙ ap mark_of c.if-marks-i.false)
