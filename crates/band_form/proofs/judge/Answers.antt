-- `judge` meets its contract.
use Rattle.std.specs.Prelude.{Err}
use mathlib.Core.Path.{sym, ap, ◌∙◌}
use Rattle.band_form.proofs.Laws.{answer_cover, answer_11}
use Rattle.band_form.proofs.judge.Goals as goal

pub cover-requires : goal.cover-requires
cover-requires c = sym c.unfit-n.ensures ∙ c.if-n-eq0.true

pub returns-then-n-eq0 : goal.returns-then-n-eq0
returns-then-n-eq0 c = answer_cover _ _ c.unfit-n.ensures c.if-n-eq0.true _ c.cover.ensures

pub returns : goal.returns
returns c = ap Err c.at.ensures ∙ answer_11 _ _ c.unfit-n.ensures c.if-n-eq0.false
