-- `cos_again` meets its contract.
use mathlib.Core.Path.{sym, ◌∙◌, ap}
use Rattle.elementary.specs.Trig.{cos_of}
use Rattle.views.proofs.phases.cos_again.Goals as goal

pub returns-then-same : goal.returns-then-same
returns-then-same c = c.requires ∙ ap cos_of (sym (c.same.ensures c.if-same.true))
