-- `mark` meets its contract.
use mathlib.Core.Path.{sym, ap, ◌∙◌}
use mathlib.Core.Bool.{Bool, cond}
use lib.IntN.{ℤ, pos}
use Rattle.station_record.specs.Record.{mark_of}
use Rattle.station_record.proofs.mark.Goals as goal

pub returns-then-absent : goal.returns-then-absent
unfolding mark_of
returns-then-absent c = ap (λ (b : Bool). cond {A = ℤ} b (pos 0) (pos 1)) (sym (sym c.absent.ensures ∙ c.if-absent.true))

pub returns : goal.returns
unfolding mark_of
returns c = ap (λ (b : Bool). cond {A = ℤ} b (pos 0) (pos 1)) (sym (sym c.absent.ensures ∙ c.if-absent.false))
