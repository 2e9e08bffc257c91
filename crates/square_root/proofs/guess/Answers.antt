-- `square_root::guess` meets its contract. Assumes nothing.
use mathlib.Core.Path.{sym, subst}
use mathlib.Core.Bool.{Bool, not}
use lib.Dec.{T}
use Rattle.fixed_point.proofs.Range.{passes_left}
use Rattle.square_root.proofs.guess.Goals as goal

pub float_to_bits-result : goal.float_to_bits-result
float_to_bits-result c = subst (λ (b : Bool). T (not b)) (sym (passes_left _ _ c.if-r-2.true)) tt
