-- `backward` meets its contract.
use mathlib.Core.Path.{◌≡◌}
use Rattle.spline.specs.Sweep.{back}
use Rattle.spline.proofs.sweep.backward.Given as goal

abbrev pub invariant-loop-k : goal.invariant-loop-k
invariant-loop-k l = back l.k l.y2 l.u ≡ back l.m l.initial.y2 l.u
