-- `put_loss` meets its contract.
use mathlib.Core.Path.{ap}
use mir.Syntax.{w64}
use mir.Facts.{to_z_pos}
use native.Mathlib.Omega.{arith}
use lib.IntN.{ℤ}
use lib.ListN.{set}
use Rattle.descent_orbits.proofs.put_loss.Goals as goal

pub returns : goal.returns
returns c = ap (λ (z : ℤ). set c.args.losses.now c.args.i z) (to_z_pos w64 {n = c.args.loss} (omega (arith, c.requires.1)))
