-- `sooner` meets its contract.
use mir.Syntax.{w32, w64}
use mir.Val.{SFits, to_z, of_z}
use mir.Facts.{to_z-of_z, sfits_widen}
use lib.IntN.{ℤ}
use Rattle.band_table.proofs.sooner.Goals as goal

-- 32 bits go into 64
wide : (z : ℤ) → SFits w32 z → SFits w64 (to_z w32 (of_z w32 z))
wide z h = rw (to_z-of_z {w = w32} {z = z} h) (sfits_widen {w = w32} {w' = w64} {z = z} tt h)

pub overflow_cast-result : goal.overflow_cast-result
overflow_cast-result c = wide c.args.to c.ranges.to

pub returns : goal.returns
returns c =
    let w = wide c.args.to c.ranges.to in
    rw (to_z-of_z {w = w64} {z = c.args.metre} c.ranges.metre, to_z-of_z {w = w64} {z = to_z w32 (of_z w32 c.args.to)} w, to_z-of_z {w = w32} {z = c.args.to} c.ranges.to)
