-- `square_root::raised` meets its contract. Assumes nothing.
use Prim.Native.Nat.{◌-◌, ◌^◌, ◌<◌}
use Rattle.square_root.proofs.raised.Reads as reads
use Rattle.square_root.proofs.raised.Lts as lts
use Rattle.square_root.proofs.square.Reads as square-reads
use Rattle.square_root.proofs.raised.Given as goal

abbrev pub invariant-loop-r : goal.invariant-loop-r
invariant-loop-r l = l.r < 2 ^ 53

abbrev pub decreases-loop-r : goal.decreases-loop-r
decreases-loop-r l = 2 ^ 53 - l.r
