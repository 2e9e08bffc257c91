-- `square_root::lowered` meets its contract. Assumes nothing.
use Prim.Native.Nat.{◌+◌, ◌-◌, ◌*◌, ◌^◌, ◌<◌, ◌≤◌}
use Rattle.square_root.proofs.lowered.Reads as reads
use Rattle.square_root.proofs.lowered.Lts as lts
use Rattle.square_root.proofs.raised.Reads as raised-reads
use Rattle.square_root.proofs.square.Reads as square-reads
use Rattle.square_root.proofs.lowered.Given as goal

abbrev pub invariant-loop-r : goal.invariant-loop-r
invariant-loop-r l = (l.r < 2 ^ 53) × (1 ≤ l.r) × (l.a * 2 ^ 54 ≤ (2 * l.r + 1) * (2 * l.r + 1))

abbrev pub decreases-loop-r : goal.decreases-loop-r
decreases-loop-r l = l.r
