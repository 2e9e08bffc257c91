-- `square_root::raised` meets its contract. Assumes nothing.
use Prim.Native.Nat.{◌+◌, ◌-◌, ◌*◌}
use native.Mathlib.Omega.{arith}
use Rattle.square_root.proofs.Squares.{stays, reached}
use Rattle.square_root.proofs.raised.Reads as reads
use Rattle.square_root.proofs.raised.Lts as lts
use Rattle.square_root.proofs.square.Reads as square-reads
use Rattle.square_root.proofs.raised.Goals as goal

pub loop-r-init : goal.loop-r-init
loop-r-init c = omega arith

pub overflow_mul-r : goal.overflow_mul-r
overflow_mul-r c = omega arith

pub overflow_add-r : goal.overflow_add-r
overflow_add-r c = omega arith

pub square-requires : goal.square-requires
square-requires c = omega arith

pub overflow_add-r-in-loop-r : goal.overflow_add-r-in-loop-r
overflow_add-r-in-loop-r c = omega arith

pub loop-r-smaller : goal.loop-r-smaller
loop-r-smaller c = omega arith

pub loop-r-preserved : goal.loop-r-preserved
loop-r-preserved c = stays _ _ c.square.result c.loop-r.invariant c.square.ensures c.loop-r-test.true c.requires.0

pub returns : goal.returns
returns c = (c.loop-r.invariant, record { over = reached _ (2 * c.loop-r.r + 1) c.square.result c.square.ensures c.loop-r-test.false })
