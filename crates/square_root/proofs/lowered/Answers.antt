-- `square_root::lowered` meets its contract. Assumes nothing.
use Prim.Native.Nat.{◌-◌, ◌*◌}
use native.Mathlib.Omega.{arith}
use Rattle.square_root.proofs.Squares.{some, one_less, reached, missed}
use Rattle.square_root.proofs.lowered.Reads as reads
use Rattle.square_root.proofs.lowered.Lts as lts
use Rattle.square_root.proofs.raised.Reads as raised-reads
use Rattle.square_root.proofs.square.Reads as square-reads
use Rattle.square_root.proofs.lowered.Goals as goal

pub raised-r-requires : goal.raised-r-requires
raised-r-requires c = (c.requires.0, c.requires.2)

pub loop-r-init : goal.loop-r-init
loop-r-init c =
    (c.raised-r.ensures.0, some c.args.a c.raised-r.result c.requires.1 c.raised-r.ensures.1.over, c.raised-r.ensures.1.over)

pub overflow_mul-r : goal.overflow_mul-r
overflow_mul-r c = omega (arith, c.loop-r.invariant.0)

pub overflow_sub-r : goal.overflow_sub-r
overflow_sub-r c = omega (arith, c.loop-r.invariant.1)

pub square-requires : goal.square-requires
square-requires c = omega (arith, c.loop-r.invariant.0)

pub overflow_sub-r-in-loop-r : goal.overflow_sub-r-in-loop-r
overflow_sub-r-in-loop-r c = c.loop-r.invariant.1

pub loop-r-smaller : goal.loop-r-smaller
loop-r-smaller c = omega (arith, c.loop-r.invariant.1)

pub loop-r-preserved : goal.loop-r-preserved
loop-r-preserved c =
    let a = c.args.a in
    let r = c.loop-r.r in
    let o = one_less a r c.loop-r.invariant.1 (reached a (2 * r - 1) c.square.result c.square.ensures c.loop-r-test.true) in
    (omega (arith, c.loop-r.invariant.0), some a (r - 1) c.requires.1 o, o)

pub returns : goal.returns
returns c =
    record {
      over = c.loop-r.invariant.2;
      under = missed c.args.a (2 * c.loop-r.r - 1) c.square.result c.square.ensures c.loop-r-test.false;
      small = (c.loop-r.invariant.1, c.loop-r.invariant.0);
    }
