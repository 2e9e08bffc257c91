-- `square_root::nearest` meets its contract. Assumes nothing.
use native.Mathlib.Omega.{arith}
use Rattle.square_root.proofs.Squares.{settled}
use Rattle.square_root.proofs.nearest.Goals as goal

pub overflow_add-p : goal.overflow_add-p
overflow_add-p c = omega (arith, c.if-p-a.true, c.requires.0, c.requires.3)

pub returns-then-a-p : goal.returns-then-a-p
returns-then-a-p c =
    settled c.args.a c.args.guess c.high-p.result c.requires.2 c.requires.3 c.high-p.ensures c.if-p-a.true c.if-a-p.true
