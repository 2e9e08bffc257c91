-- `fixed_point::offset` meets its contract. Assumes nothing.
use Prim.Native.Nat.{◌+◌, ◌-◌}
use Rattle.fixed_point.proofs.Choice.{choose_zero, choose_other}
use Rattle.fixed_point.proofs.offset.Goals as goal

pub returns-then-h-eq0 : goal.returns-then-h-eq0
returns-then-h-eq0 c =
    let a = c.args in
    choose_zero a.h (a.u + a.p) (a.u - a.p) c.if-h-eq0.true

pub overflow_sub-result : goal.overflow_sub-result
overflow_sub-result c = c.requires.1 c.if-h-eq0.false

pub returns : goal.returns
returns c =
    let a = c.args in
    choose_other a.h (a.u + a.p) (a.u - a.p) c.if-h-eq0.false
