-- `decimal` meets its contract.
use native.Mathlib.Omega.{arith}
use Rattle.line_text.proofs.Laws.{same_text, few, decimal_is}
use Rattle.line_text.proofs.decimal.Goals as goal

pub put-requires : goal.put-requires
put-requires c =
    let w = c.decimal-k.ensures in
    let h = few 10 1 _ _ 20 (omega arith) (omega arith) (omega arith) w.len in
    omega (arith, w.in_bounds.1)

pub returns : goal.returns
returns c =
    let e = decimal_is _ _ _ c.decimal-k.ensures.len c.decimal-k.ensures.digits in
    let h = few 10 1 _ _ 20 (omega arith) (omega arith) (omega arith) c.decimal-k.ensures.len in
    (same_text _ _ _ _ _ _ e c.put.ensures, rw (← e) (omega (arith, c.decimal-k.ensures.in_bounds.1)))
