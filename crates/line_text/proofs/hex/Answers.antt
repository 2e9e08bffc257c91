-- `hex` meets its contract.
use mathlib.Core.Path.{◌≡◌}
use native.Mathlib.Omega.{arith}
use Rattle.line_text.proofs.Laws.{same_text, few, hex_is, length_hex}
use Rattle.line_text.proofs.hex.Goals as goal

pub put-requires : goal.put-requires
put-requires c =
    let w = c.hex-k.ensures in
    let h = few 16 16 _ _ 16 (omega arith) (omega arith) (omega arith) w.len in
    omega (arith, w.in_bounds.1)

pub returns : goal.returns
returns c =
    let h = few 16 16 _ _ 16 (omega arith) (omega arith) (omega arith) c.hex-k.ensures.len in
    let e : c.hex-k.result ≡ 16 = omega arith in
    (same_text _ _ _ _ _ _ (hex_is _ _ _ _ c.pattern-n.ensures e c.hex-k.ensures.digits) c.put.ensures, length_hex _)
