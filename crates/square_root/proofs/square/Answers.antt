-- `square_root::square` meets its contract. Assumes nothing.
use mathlib.Core.Path.{◌∙◌}
use Prim.Native.Nat.{◌*◌, ◌^◌}
use native.Mathlib.Omega.{arith}
use lib.Pow.{pow_pos}
use lib.Ieee.Nearest.{div_same}
use Rattle.square_root.proofs.square.Goals as goal

pub returns : goal.returns
returns c =
    let s = c.args.s in
    c.high.ensures ∙ div_same (s * 512 * (s * 2)) (2 ^ 64) (s * s) (2 ^ 54) (pow_pos 64) (pow_pos 54) (omega arith)
