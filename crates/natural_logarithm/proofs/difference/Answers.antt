-- `natural_logarithm::difference` meets its contract. Assumes nothing.
use mathlib.Core.Path.{◌≡◌, ap, ◌∙◌}
use Prim.Native.Nat.{ℕ, ◌+◌, ◌*◌, ◌/◌, ◌%◌, ◌^◌}
use native.Mathlib.Omega.{arith}
use lib.Ieee.{of_bits}
use Rattle.natural_logarithm.specs.Log.{difference_of}
use Rattle.natural_logarithm.proofs.LogHalves.{bits_no_nan, halves_is}
use Rattle.natural_logarithm.proofs.difference.Goals as goal

pub float_from_bits-upper : goal.float_from_bits-upper
float_from_bits-upper c = bits_no_nan (4746794007248502784 + c.args.u / 2 ^ 32) (omega arith)

pub float_from_bits-lower : goal.float_from_bits-lower
float_from_bits-lower c = bits_no_nan (4602678819172646912 + c.args.u % 2 ^ 32) (omega arith)

pub returns : goal.returns
unfolding of_bits
returns c =
    let u = c.args.u in
    halves_is (u / 2 ^ 32) (u % 2 ^ 32) (omega arith) (omega arith) ∙ ap (λ (n : ℕ). difference_of n (2 ^ 63)) (whole u)
  where
    whole : (u : ℕ) → u / 2 ^ 32 * 2 ^ 32 + u % 2 ^ 32 ≡ u
    whole u = omega arith
