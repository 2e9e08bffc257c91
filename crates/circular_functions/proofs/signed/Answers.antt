-- `circular_functions::signed` meets its contract. Assumes nothing.
use mathlib.Core.Path.{◌≡◌}
use Prim.Native.Nat.{ℕ, ◌/◌, ◌%◌, ◌^◌, ◌<◌, ◌≤◌}
use native.Mathlib.Omega.{arith}
use lib.Dec.{le→leb}
use lib.Ieee.{in_float, of_bits}
use Rattle.circular_functions.proofs.TrigCases.{signed_zero, signed_is, factor_no_nan}
use Rattle.circular_functions.proofs.signed.Goals as goal

some : (q : ℕ) → (q ≡ 0 → ⊥) → 0 < q
some q h = omega arith

small : (v : ℕ) → v ≤ 2 ^ 59 → v / 128 < 2 ^ 53
small v h = omega arith

pub returns-then-q-eq0 : goal.returns-then-q-eq0
unfolding of_bits
returns-then-q-eq0 c = signed_zero c.args.n (c.args.v / 128) c.if-q-eq0.true

pub int_to_float-result : goal.int_to_float-result
unfolding in_float
int_to_float-result c = omega (arith, le→leb, c.requires)

pub float_from_bits-result : goal.float_from_bits-result
float_from_bits-result c = factor_no_nan (c.args.n % 4 / 2) (omega arith)

pub returns : goal.returns
returns c =
    let q = c.args.v / 128 in
    signed_is c.args.n q (some q c.if-q-eq0.false) (small c.args.v c.requires)
