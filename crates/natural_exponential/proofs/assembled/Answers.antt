-- `natural_exponential::assembled` meets its contract. Assumes nothing.
use mathlib.Core.Path.{sym, ◌∙◌, subst}
use mathlib.Core.Bool.{Bool, not}
use Prim.Native.Nat.{◌-◌, ◌/◌}
use native.Mathlib.Omega.{arith}
use lib.Dec.{T, le→leb}
use lib.IntN.{pos}
use lib.Ieee.{binary64, in_float, nan_bits, of_int}
use Rattle.fixed_point.proofs.Assemble.{whole_value, fraction, over_115, assembled_is, wider, power_no_nan}
use Rattle.natural_exponential.proofs.assembled.Goals as goal

pub int_to_float-result : goal.int_to_float-result
unfolding in_float
int_to_float-result c = omega (arith, le→leb)

pub float_from_bits-result : goal.float_from_bits-result
float_from_bits-result c =
    subst (λ (b : Bool). T (not b)) (sym (power_no_nan (c.args.k - 115) (omega (arith, c.if-k-gt115.true)) (omega (arith, c.requires.3)))) tt

pub returns-then-k-gt115 : goal.returns-then-k-gt115
returns-then-k-gt115 c =
    let q = c.args.v / 128 in
    let k = c.args.k in
    assembled_is (of_int binary64 (pos q)) q 0 (k - 115) (whole_value q (omega arith)) (omega arith) (omega (arith, c.if-k-gt115.true)) (omega (arith, c.requires.3))
    ∙ wider q k 115 1023 (omega (arith, c.if-k-gt115.true))

pub int_to_float-result-2 : goal.int_to_float-result-2
unfolding in_float
int_to_float-result-2 c = omega (arith, le→leb)

pub float_from_bits-result-2 : goal.float_from_bits-result-2
unfolding nan_bits
float_from_bits-result-2 c = tt

pub float_from_bits-result-3 : goal.float_from_bits-result-3
float_from_bits-result-3 c =
    subst (λ (b : Bool). T (not b)) (sym (power_no_nan c.args.k c.requires.2 (omega (arith, c.if-k-gt115.false)))) tt

pub returns : goal.returns
returns c =
    let q = c.args.v / 128 in
    assembled_is (fraction 4089268461652410368 q) q 115 c.args.k (over_115 q (omega arith) (omega arith)) (omega arith) c.requires.2 (omega (arith, c.if-k-gt115.false))
