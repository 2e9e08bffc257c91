-- `fixed_point::scaled` meets its contract. Assumes nothing.
use mathlib.Core.Path.{◌≡◌, sym, ◌∙◌, subst}
use Prim.Native.Nat.{◌+◌, ◌-◌, ◌*◌, ◌/◌, ◌%◌, ◌^◌, ◌≤◌}
use native.Mathlib.Omega.{arith}
use native.Mathlib.Nat.{mod-lt}
use Rattle.fixed_point.specs.Fixed.{scaled_of}
use lib.Dec.{T}
use lib.Pow.{pow_pos}
use lib.Ieee.{binary64, fits, to_bits}
use Rattle.fixed_point.proofs.Decode.{shifted, field_le, finite_no_nan, far_shift}
use Rattle.fixed_point.proofs.scaled.Goals as goal

held : (c : goal.Start) → T (fits binary64 c.args.x)
held c = subst T (sym c.well_formed.0.1) tt

bound : (c : goal.Start) → to_bits binary64 c.args.x % 2 ^ 63 / 2 ^ 52 + c.args.k ≤ 1085
bound c = field_le c.args.x (held c) c.requires.0 c.args.k c.requires.1 c.requires.2

-- the scaled number by one shift
shift : (c : goal.Start) → scaled_of c.args.k c.args.x ≡ (to_bits binary64 c.args.x % 2 ^ 63 % 2 ^ 52 + 2 ^ 52) * 2048 / 2 ^ (1086 - c.args.k - to_bits binary64 c.args.x % 2 ^ 63 / 2 ^ 52)
shift c = shifted c.args.x (held c) c.requires.0 c.args.k c.requires.1 (bound c)

pub float_to_bits-b : goal.float_to_bits-b
float_to_bits-b c = finite_no_nan c.args.x c.requires.0

pub overflow_sub-n-2 : goal.overflow_sub-n-2
overflow_sub-n-2 c = omega (arith, bound c)

pub returns-then-n-lt64 : goal.returns-then-n-lt64
returns-then-n-lt64 c = sym (shift c.before)

pub returns : goal.returns
returns c = sym (shift c.before ∙ far_shift _ _ (mod-lt (to_bits binary64 c.args.x % 2 ^ 63) (pow_pos 52)) c.if-n-lt64.false)
