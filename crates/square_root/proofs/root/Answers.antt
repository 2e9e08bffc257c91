-- `square_root::root` meets its contract. Assumes nothing.
use mathlib.Core.Path.{sym, ap, subst}
use mathlib.Core.Bool.{Bool, not}
use Prim.Native.Nat.{ℕ, ◌+◌, ◌-◌, ◌*◌, ◌/◌, ◌%◌, ◌^◌, ◌<◌, ◌≤◌}
use native.Mathlib.Omega.{arith}
use lib.Dec.{T}
use lib.Ieee.{binary64, to_bits, of_bits}
use Rattle.square_root.specs.Root.{root_of}
use Rattle.square_root.proofs.Squares.{radicand_le, radicand_ge, nearest_is, no_nan_bits}
use Rattle.square_root.proofs.root.Goals as goal

-- the digits with the leading one, and once or twice that
digits_in : (t : ℕ) → (2 ^ 52 ≤ t % 2 ^ 52 + 2 ^ 52) × (t % 2 ^ 52 + 2 ^ 52 < 2 ^ 53)
digits_in t = (omega arith, omega arith)

module _ (c : goal.Start) where
  abbrev b : ℕ
  b = to_bits binary64 c.args.x % 2 ^ 63

  abbrev a : ℕ
  a = (b % 2 ^ 52 + 2 ^ 52) * (2 - b / 2 ^ 52 % 2)

  a_le : a ≤ 9007199254740991 * 2
  a_le = radicand_le (b % 2 ^ 52 + 2 ^ 52) (b / 2 ^ 52) (digits_in b).0 (digits_in b).1

  a_ge : 1 ≤ a
  a_ge = radicand_ge (b % 2 ^ 52 + 2 ^ 52) (b / 2 ^ 52) (digits_in b).0 (digits_in b).1

pub overflow_mul-a : goal.overflow_mul-a
overflow_mul-a c = omega (arith, a_le c)

pub float_from_bits-z : goal.float_from_bits-z
float_from_bits-z c = subst (λ (t : Bool). T (not t)) (sym (no_nan_bits ((1024 - b c / 2 ^ 52 % 2) * 2 ^ 52 + b c % 2 ^ 52) (small (b c)))) tt
  where
    small : (n : ℕ) → (1024 - n / 2 ^ 52 % 2) * 2 ^ 52 + n % 2 ^ 52 < 2047 * 2 ^ 52
    small n = omega arith

pub nearest-r-requires : goal.nearest-r-requires
nearest-r-requires c = (omega (arith, a_le c.before), a_ge c.before, c.guess.ensures.0, c.guess.ensures.1)

pub float_from_bits-result : goal.float_from_bits-result
float_from_bits-result c =
    let s = c.before.before in
    subst (λ (t : Bool). T (not t)) (sym (no_nan_bits (((b s / 2 ^ 52 + 1021) / 2 - c.args.k) * 2 ^ 52 + c.nearest-r.result) (small (to_bits binary64 c.args.x) c.args.k c.nearest-r.result c.nearest-r.ensures.small.1))) tt
  where
    small : (n k r : ℕ) → r < 2 ^ 53 → ((n % 2 ^ 63 / 2 ^ 52 + 1021) / 2 - k) * 2 ^ 52 + r < 2047 * 2 ^ 52
    small n k r h = omega arith

pub returns : goal.returns
unfolding root_of
returns c =
    let s = c.before.before in
    ap (λ (r : ℕ). of_bits binary64 (((b s / 2 ^ 52 + 1021) / 2 - c.args.k) * 2 ^ 52 + r)) (nearest_is (a s) c.nearest-r.result c.nearest-r.ensures)
