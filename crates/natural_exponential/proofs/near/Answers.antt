-- `near` meets its contract.
use mathlib.Core.Path.{refl, sym, subst}
use Prim.Native.Nat.{ℕ, ◌+◌, ◌-◌, ◌^◌, ◌≤◌}
use native.Mathlib.Omega.{arith}
use lib.Dec.{eqb, lit≤}
use Rattle.fixed_point.specs.Fixed.{offset_of}
use Rattle.fixed_point.proofs.Choice.{either_le}
use Rattle.natural_exponential.proofs.near.Goals as goal

around : (s m : ℕ) → m ≤ 2 ^ 58 → offset_of s (2 ^ 58) m ≤ 2 ^ 59
around s m h =
    let a : 2 ^ 58 + m ≤ 2 ^ 59 = omega arith in
    let b : 2 ^ 58 - m ≤ 2 ^ 59 = omega arith in
    either_le (eqb s 0) a b

pub offset-t-requires : goal.offset-t-requires
offset-t-requires c = (omega (arith, c.requires), λ z. c.requires)

pub returns : goal.returns
returns c =
    let A = c.args in (
      c.offset-t.ensures,
      refl,
      subst (λ (t : ℕ). t ≤ 2 ^ 59) (sym c.offset-t.ensures) (around A.s A.m c.requires),
      lit≤ {m = 1} {n = 1087} tt,
      lit≤ {m = 1087} {n = 2109} tt,
    )
