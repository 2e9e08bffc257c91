-- `natural_exponential::kernel` meets its contract. Assumes nothing.
use mathlib.Core.Path.{◌≡◌, sym, subst}
use Prim.Native.Nat.{ℕ, ◌/◌, ◌%◌, ◌^◌, ◌≤◌}
use native.Mathlib.Omega.{arith}
use Rattle.natural_exponential.specs.Exp.{kernel_of}
use Rattle.natural_exponential.proofs.Bound.{coarse_le, fine_le, high_le, kernel_ge}
use Rattle.natural_exponential.proofs.kernel.Goals as goal

pub high-c-requires : goal.high-c-requires
high-c-requires c =
    omega (arith, c.coarse_at.ensures, c.fine_at.ensures, coarse_le (c.args.t / 2 ^ 53), fine_le (c.args.t / 2 ^ 48 % 32))

pub compounded-requires : goal.compounded-requires
compounded-requires c =
    let a : c.coarse_at.result ≤ 3134000000000000000 = omega (arith, c.coarse_at.ensures, coarse_le (c.args.t / 2 ^ 53)) in
    let b : c.fine_at.result ≤ 4755000000000000000 = omega (arith, c.fine_at.ensures, fine_le (c.args.t / 2 ^ 48 % 32)) in
    (subst (λ (n : ℕ). n ≤ 808000000000000000) (sym c.high-c.ensures) (high_le a b), c.expm1.ensures.1)

pub returns : goal.returns
returns c =
    let t = c.args.t in
    let e : c.compounded.result ≡ kernel_of t = cc in
    (e, subst (λ (n : ℕ). 128 ≤ n) (sym e) (kernel_ge t c.requires), c.compounded.ensures.1)
