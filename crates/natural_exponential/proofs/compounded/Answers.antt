-- `natural_exponential::compounded` meets its contract. Assumes nothing.
use mathlib.Core.Path.{◌≡◌, sym, ap, subst, ◌∙◌}
use Prim.Native.Nat.{ℕ, ◌+◌, ◌*◌, ◌/◌, ◌%◌, ◌^◌, ◌≤◌, ◌<◌}
use native.Mathlib.Omega.{arith}
use native.Mathlib.Nat.{div-add-mod'}
use Rattle.natural_exponential.specs.Exp.{compounded_of}
use Rattle.natural_exponential.proofs.Bound.{upper_le, lower_le}
use Rattle.natural_exponential.proofs.compounded.Goals as goal

nested : (c : ℕ) → c / 274877906944 ≡ c / 65536 / 4194304
nested c = omega arith

joined : (p e : ℕ) → p * (e / 4194304) + p * (e % 4194304) / 4194304 ≡ p * e / 4194304
joined p e = omega (arith, ap (λ (n : ℕ). p * n) (div-add-mod' e 4194304))

shifted : (z : ℕ) → z / 4194304 / 8192 ≡ z * 536870912 / 18446744073709551616
shifted z = omega arith

spread : (p e : ℕ) → p * e * 536870912 ≡ p * 2097152 * (e * 256)
spread p e = omega arith

law : (c p : ℕ) → (p * (c / 2 ^ 38) + p * (c / 2 ^ 16 % 2 ^ 22) / 2 ^ 22) / 2 ^ 13 ≡ p * 2097152 * (c / 65536 * 256) / 2 ^ 64
law c p =
    ap (λ (n : ℕ). (p * n + p * (c / 65536 % 4194304) / 4194304) / 8192) (nested c)
    ∙ ap (λ (n : ℕ). n / 8192) (joined p (c / 65536))
    ∙ shifted (p * (c / 65536))
    ∙ ap (λ (n : ℕ). n / 18446744073709551616) (spread p (c / 65536))

bound : (c p : ℕ) → c ≤ 808000000000000000 → p ≤ 2200097350000 → compounded_of c p < 2 ^ 60
bound c p h k = omega (arith, upper_le c p h k, lower_le c p h k)

-- what is added is compounded_of's
same : (c : goal.After-high) → c.before.args.c + c.high.result ≡ compounded_of c.before.args.c c.before.args.p
same c = ap (λ (n : ℕ). c.args.c + n) (c.high.ensures ∙ sym (law c.args.c c.args.p))

below : (c : goal.After-high) → c.before.args.c + c.high.result < 2 ^ 60
below c = subst (λ (n : ℕ). n < 2 ^ 60) (sym (same c)) (bound c.args.c c.args.p c.requires.0 c.requires.1)

pub overflow_mul-p : goal.overflow_mul-p
overflow_mul-p c = omega (arith, c.requires.1)

pub overflow_mul-c : goal.overflow_mul-c
overflow_mul-c c = omega (arith, c.requires.0)

pub high-requires : goal.high-requires
high-requires c = (omega (arith, c.requires.1), omega (arith, c.requires.0))

pub overflow_add-result : goal.overflow_add-result
overflow_add-result c = omega (arith, below c)

pub returns : goal.returns
returns c = (same c, below c)
