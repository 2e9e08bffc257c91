-- `circular_functions::scaling` meets its contract. Assumes nothing.
use mathlib.Core.Path.{◌≡◌, sym, ap, subst, ◌∙◌}
use Prim.Native.Nat.{ℕ, ◌+◌, ◌*◌, ◌/◌, ◌%◌, ◌^◌, ◌≤◌}
use native.Mathlib.Omega.{arith}
use native.Mathlib.Nat.{div-add-mod'}
use Rattle.circular_functions.specs.Trig.{scaling_of}
use Rattle.circular_functions.proofs.TrigBound.{scaling_le}
use Rattle.circular_functions.proofs.scaling.Goals as goal

nested : (c : ℕ) → c / 274877906944 ≡ c / 65536 / 4194304
nested c = omega arith

joined : (p e : ℕ) → p * (e / 4194304) + p * (e % 4194304) / 4194304 ≡ p * e / 4194304
joined p e = omega (arith, ap (λ (n : ℕ). p * n) (div-add-mod' e 4194304))

shifted : (z : ℕ) → z / 4194304 / 4096 ≡ z * 1073741824 / 18446744073709551616
shifted z = omega arith

spread : (p e : ℕ) → p * e * 1073741824 ≡ p * 1048576 * (e * 1024)
spread p e = omega arith

law : (a p : ℕ) → scaling_of a p ≡ p * 1048576 * (a / 65536 * 1024) / 2 ^ 64
law a p =
    ap (λ (n : ℕ). (p * n + p * (a / 65536 % 4194304) / 4194304) / 4096) (nested a)
    ∙ ap (λ (n : ℕ). n / 4096) (joined p (a / 65536))
    ∙ shifted (p * (a / 65536))
    ∙ ap (λ (n : ℕ). n / 18446744073709551616) (spread p (a / 65536))

same : (c : goal.After-high) → c.high.result ≡ scaling_of c.before.args.a c.before.args.p
same c = c.high.ensures ∙ sym (law c.args.a c.args.p)

pub overflow_mul-p : goal.overflow_mul-p
overflow_mul-p c = omega (arith, c.requires.1)

pub overflow_mul-a : goal.overflow_mul-a
overflow_mul-a c = omega (arith, c.requires.0)

pub high-requires : goal.high-requires
high-requires c = (omega (arith, c.requires.1), omega (arith, c.requires.0))

pub returns : goal.returns
returns c = (same c, subst (λ (n : ℕ). n ≤ 2 ^ 51) (sym (same c)) (scaling_le c.args.a c.args.p c.requires.0 c.requires.1))
