-- `elementary::power::product` meets its contract. Assumes nothing.
use Rattle.std.proofs.Common.{◌≡◌, ℕ, suc, ◌+◌, ◌-◌, ◌≤◌, refl, ap, ◌∙◌, arith}
use lib.Ieee.{Float, binary64, mul}
use Rattle.elementary.specs.Pow.{power_product}
use Rattle.elementary.proofs.power.product.Goals as goal

one_more : (b r : Float) (i : ℕ) → 1 ≤ i → r ≡ power_product b (i - 1) → mul binary64 r b ≡ power_product b (i + 1 - 1)
one_more b r i h e = ap (λ (x : Float). mul binary64 x b) e ∙ ap (power_product b) (next i h)
  where
    next : (i : ℕ) → 1 ≤ i → suc (i - 1) ≡ i + 1 - 1
    next i h = omega arith

pub loop-init : goal.loop-init
loop-init c = refl

pub loop-preserved : goal.loop-preserved
loop-preserved c = one_more c.args.b c.loop.r c.loop.counter (omega arith) c.loop.invariant

pub returns : goal.returns
returns c =
    let e : c.loop.counter - 1 ≡ c.args.n - 1 = omega arith in
    c.loop.invariant ∙ ap (power_product c.args.b) e
