-- `elementary::power::product` meets its contract. Assumes nothing.
use Rattle.std.proofs.Common.{◌≡◌, ◌-◌}
use Rattle.elementary.specs.Pow.{power_product}
use Rattle.elementary.proofs.power.product.Given as goal

abbrev pub invariant-loop : goal.invariant-loop
invariant-loop l = l.r ≡ power_product l.b (l.counter - 1)
