-- `sg0` meets its contract.
use Rattle.std.proofs.Common.{refl, sym, lit≤}
use Rattle.std.specs.Float.Ieee.{of_bits, lt, eq, of_int, to_unsigned, round}
use mathlib.Core.Path.{◌∙◌}
use Rattle.numbers.specs.Literals.{12·0, 3·0, 4·0, 8·0}
use Rattle.elementary.specs.Pow.{whole_exponent}
use Rattle.elementary.proofs.PowCases.{pow_whole}
use Rattle.activity.specs.Responses.{sg0_from}
use Rattle.activity.proofs.sg0.Goals as goal

pub returns : goal.returns
unfolding sg0_from whole_exponent of_bits lt eq of_int to_unsigned round
returns c =
    let e3 = c.product-e3.ensures ∙ sym (pow_whole c.args.ex 3·0 refl (lit≤ {m = 1} {n = 3} tt)) in
    let e4 = c.product-e4.ensures ∙ sym (pow_whole c.args.ex 4·0 refl (lit≤ {m = 1} {n = 4} tt)) in
    let e12 = c.product-e12.ensures ∙ sym (pow_whole c.args.ex 12·0 refl (lit≤ {m = 1} {n = 12} tt)) in
    let e8 = c.product-e8.ensures ∙ sym (pow_whole c.args.ex 8·0 refl (lit≤ {m = 1} {n = 8} tt)) in
    simp (← c.weighted_mean.ensures, ← c.sumex-s.ensures, ← e8, ← e12, ← e4, ← e3)
