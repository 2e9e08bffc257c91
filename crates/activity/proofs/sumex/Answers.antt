-- `sumex` meets its contract.
use Rattle.std.proofs.Common.{refl, sym, lit≤}
use Rattle.std.specs.Float.Ieee.{of_bits, lt, eq, of_int, to_unsigned, round}
use mathlib.Core.Path.{◌∙◌}
use Rattle.numbers.specs.Literals.{0·5, 19·0}
use Rattle.elementary.specs.Pow.{whole_exponent}
use Rattle.elementary.proofs.PowCases.{pow_whole, pow_half}
use Rattle.activity.specs.Activity.{sumex_of}
use Rattle.activity.proofs.sumex.Goals as goal

pub returns : goal.returns
unfolding sumex_of whole_exponent of_bits lt eq of_int to_unsigned round
returns c =
    let a = c.product-a.ensures ∙ sym (pow_whole c.args.ex 19·0 refl (lit≤ {m = 1} {n = 19} tt)) in
    let b = c.sqrt-b.ensures ∙ sym (pow_half c.args.ex 0·5 refl (lit≤ {m = 1} {n = 1} tt) refl) in
    simp (← a, ← b)
