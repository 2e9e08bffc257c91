-- `elementary::power::ordered_by` meets its contract. Assumes nothing.
use Rattle.std.proofs.Common.{ℕ, ◌-◌, ◌<◌, ◌≤◌, sym, ap, ◌∙◌, subst}
use lib.Ieee.{of_bits, nan_bits}
use Rattle.elementary.specs.Pow.{power_product}
use Rattle.elementary.proofs.PowCases.{pow-zero, pow_whole, pow_half, pow_of_zero, pow_of_infinity, pow_rest}
use Rattle.elementary.proofs.power.ordered_by.Goals as goal

pub returns-then-e : goal.returns-then-e
unfolding of_bits
returns-then-e g c = sym (pow-zero c.args.b c.args.e c.if-e.true)

pub returns-then-n-ge1 : goal.returns-then-n-ge1
unfolding of_bits
returns-then-n-ge1 g c =
    c.product.ensures ∙ ap (λ (n : ℕ). power_product c.args.b (n - 1)) c.whole-n.ensures
    ∙ sym (pow_whole c.args.b c.args.e c.if-e.false (subst (λ (n : ℕ). 1 ≤ n) c.whole-n.ensures c.if-n-ge1.true))

pub returns-then-e-2 : goal.returns-then-e-2
unfolding of_bits
returns-then-e-2 g c =
    c.sqrt.ensures ∙ sym (pow_half c.args.b c.args.e c.if-e.false (subst (λ (n : ℕ). n < 1) c.whole-n.ensures c.if-n-ge1.false) c.if-e-2.true)

pub float_from_bits-infinity : goal.float_from_bits-infinity
unfolding nan_bits
float_from_bits-infinity g c = tt

pub returns-then-b : goal.returns-then-b
unfolding of_bits
returns-then-b g c =
    c.sides_by.ensures
    ∙ sym (pow_of_zero c.args.b c.args.e c.if-e.false (subst (λ (n : ℕ). n < 1) c.whole-n.ensures c.if-n-ge1.false) c.if-e-2.false c.if-b.true)

pub returns-then-b-infinity : goal.returns-then-b-infinity
unfolding of_bits
returns-then-b-infinity g c =
    c.sides_by-then-b-infinity.ensures
    ∙ sym (pow_of_infinity c.args.b c.args.e c.if-e.false (subst (λ (n : ℕ). n < 1) c.whole-n.ensures c.if-n-ge1.false) c.if-e-2.false c.if-b.false c.if-b-infinity.true)

pub returns : goal.returns
unfolding of_bits
returns g c =
    c.rest_by.ensures
    ∙ sym (pow_rest c.args.b c.args.e c.if-e.false (subst (λ (n : ℕ). n < 1) c.whole-n.ensures c.if-n-ge1.false) c.if-e-2.false c.if-b.false c.if-b-infinity.false)
