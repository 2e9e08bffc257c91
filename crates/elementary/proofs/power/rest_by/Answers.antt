-- `elementary::power::rest_by` meets its contract. Assumes nothing.
use Rattle.std.proofs.Common.{T, sym, ap, ◌∙◌, subst}
use lib.Ieee.{Float, binary64, of_bits, div, mul}
use lib.Ieee.Compare.{differs_from_itself}
use Rattle.natural_exponential.specs.Exp.{exp_of}
use Rattle.fixed_point.proofs.Range.{is_nan_lem}
use Rattle.elementary.proofs.PowCases.{nan_is, rest_negative, rest_nan, rest_nan_exponent, rest_is}
use Rattle.elementary.proofs.power.rest_by.Goals as goal

pub returns-then-b : goal.returns-then-b
unfolding of_bits div
returns-then-b g c = sym (rest_negative c.args.b c.args.e c.if-b.true)

pub returns-then-b-2 : goal.returns-then-b-2
unfolding of_bits
returns-then-b-2 g c =
    let d = differs_from_itself c.args.b (subst T (sym c.if-b-2.true) tt) in
    d ∙ sym (rest_nan c.args.b c.args.e c.if-b.false (nan_is c.args.b d))

pub returns-then-e : goal.returns-then-e
unfolding of_bits
returns-then-e g c =
    let d = differs_from_itself c.args.e (subst T (sym c.if-e.true) tt) in
    d ∙ sym (rest_nan_exponent c.args.b c.args.e c.if-b.false (is_nan_lem c.args.b c.if-b-2.false) (nan_is c.args.e d))

pub returns : goal.returns
unfolding of_bits
returns g c =
    c.exp.ensures ∙ ap (λ (x : Float). exp_of (mul binary64 c.args.e x)) (c.requires.gives _ c.logarithm.ensures)
    ∙ sym (rest_is c.args.b c.args.e c.if-b.false (is_nan_lem c.args.b c.if-b-2.false) (is_nan_lem c.args.e c.if-e.false))
