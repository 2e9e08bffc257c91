-- `elementary::power::sides_by` meets its contract. Assumes nothing.
use Rattle.std.proofs.Common.{sym, ◌∙◌}
use lib.Ieee.{of_bits}
use Rattle.elementary.proofs.PowCases.{sides_above, sides_below, sides_rest}
use Rattle.elementary.proofs.power.sides_by.Goals as goal

pub returns-then-e : goal.returns-then-e
unfolding of_bits
returns-then-e g c =
    sym (sides_above c.args.above c.args.below c.args.b c.args.e c.if-e.true)

pub returns-then-e-2 : goal.returns-then-e-2
unfolding of_bits
returns-then-e-2 g c =
    sym (sides_below c.args.above c.args.below c.args.b c.args.e c.if-e.false c.if-e-2.true)

pub returns : goal.returns
unfolding of_bits
returns g c =
    c.rest_by.ensures ∙ sym (sides_rest c.args.above c.args.below c.args.b c.args.e c.if-e.false c.if-e-2.false)
