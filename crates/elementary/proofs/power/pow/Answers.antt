-- `elementary::power::pow` meets its contract. Assumes nothing.
use Rattle.std.proofs.Common.{T, sym, ap, ◌∙◌}
use lib.Ieee.{binary64, fits, of_bits}
use borrow.Author.Rules.{rules}
use Rattle.elementary.specs.Pow.{pow_of}
use Rattle.elementary.proofs.PowCases.{two_is, pow_two}
use Rattle.elementary.proofs.power.pow.Goals as goal

pub returns-then-e : goal.returns-then-e
unfolding of_bits
returns-then-e c =
    let held : T (fits binary64 c.args.e) = search rules in
    sym (ap (pow_of c.args.b) (two_is c.args.e held c.if-e.true) ∙ pow_two c.args.b)
