-- `same` meets its contract.
use mathlib.Core.Path.{sym, ◌∙◌, ap}
use mathlib.Core.Bool.{false≢true}
use borrow.Author.Tests.{eqb-true}
use lib.Ieee.{binary64, of_bits}
use lib.Ieee.Bits.{of_bits-to_bits}
use Rattle.numbers.specs.Tests.{ordered}
use borrow.Author.Rules.{rules}
use Rattle.numbers.proofs.same.Goals as goal

pub returns-then-not-x : goal.returns-then-not-x
returns-then-not-x c = λ e. absurd (false≢true e)

pub returns-then-not-y : goal.returns-then-not-y
returns-then-not-y c = λ e. absurd (false≢true e)

pub float_to_bits-result : goal.float_to_bits-result
float_to_bits-result c = ordered _ c.if-not-x.false-raw

pub float_to_bits-result-2 : goal.float_to_bits-result-2
float_to_bits-result-2 c = ordered _ c.if-not-y.false-raw

pub returns : goal.returns
returns c = λ e. sym (of_bits-to_bits binary64 _ (search rules)) ∙ ap (of_bits binary64) (eqb-true _ _ e) ∙ of_bits-to_bits binary64 _ (search rules)
