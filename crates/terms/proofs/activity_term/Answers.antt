-- `activity_term` meets its contract.
use Rattle.terms.specs.Terms.{activity_term_of}
use mathlib.Core.Path.{refl}
use Rattle.terms.proofs.activity_term.Goals as goal

pub returns : goal.returns
unfolding activity_term_of
returns c = refl
