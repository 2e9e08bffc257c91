-- `legendre` meets its contract: the copy is the part of the numbers.
use borrow.Author.Rules.{rules}
use Rattle.oracle_expansion.specs.OracleExpansion.{legendre_read}
use Rattle.oracle_expansion.proofs.legendre.Goals as goal

pub returns : goal.returns
unfolding legendre_read
returns c = search rules
