-- `row_from` meets its contract: the copy is the part of the table.
use borrow.Author.Rules.{rules}
use Rattle.band_table.proofs.row_from.Goals as goal

pub returns : goal.returns
returns c = search rules
