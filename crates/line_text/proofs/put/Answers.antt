-- `put` meets its contract: the text stands where the copy put it.
use borrow.Author.Rules.{rules}
use Rattle.std.proofs.lemmas.Slice.{overwrites}
use Rattle.line_text.specs.Text.{written}
use Rattle.line_text.proofs.put.Goals as goal

pub returns : goal.returns
unfolding written
returns c = search (rules, overwrites)
