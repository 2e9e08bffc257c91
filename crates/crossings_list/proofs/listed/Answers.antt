-- `listed` meets its contract.
use mathlib.Core.Path.{ap, ◌∙◌}
use Rattle.std.specs.Prelude.{Err}
use borrow.Author.Rules.{rules}
use Rattle.crossings_list.proofs.Laws.{too_short, fits_in}
use Rattle.crossings_list.proofs.listed.Goals as goal

pub returns-then-out-n : goal.returns-then-out-n
returns-then-out-n c =
    let A = c.args in
    let k = too_short A.level A.d.now A.out.now c.count-n.result c.count-n.ensures c.if-out-n.true in
    (ap Err c.at.ensures ∙ k.0, k.1)

-- the list fits into the buffer
pub write-requires : goal.write-requires
write-requires c = search rules

pub returns : goal.returns
returns c =
    let A = c.args in
    fits_in A.level A.d.now A.out.now c.count-n.result c.count-n.ensures c.if-out-n.false _ c.write.ensures
