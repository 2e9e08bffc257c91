-- `keep` meets its contract.
use native.Mathlib.Omega.{arith}
use borrow.Author.Rules.{rules}
use Rattle.line_cut.proofs.Kept.{one_more, no_more}
use Rattle.line_cut.proofs.keep.Goals as goal

pub returns-then-len-lt512 : goal.returns-then-len-lt512
returns-then-len-lt512 c =
    let start = c.args in
    let more = one_more start.line.now start.len start.b (search rules) (search rules) (omega (arith, c.if-len-lt512.true)) in
    (more.0, more.1, search rules, more.2)

pub returns : goal.returns
returns c =
    let start = c.args in
    let full = no_more start.line.now start.len start.b (search rules) (omega (arith, c.if-len-lt512.false)) in
    (full.0, full.1, search rules, full.2)
