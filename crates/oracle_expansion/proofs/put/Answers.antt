-- `put` meets its contract: the entries below i are written.
use mathlib.Core.Path.{sym, ◌∙◌, ap}
use native.Mathlib.Nat.{ne_of_lt, zero-add}
use native.Mathlib.Omega.{arith}
use borrow.Author.Rules.{rules}
use borrow.Author.Count.{below_more, below_none}
use lib.Seq.{get_or-set_same, get_or-set_other, ext_get_or}
use lib.Ieee.{nan}
use Rattle.oracle_expansion.specs.OracleExpansion.{entry_of}
use Rattle.oracle_expansion.proofs.Laws.{entries_length, entries_at}
use Rattle.oracle_expansion.proofs.put.Goals as goal

pub loop-i-init : goal.loop-i-init
loop-i-init c = below_none _

pub loop-i-preserved : goal.loop-i-preserved
loop-i-preserved c =
    let at = c.loop-i in
    let x = c.entry.result in
    below_more _ _ (λ k h. get_or-set_other at.numbers at.i k x nan (ne_of_lt h) ∙ at.invariant k h) (get_or-set_same at.numbers at.i x nan (search rules) ∙ c.entry.ensures)

pub returns : goal.returns
returns c =
    let at = c.loop-i in
    let e = c.args.e in
    ext_get_or nan _ _ (omega (arith, entries_length 80 e 0)) (λ k h. at.invariant k (omega arith) ∙ sym (entries_at 80 e 0 k (omega arith) ∙ ap (entry_of e) (zero-add k)))
