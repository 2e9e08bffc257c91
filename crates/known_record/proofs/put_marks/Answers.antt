-- `put_marks` meets its contract: the entries below i are written.
use mathlib.Core.Path.{◌≡◌, sym, ◌∙◌}
use Prim.Native.Nat.{◌-◌}
use native.Mathlib.Nat.{ne_of_lt}
use native.Mathlib.Omega.{arith}
use borrow.Author.Rules.{rules}
use borrow.Author.Count.{below_more, below_none}
use mir.Syntax.{w32}
use mir.Val.{of_z, to_z}
use lib.IntN.{pos}
use lib.ListN.{length, get_or, length-map}
use lib.Seq.{get_or-set_same, get_or-set_other, ext_get_or}
use Rattle.known_record.specs.KnownRecord.{mark_of, marks_of}
use Rattle.known_record.proofs.put_marks.Goals as goal

pub loop-i-init : goal.loop-i-init
loop-i-init c = below_none _

pub loop-i-preserved : goal.loop-i-preserved
loop-i-preserved c =
    let at = c.loop-i in
    let z = to_z w32 (of_z w32 c.mark_at.result) in
    below_more _ _ (λ k h. get_or-set_other at.out at.i k z (pos 0) (ne_of_lt h) ∙ at.invariant k h)
    (get_or-set_same at.out at.i z (pos 0) (search rules) ∙ (search rules) ∙ c.mark_at.ensures)

pub returns : goal.returns
unfolding marks_of
returns c =
    let at = c.loop-i in
    let marks = c.args.marks in
    let seventeen : length marks ≡ 17 = search rules in
    ext_get_or (pos 0) _ _ ((search rules) ∙ sym (length-map marks mark_of ∙ seventeen)) (λ k h. at.invariant k (omega arith))
