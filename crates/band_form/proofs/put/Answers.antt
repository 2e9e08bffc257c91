-- `put` meets its contract: the copy is the part of the numbers.
use mathlib.Core.Path.{sym, ◌∙◌}
use Prim.Native.Nat.{◌+◌, ◌-◌}
use native.Mathlib.Omega.{arith}
use Rattle.std.proofs.lemmas.Slice.{put_mid-paste}
use Rattle.line_form.specs.Grammar.{values_from}
use Rattle.line_form.proofs.Laws.{part_is, part_of_length}
use Rattle.band_form.proofs.put.Goals as goal

pub returns : goal.returns
returns c =
    let k = c.args.k in
    let v = c.args.q.values in
    put_mid-paste k (k + 25 - k) c.args.table.now _ (values_from v 25 1) 25 (c.copy_from_slice.ensures.after ∙ part_is v 25 1 (omega arith)) (omega arith)
    (sym (part_of_length v 25 1))
