-- `count` meets its contract.
use Prim.Native.Nat.{zero-le}
use mir.Syntax.{w32}
use mir.Val.{to_z, of_z}
use native.Mathlib.Omega.{arith}
use borrow.Author.Rules.{rules}
use Rattle.band_table.proofs.Laws.{count_below, count_above, count_is}
use Rattle.band_table.proofs.count.Goals as goal

pub returns-then-z-lt0 : goal.returns-then-z-lt0
returns-then-z-lt0 c = (count_below (to_z w32 (of_z w32 c.args.z)) c.args.z (search rules) c.if-z-lt0.true, zero-le)

pub returns-then-z-gt64 : goal.returns-then-z-gt64
returns-then-z-gt64 c = (count_above (to_z w32 (of_z w32 c.args.z)) c.args.z (search rules) c.if-z-gt64.true, zero-le)

pub overflow_cast-result : goal.overflow_cast-result
overflow_cast-result c =
    let n = count_is (to_z w32 (of_z w32 c.args.z)) c.args.z (search rules) c.if-z-lt0.false c.if-z-gt64.false in
    (n.sign, record { fits = omega (arith, n.few) })

pub returns : goal.returns
returns c =
    let n = count_is (to_z w32 (of_z w32 c.args.z)) c.args.z (search rules) c.if-z-lt0.false c.if-z-gt64.false in
    (n.size, n.few)
