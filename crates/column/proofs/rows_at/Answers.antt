-- `rows_at` meets its contract: the rows of the altitudes below i are written.
use mathlib.Core.Path.{◌≡◌, refl, ◌∙◌}
use Prim.Native.Nat.{◌-◌}
use native.Mathlib.Omega.{arith}
use borrow.Author.Rules.{rules}
use lib.ListN.{length, take}
use lib.Seq.{take-length}
use Rattle.column.specs.Parts.{rows_stored}
use Rattle.column.proofs.Laws.{more_length, turn}
use Rattle.column.proofs.rows_at.Goals as goal

pub loop-i-init : goal.loop-i-init
unfolding rows_stored
loop-i-init c = (search rules, refl, refl, refl)

pub row_on-requires : goal.row_on-requires
row_on-requires c = (search rules, omega (arith, c.row_on-arg-1.given.1))

pub loop-i-preserved : goal.loop-i-preserved
loop-i-preserved c =
    let row = c.row_on in
    let at = c.loop-i in (
      search rules,
      search rules,
      more_length _ _ _ _ _ at.i c.loop-i-test.true row.ensures (search rules) at.invariant.2,
      turn _ _ _ _ _ _ _ at.i c.loop-i-test.true at.invariant.2 at.invariant.3 row.ensures,
    )

pub returns : goal.returns
returns c =
    let at = c.loop-i in
    let alts = c.args.alts.now in
    let e : at.i ≡ length alts = omega arith in
    at.invariant.3 ∙ rw (e, take-length alts)
