-- `densities_at` meets its contract: the densities of the altitudes below i are written.
use mathlib.Core.Path.{◌≡◌, refl, ◌∙◌}
use Prim.Native.Nat.{◌-◌}
use native.Mathlib.Omega.{arith}
use borrow.Author.Rules.{rules}
use lib.ListN.{length, take}
use lib.Seq.{take-length}
use Rattle.crossings.specs.Stored.{densities_stored}
use Rattle.crossings.proofs.Laws.{put}
use Rattle.crossings.proofs.densities_at.Goals as goal

pub loop-i-init : goal.loop-i-init
unfolding densities_stored
loop-i-init c = refl

pub row_on-requires : goal.row_on-requires
row_on-requires c = (search rules, search rules)

pub loop-i-preserved : goal.loop-i-preserved
loop-i-preserved c =
    let at = c.loop-i in
    put c.args.sw0 c.args.sw15 c.args.numbers.now c.args.alts.now c.args.d.now at.d _ at.i
    (search rules) c.requires.1 at.invariant c.row_on.ensures

pub returns : goal.returns
returns c =
    let at = c.loop-i in
    let alts = c.args.alts.now in
    let e : at.i ≡ length alts = omega arith in
    at.invariant ∙ rw (e, take-length alts)
