-- `spaced` meets its contract: the numbers before the current one are written.
use mathlib.Core.Path.{◌≡◌, ap}
use native.Mathlib.Omega.{arith}
use borrow.Author.Rules.{rules}
use lib.ListN.{take}
use lib.Seq.{take_all}
use Rattle.line_text.specs.Text.{spaced_text}
use Rattle.line_text.proofs.Laws.{same_text, joined, nothing, spaced_more, length_spaced}
use Rattle.line_text.proofs.spaced.Goals as goal

pub loop-x-init : goal.loop-x-init
unfolding spaced_text
loop-x-init c = (search rules, nothing _ _)

pub loop-x-preserved : goal.loop-x-preserved
loop-x-preserved c =
    let at = c.loop-x in
    let row = c.args.row in (
      search rules,
      same_text _ _ _ _ _ _ (spaced_more row at.x-index (search rules)) (joined _ _ _ _ _ _ _ _ (search rules) (joined _ _ _ _ _ _ _ _ (search rules) at.invariant.1 c.put-a.ensures) c.hex-to.ensures.0),
    )

pub returns : goal.returns
returns c =
    let at = c.loop-x in
    let row = c.args.row in
    let t : take at.x-index row ≡ row = take_all at.x-index row (search rules) in
    (same_text _ _ _ _ _ _ (ap spaced_text t) at.invariant.1, omega (arith, length_spaced row))
