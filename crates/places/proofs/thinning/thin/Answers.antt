-- `thin` meets its contract.
use Rattle.places.proofs.Order.{chosen}
use Rattle.elementary.specs.Log.{log_of}
use Rattle.numbers.specs.Literals.{0·0}
use Rattle.places.specs.Thinning.{thinning_of}
use Rattle.places.proofs.thinning.thin.Goals as goal

pub returns-then-not-w : goal.returns-then-not-w
unfolding thinning_of
returns-then-not-w c =
    simp (← c.pow_with-p.ensures, ← c.pick-e.ensures, ← c.capped-c.ensures, ← c.exp-a.ensures) (simp c.if-not-w.true)

pub pow_with-q-requires : goal.pow_with-q-requires
pow_with-q-requires c =
    let w = c.args.w in
    chosen w.under w.l1 (log_of w.r1) 0·0 c.requires.1 c.if-not-w.false

pub returns : goal.returns
unfolding thinning_of
returns c =
    simp (
      ← c.exp-k.ensures,
      ← c.pow_with-q.ensures,
      ← c.pick-expl.ensures,
      ← c.capped-b.ensures,
      ← c.pow_with-p.ensures,
      ← c.pick-e.ensures,
      ← c.capped-c.ensures,
      ← c.exp-a.ensures,
    ) (simp c.if-not-w.false)
