-- `temperature_at` meets its contract.
use Rattle.region.specs.Region.{temperature_at}
use Rattle.region.proofs.Laws.{warm_over, warm_under}
use Rattle.region.proofs.temperature_at.Goals as goal

pub returns-then-same : goal.returns-then-same
returns-then-same c =
    warm_under c.args.h c.args.s c.args.z c.args.r c.args.p c.pdl1-l.result c.requires (c.same.ensures c.if-same.true) c.pdl1-l.ensures c.if-r-l.true

pub returns-then-r-l : goal.returns-then-r-l
unfolding temperature_at
returns-then-r-l c = simp (← c.temperature_under.ensures, ← c.pdl1-l.ensures) (simp c.if-r-l.true)

pub temperature_over_at-requires : goal.temperature_over_at-requires
temperature_over_at-requires c = rw c.pdl1-l.ensures at c.if-r-l.false

pub returns : goal.returns
returns c =
    let A = c.args in
    warm_over A.h A.s A.r _ c.temperature_over_at.ensures (rw c.pdl1-l.ensures at c.if-r-l.false)
