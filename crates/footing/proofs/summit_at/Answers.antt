-- `summit_at` meets its contract.
use mathlib.Core.Path.{ap, ◌∙◌}
use mathlib.Core.List.{List}
use lib.Ieee.{Float}
use Rattle.numbers.specs.Arithmetic.{◌⊗◌, ◌‼◌}
use Rattle.numbers.specs.Literals.{72·5}
use Rattle.mixing_limits.proofs.Some.{n2_some}
use Rattle.species.specs.Places.{place_at}
use Rattle.species.proofs.Laws.{logged_at}
use Rattle.footing.proofs.Laws.{summit_law}
use Rattle.footing.proofs.summit_at.Goals as goal

pub returns-then-q : goal.returns-then-q
returns-then-q c = c.requires c.if-q.true

pub mixing-t-requires : goal.mixing-t-requires
mixing-t-requires c =
    logged_at c.args.h 72·5 _ c.place_at-p.ensures

pub n2_stage-b-requires : goal.n2_stage-b-requires
n2_stage-b-requires c =
    let A = c.args in (
      c.place_at-p.ensures,
      c.place_at-v.ensures ∙ ap (λ (y : List Float). place_at A.h (y ‼ 2 ⊗ A.x.zhf)) c.pdm2-m.ensures,
      λ o. c.mixing-t.ensures (c.some_mixed-on.ensures ∙ n2_some c.mixed_at-g.result o),
    )

pub three_of-y-requires : goal.three_of-y-requires
three_of-y-requires c =
    (c.spine_at-s.ensures, c.place_at-p.ensures, λ o. c.mixing-t.ensures (c.some_mixed-on.ensures ∙ o))

pub returns : goal.returns
returns c =
    let A = c.args in
    summit_law A.sw A.x A.h A.l c.summit_from.result c.three_of-y.result c.n2_stage-b.result c.mixed_at-g.result
    c.summit_from.ensures c.three_of-y.ensures c.n2_stage-b.ensures c.mixed_at-g.ensures
