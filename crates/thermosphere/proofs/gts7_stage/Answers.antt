-- `gts7_stage` meets its contract.
use mathlib.Core.Path.{ap, ◌∙◌}
use mathlib.Core.List.{List}
use Rattle.numbers.specs.Arithmetic.{◌⊗◌, ◌‼◌}
use Rattle.mixing_limits.proofs.Some.{n2_some}
use Rattle.species.specs.Places.{place_at}
use Rattle.species.proofs.Laws.{logged_at}
use Rattle.thermosphere.proofs.Laws.{gts7_law}
use Rattle.thermosphere.proofs.gts7_stage.Goals as goal

pub place_at-p-requires : goal.place_at-p-requires
place_at-p-requires c = c.spine_at-s.ensures

pub place_at-w-requires : goal.place_at-w-requires
place_at-w-requires c = c.spine_at-s.ensures

pub mixing-t-requires : goal.mixing-t-requires
mixing-t-requires c = logged_at c.shape_stage-h.result c.args.z _ c.place_at-p.ensures

pub n2_stage-b-requires : goal.n2_stage-b-requires
n2_stage-b-requires c = let A = c.args in (
  c.place_at-p.ensures,
  c.place_at-w.ensures ∙ ap (λ (y : List _). place_at c.shape_stage-h.result (y ‼ 2 ⊗ A.x.zhf)) c.pdm2-m.ensures,
  λ o. c.mixing-t.ensures (c.some_mixed-on.ensures ∙ n2_some c.mixed_at-k.result o),
)

pub species_stage-y-requires : goal.species_stage-y-requires
species_stage-y-requires c = (
  c.spine_at-s.ensures,
  c.place_at-p.ensures,
  λ o. c.mixing-t.ensures (c.some_mixed-on.ensures ∙ o),
)

pub gather-requires : goal.gather-requires
gather-requires c = (c.spine_at-s.ensures, c.place_at-p.ensures)

pub returns : goal.returns
returns c = let A = c.args in
    gts7_law A.sw A.x A.z A.l
    c.gather.result
    c.anomalous_stage-o.result
    c.anomalous-g.result
    c.species_stage-y.result
    c.n2_stage-b.result
    c.mixed_at-k.result
    c.shape_stage-h.result
    c.gather.ensures
    c.anomalous_stage-o.ensures
    c.anomalous-g.ensures
    c.species_stage-y.ensures
    c.n2_stage-b.ensures
    c.mixed_at-k.ensures
    c.shape_stage-h.ensures
