-- `gts7` meets its contract.
use mathlib.Core.Path.{ap, ◌∙◌}
use mathlib.Core.List.{List}
use lib.Ieee.{Float}
use Rattle.numbers.specs.Arithmetic.{◌⊗◌, ◌‼◌}
use Rattle.mixing_limits.proofs.Some.{n2_some}
use Rattle.species.specs.Places.{place_at}
use Rattle.species.proofs.Laws.{logged_at}
use Rattle.model_state.proofs.Laws.{gts7_steps}
use Rattle.model_state.proofs.gts7.Goals as goal

pub place_at-p-requires : goal.place_at-p-requires
place_at-p-requires c = c.spine_at-k.ensures

pub place_at-w-requires : goal.place_at-w-requires
place_at-w-requires c = c.spine_at-k.ensures

pub mixing-t-requires : goal.mixing-t-requires
mixing-t-requires c = let A = c.args in logged_at c.shape_step-hs.result.value A.z _ c.place_at-p.ensures

pub n2_step-bs-requires : goal.n2_step-bs-requires
n2_step-bs-requires c = let A = c.args in (
  c.place_at-p.ensures,
  c.place_at-w.ensures ∙ ap (λ (y : List Float). place_at c.shape_step-hs.result.value (y ‼ 2 ⊗ A.x.zhf)) c.pdm2-m.ensures,
  λ o. c.mixing-t.ensures (c.some_mixed-on.ensures ∙ n2_some c.mixed_at-g.result o),
)

pub species_step-ys-requires : goal.species_step-ys-requires
species_step-ys-requires c = (
  c.spine_at-k.ensures,
  c.place_at-p.ensures,
  λ o. c.mixing-t.ensures (c.some_mixed-on.ensures ∙ o),
)

pub gather_step-requires : goal.gather_step-requires
gather_step-requires c = c.spine_at-k.ensures

pub returns : goal.returns
returns c = let A = c.args in
    gts7_steps A.sw A.x A.z A.l A.s c.shape_step-hs.result.state c.n2_step-bs.result.state c.species_step-ys.result.state c.anomalous_step-os.result.state c.gather_step.result.state
    c.gather_step.result.value c.anomalous_step-os.result.value c.anomalous-q.result c.species_step-ys.result.value c.n2_step-bs.result.value c.mixed_at-g.result c.shape_step-hs.result.value
    c.gather_step.ensures.0 c.gather_step.ensures.1 c.anomalous_step-os.ensures c.anomalous-q.ensures c.species_step-ys.ensures c.n2_step-bs.ensures c.mixed_at-g.ensures c.shape_step-hs.ensures
