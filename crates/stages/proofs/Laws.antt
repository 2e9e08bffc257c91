-- A plan of one question, told its answer: from the values of the calls.
use mathlib.Core.Path.{◌≡◌, ap, ◌∙◌}
use mathlib.Core.Bool.{Bool, true, false}
use mathlib.Core.List.{List}
use lib.Ieee.{Float, lt}
use Rattle.numbers.specs.Arithmetic.{◌⊕◌, ◌⊗◌, ◌‼◌}
use Rattle.numbers.specs.Literals.{1·0, 72·5}
use Rattle.elementary.specs.Exp.{exp_of}
use Rattle.places.specs.Thinning.{Logged}
use Rattle.places.specs.declared.place.Place.{Place}
use Rattle.places.specs.declared.thinning.Thinning.{Thinning}
use Rattle.plan.specs.declared.ExpansionValues.{ExpansionValues}
use Rattle.plan.specs.Plan.{◌>>=◌, told, answer_to}
use Rattle.tables.specs.Tables.{pt_t, ps_t, ptm_t, pd_t2, pd_t3, pd_t8, pdm_t2, pdm_t7, pdl_t0, pdl_t1}
use Rattle.profile.specs.declared.unchecked.Shape.{Shape}
use Rattle.species.specs.declared.Blend.{Blend}
use Rattle.species.specs.declared.Mixture.{Mixture}
use Rattle.species.specs.declared.Root.{Root}
use Rattle.species.specs.Places.{place_at, Turbopause, Mixes}
use Rattle.species.specs.Rooted.{n2_root_of, n2_from, anomalous_factor_of, anomalous_oxygen_from, n2_root_is, n2_is, anomalous_is}
use Rattle.species.proofs.Laws.{logged_at}
use Rattle.stages.specs.Stages.{tinf_plan, gradient_plan, tlb_plan, n2_plan, anomalous_plan}

-- the logarithms of a turbopause that is asked for
pub logged_there : (h : Shape) (zh : Float) (w : Place) (on : Bool) → Turbopause h on zh w → on ≡ true → Logged w
logged_there h zh w on at o = logged_at h zh w (at o)

-- A species' mixture from its root is the definition's, X of the density at the lower boundary; M and C are its tables, e its answer.
pub species_law : (X : Float → Mixture) (M C : List Float) (e : Float) (r y : Mixture) (g : Float) (m c : List Float)
    → y ≡ X (m ‼ 0 ⊗ g ⊗ c ‼ 0)
    → r ≡ y
    → g ≡ e
    → m ≡ M
    → c ≡ C
    → r ≡ X (M ‼ 0 ⊗ e ⊗ C ‼ 0)
species_law X M C e r y g m c ey er eg em ec = er ∙ ey ∙ rw (eg, em, ec)

pub n2_law : (sw : List Float) (h : Shape) (on : Bool) (z : Float) (p w : Place) (t : Thinning) (zhf xmm : Float) (l : ExpansionValues) (x : Mixture) (q : Root) (g : Float) (m c : List Float)
    → x ≡ n2_from on p t q xmm
    → q ≡ n2_root_of w (m ‼ 0 ⊗ g ⊗ c ‼ 0) xmm
    → g ≡ exp_of (sw ‼ 21 ⊗ l.pd2)
    → m ≡ pdm_t2
    → c ≡ pd_t2
    → (p ≡ place_at h z) × (w ≡ place_at h (pdm_t2 ‼ 2 ⊗ zhf)) × Mixes on p xmm t
    → ◌≡◌ {A = Blend} (record { dens = x.dens; b = q.b; dm = x.dm }) (told (answer_to l) (n2_plan sw h on z zhf xmm))
unfolding told n2_plan ◌>>=◌
n2_law sw h on z p w t zhf xmm l x q g m c e0 e1 eg em ec pre =
    let db = pdm_t2 ‼ 0 ⊗ exp_of (sw ‼ 21 ⊗ l.pd2) ⊗ pd_t2 ‼ 0 in
    ap (λ (y : Mixture). record { dens = y.dens; b = q.b; dm = y.dm }) e0
    ∙ n2_is h on z p t q pre.0 db zhf xmm pre.2 (n2_root_is h w db zhf xmm q (rw (eg, em, ec) at e1) pre.1)

pub tlb_law : (sw : List Float) (l : ExpansionValues) (m p : List Float)
    → m ≡ ptm_t
    → p ≡ pd_t3
    → m ‼ 1 ⊗ (1·0 ⊕ sw ‼ 17 ⊗ l.pd3) ⊗ p ‼ 0 ≡ told (answer_to l) (tlb_plan sw)
unfolding told tlb_plan ◌>>=◌
tlb_law sw l m p e0 e1 = simp (e0, e1)

pub tinf_above : (sw : List Float) (z : Float) (l : ExpansionValues) (d m p : List Float)
    → d ≡ pdl_t1
    → m ≡ ptm_t
    → p ≡ pt_t
    → lt (d ‼ 15) z ≡ true
    → m ‼ 0 ⊗ p ‼ 0 ⊗ (1·0 ⊕ sw ‼ 16 ⊗ l.pt) ≡ told (answer_to l) (tinf_plan sw z)
unfolding told tinf_plan ◌>>=◌
tinf_above sw z l d m p e0 e1 e2 e3 = simp (rw e0 at e3, e1, e2)

pub tinf_below : (sw : List Float) (z : Float) (l : ExpansionValues) (d m p : List Float)
    → d ≡ pdl_t1
    → m ≡ ptm_t
    → p ≡ pt_t
    → lt (d ‼ 15) z ≡ false
    → m ‼ 0 ⊗ p ‼ 0 ≡ told (answer_to l) (tinf_plan sw z)
unfolding told tinf_plan ◌>>=◌
tinf_below sw z l d m p e0 e1 e2 e3 = simp (rw e0 at e3, e1, e2)

pub gradient_above : (sw : List Float) (z : Float) (l : ExpansionValues) (m p : List Float)
    → m ≡ ptm_t
    → p ≡ ps_t
    → lt 72·5 z ≡ true
    → m ‼ 3 ⊗ p ‼ 0 ⊗ (1·0 ⊕ sw ‼ 19 ⊗ l.ps) ≡ told (answer_to l) (gradient_plan sw z)
unfolding told gradient_plan ◌>>=◌
gradient_above sw z l m p e0 e1 e2 = simp (e2, e0, e1)

pub gradient_below : (sw : List Float) (z : Float) (l : ExpansionValues) (m p : List Float)
    → m ≡ ptm_t
    → p ≡ ps_t
    → lt 72·5 z ≡ false
    → m ‼ 3 ⊗ p ‼ 0 ≡ told (answer_to l) (gradient_plan sw z)
unfolding told gradient_plan ◌>>=◌
gradient_below sw z l m p e0 e1 e2 = simp (e2, e0, e1)

pub anomalous_law : (sw : List Float) (h : Shape) (z : Float) (l : ExpansionValues) (d f : Float) (p : Place) (g : Float) (b m c : List Float)
    → d ≡ anomalous_oxygen_from z p (m ‼ 0 ⊗ g ⊗ c ‼ 0) f (m ‼ 5) (m ‼ 4)
    → f ≡ anomalous_factor_of h.rgas h.gsurf h.re (m ‼ 5) (m ‼ 4) (m ‼ 9 ⊗ b ‼ 6)
    → p ≡ place_at h z
    → g ≡ exp_of (sw ‼ 21 ⊗ l.pd8)
    → b ≡ pdl_t0
    → m ≡ pdm_t7
    → c ≡ pd_t8
    → d ≡ told (answer_to l) (anomalous_plan sw h z)
unfolding told anomalous_plan ◌>>=◌
anomalous_law sw h z l d f p g b m c e0 e1 e2 e3 e4 e5 e6 =
    e0 ∙ anomalous_is h z p e2 _ f (m ‼ 5) (m ‼ 4) (m ‼ 9 ⊗ b ‼ 6) e1 ∙ rw (e3, e4, e5, e6)
