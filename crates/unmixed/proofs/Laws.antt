-- A species that is not mixed reads nothing of a turbopause; the row from what is left.
use mathlib.Core.Path.{◌≡◌, refl, sym, ap, ◌∙◌}
use mathlib.Core.Bool.{Bool, true, false, false≢true}
use mathlib.Core.List.{List}
use lib.Ieee.{Float}
use Rattle.numbers.specs.Arithmetic.{◌⊗◌, ◌‼◌}
use Rattle.numbers.specs.Literals.{0·0, 28·0}
use Rattle.elementary.specs.Exp.{exp_of}
use Rattle.elementary.specs.Root.{sqrt_of}
use Rattle.mixing_limits.specs.Limits.{mixed_at, some_mixed}
use Rattle.mixing_limits.specs.declared.Mixed.{Mixed}
use Rattle.mixing_limits.proofs.Some.{o2_there, ar_there, n_there, four_some, he_some, n2_some, h_some}
use Rattle.places.specs.declared.place.Place.{Place}
use Rattle.places.specs.declared.thinning.Thinning.{Thinning}
use Rattle.plan.specs.declared.ExpansionValues.{ExpansionValues}
use Rattle.plan.specs.Plan.{◌>>=◌, told, answer_to}
use Rattle.profile.specs.declared.unchecked.Shape.{Shape}
use Rattle.species.specs.declared.Blend.{Blend}
use Rattle.species.specs.declared.Mixture.{Mixture}
use Rattle.species.specs.Species.{density_of, temperature_of, n2_of, helium_of, o2_mixed_of, o2_of, argon_of, hydrogen_of, nitrogen_of}
use Rattle.species.specs.Places.{place_at, Turbopause, Mixes}
use Rattle.tables.specs.Tables.{pd_t2, pdm_t2, pdl_t1}
use Rattle.gts7_arithmetic.specs.declared.Site.{Site}
use Rattle.gts7_arithmetic.specs.declared.SixSpecies.{SixSpecies}
use Rattle.gts7_arithmetic.specs.declared.Gts7Output.{Gts7Output}
use Rattle.gts7_arithmetic.specs.Gts7Arithmetic.{anomalous_of, row_of, gather_of}
use Rattle.stages.specs.Stages.{shape_plan, n2_plan, helium_plan, oxygen_plan, o2_plan, argon_plan, hydrogen_plan, nitrogen_plan, species_plan, anomalous_plan, gts7_plan}
use Rattle.thermosphere.proofs.Laws.{species_law, gts7_law}
use Rattle.lower_atmosphere.specs.LowerAtmosphere.{gtd7_above}

-- what holds where a test is true need not hold where it is false
never : {A : Type 0} (b : Bool) → b ≡ false → b ≡ true → A
never b e f = absurd (false≢true (sym e ∙ f))

off : (p q : Bool) → (p ≡ true → q ≡ true) → q ≡ false → p ≡ false
off true q f e = sym (f refl) ∙ e
off false q f e = refl

-- any place and any thinning will do
pub idle : (h : Shape) (z : Float) (p w : Place) (t : Thinning) (xmm zh : Float) (on some : Bool)
    → p ≡ place_at h z → some ≡ false → (on ≡ true → some ≡ true) → (p ≡ place_at h z) × Turbopause h on zh w × Mixes on p xmm t
idle h z p w t xmm zh on some e f g = (e, λ o. never some f (g o), λ o. never some f (g o))

module _ (sw : List Float) (h : Shape) (k : Mixed) (z b c zhm xmm : Float) (l : ExpansionValues) (none : some_mixed k ≡ false) where
  helium_free : told (answer_to l) (helium_plan sw h k.he z b zhm xmm) ≡ told (answer_to l) (helium_plan sw h k.he z c zhm xmm)
  unfolding told helium_plan ◌>>=◌ helium_of
  helium_free = rw (off k.he (some_mixed k) (he_some k) none)

  argon_free : told (answer_to l) (argon_plan sw h k.ar z b zhm xmm) ≡ told (answer_to l) (argon_plan sw h k.ar z c zhm xmm)
  unfolding told argon_plan ◌>>=◌ argon_of
  argon_free = rw (off k.ar (some_mixed k) (λ o. four_some k (ar_there k o)) none)

  hydrogen_free : told (answer_to l) (hydrogen_plan sw h k.h z b zhm xmm) ≡ told (answer_to l) (hydrogen_plan sw h k.h z c zhm xmm)
  unfolding told hydrogen_plan ◌>>=◌ hydrogen_of
  hydrogen_free = rw (off k.h (some_mixed k) (h_some k) none)

  nitrogen_free : told (answer_to l) (nitrogen_plan sw h k.n z b zhm xmm) ≡ told (answer_to l) (nitrogen_plan sw h k.n z c zhm xmm)
  unfolding told nitrogen_plan ◌>>=◌ nitrogen_of
  nitrogen_free = rw (off k.n (some_mixed k) (λ o. four_some k (n_there k o)) none)

  o2_free : (flux : Float) → told (answer_to l) (o2_plan sw h k.o2 z b zhm xmm flux) ≡ told (answer_to l) (o2_plan sw h k.o2 z c zhm xmm flux)
  unfolding told o2_plan ◌>>=◌ o2_of o2_mixed_of
  o2_free flux = rw (off k.o2 (some_mixed k) (λ o. four_some k (o2_there k o)) none)

pub six_law : (sw : List Float) (h : Shape) (k : Mixed) (z c flux xmm : Float) (l : ExpansionValues) (n hy ar o2 o he : Mixture) (d m : List Float)
    → some_mixed k ≡ false
    → n ≡ told (answer_to l) (nitrogen_plan sw h k.n z c (m ‼ 3 ⊗ d ‼ 5) xmm)
    → hy ≡ told (answer_to l) (hydrogen_plan sw h k.h z c (m ‼ 3 ⊗ d ‼ 5) xmm)
    → ar ≡ told (answer_to l) (argon_plan sw h k.ar z c (m ‼ 3 ⊗ d ‼ 5) xmm)
    → o2 ≡ told (answer_to l) (o2_plan sw h k.o2 z c (m ‼ 3 ⊗ d ‼ 5) xmm flux)
    → o ≡ told (answer_to l) (oxygen_plan sw h k.o z (m ‼ 3 ⊗ d ‼ 5) xmm flux)
    → he ≡ told (answer_to l) (helium_plan sw h k.he z c (m ‼ 3 ⊗ d ‼ 5) xmm)
    → d ≡ pdl_t1
    → m ≡ pdm_t2
    → (b : Float) → ◌≡◌ {A = SixSpecies} (record { he = he; o = o; o2 = o2; ar = ar; h = hy; n = n }) (told (answer_to l) (species_plan sw h k z b flux xmm))
six_law sw h k z c flux xmm l n hy ar o2 o he d m none e1 e2 e3 e4 e5 e6 e7 e8 b =
    let zhm = m ‼ 3 ⊗ d ‼ 5 in
    species_law sw h k z b flux xmm l n hy ar o2 o he d m
    (e1 ∙ nitrogen_free sw h k z c b zhm xmm l none)
    (e2 ∙ hydrogen_free sw h k z c b zhm xmm l none)
    (e3 ∙ argon_free sw h k z c b zhm xmm l none)
    (e4 ∙ o2_free sw h k z c b zhm xmm l none flux)
    e5
    (e6 ∙ helium_free sw h k z c b zhm xmm l none)
    e7 e8

n2_dens : (sw : List Float) (h : Shape) (on : Bool) (z zhf xmm : Float) (l : ExpansionValues) → on ≡ false
    → density_of h z (pdm_t2 ‼ 0 ⊗ exp_of (sw ‼ 21 ⊗ l.pd2) ⊗ pd_t2 ‼ 0) 28·0 0·0 ≡ (told (answer_to l) (n2_plan sw h on z zhf xmm)).dens
unfolding told n2_plan ◌>>=◌ n2_of
n2_dens sw h on z zhf xmm l none = rw none

pub gathered : (sw0 : Float) (h : Shape) (z : Float) (b : Blend) (y : SixSpecies) (o : Float)
    → row_of sw0 h.tinf b.dens y o (temperature_of h (sqrt_of (z ⊗ z))) ≡ (gtd7_above (gather_of sw0 h z b y o)).row
unfolding row_of gtd7_above gather_of
gathered sw0 h z b y o = refl

pub row_law : (sw : List Float) (x : Site) (z : Float) (l : ExpansionValues) (r : List Float) (t1 q o : Float) (k : Shape) (y : SixSpecies) (n2 : Float) (h : Shape) (m : Mixed)
    → r ≡ row_of (sw ‼ 0) h.tinf n2 y o t1
    → t1 ≡ temperature_of h q
    → q ≡ sqrt_of (z ⊗ z)
    → o ≡ told (answer_to l) (anomalous_plan sw k z)
    → k ≡ anomalous_of h
    → ((b : Float) → y ≡ told (answer_to l) (species_plan sw h m z b x.flux x.nine.xmm))
    → n2 ≡ density_of h z (pdm_t2 ‼ 0 ⊗ exp_of (sw ‼ 21 ⊗ l.pd2) ⊗ pd_t2 ‼ 0) 28·0 0·0
    → h ≡ told (answer_to l) (shape_plan sw x z)
    → (m ≡ mixed_at x.nine (sw ‼ 15) z) × (some_mixed m ≡ false)
    → r ≡ (gtd7_above (told (answer_to l) (gts7_plan sw x z))).row
row_law sw x z l r t1 q o k y n2 h m e0 e1 e2 e3 e4 e5 e6 e7 none =
    let b : Blend = told (answer_to l) (n2_plan sw h m.n2 z x.zhf x.nine.xmm) in
    e0
    ∙ ap (λ (n : Float). row_of (sw ‼ 0) h.tinf n y o t1) (e6 ∙ n2_dens sw h m.n2 z x.zhf x.nine.xmm l (off m.n2 (some_mixed m) (n2_some m) none.1))
    ∙ ap (λ (t : Float). row_of (sw ‼ 0) h.tinf b.dens y o t) (e1 ∙ ap (temperature_of h) e2)
    ∙ gathered (sw ‼ 0) h z b y o
    ∙ ap (λ (u : Gts7Output). (gtd7_above u).row) (gts7_law sw x z l (gather_of (sw ‼ 0) h z b y o) o k y b m h refl e3 e4 (e5 b.b) refl none.0 e7)
