-- Steps made where a test holds, densu's elements 0, and what each species' step leaves.
use mathlib.Core.Path.{◌≡◌, refl, sym, ap, ap₂, ◌∙◌}
use mathlib.Core.Bool.{Bool, true, false, cond, not, false≢true}
use mathlib.Core.List.{List}
use borrow.Author.Tests.{not-false}
use lib.ListN.{set}
use lib.Ieee.{Float, lt}
use Rattle.numbers.specs.Arithmetic.{◌⊗◌, ◌‼◌}
use Rattle.setting.specs.declared.State.{State}
use Rattle.plan.specs.Fields.{Fields, fields_of, with_fields, set_when, set_tn1, set_dm04, set_dm16, set_dm28, set_dm32, set_dm40, set_dm01, set_dm14}
use Rattle.plan.specs.declared.ExpansionValues.{ExpansionValues}
use Rattle.plan.specs.Plan.{Plan, ◌>>=◌, ends, told, fields_after, answer_to, stepped}
use Rattle.species.specs.declared.Blend.{Blend}
use Rattle.profile.specs.Gravity.{zeta_of}
use Rattle.profile.specs.Profile.{bates_of, gradient_of, tn1_of, tgn1_of}
use Rattle.profile.specs.declared.unchecked.Shape.{Shape}
use Rattle.tables.specs.Tables.{ptm_t, pdl_t1, pdm_t0, pdm_t1, pdm_t2, pdm_t3, pdm_t4, pdm_t5, pdm_t6}
use Rattle.stages.specs.Stages.{densu_sets, mixed_sets, n2_plan, helium_plan, oxygen_plan, o2_plan, argon_plan, hydrogen_plan, nitrogen_plan, anomalous_plan}

-- a step under a test after one without
pub first_made : (s a b : State) (on : Bool) (t u : Fields → Fields)
    → b ≡ with_fields a (set_when on u (fields_of a)) → a ≡ with_fields s (t (fields_of s)) → b ≡ with_fields s (set_when on u (t (fields_of s)))
first_made s a b on t u e f = e ∙ ap (λ (c : State). with_fields c (set_when on u (fields_of c))) f

-- a further step under the same test
pub also_made : (s a b : State) (on : Bool) (t u w : Fields → Fields)
    → b ≡ with_fields a (set_when on w (fields_of a))
    → a ≡ with_fields s (set_when on u (t (fields_of s)))
    → b ≡ with_fields s (set_when on (λ f. w (u f)) (t (fields_of s)))
also_made s a b true t u w e f = e ∙ ap (λ (c : State). with_fields c (w (fields_of c))) f
also_made s a b false t u w e f = e ∙ f

pub densu_above_lem : (s : State) (h : Shape) (z : Float) (l : List Float) → not (lt z (l ‼ 15)) ≡ true → l ≡ pdl_t1 → s ≡ with_fields s (densu_sets h z (fields_of s))
unfolding densu_sets set_tn1 tn1_of tgn1_of
densu_above_lem s h z l t e = above (lt z (pdl_t1 ‼ 15)) _ _ (rw e at t)
  where
    above : (b : Bool) (x y : List Float) → not b ≡ true → s ≡ with_fields s (set_tn1 (cond b x s.meso_tn1) (cond b y s.meso_tgn1) (fields_of s))
    above true x y t = absurd (false≢true t)
    above false x y t = refl

pub densu_below_lem : (s : State) (h : Shape) (z dta ta zg2 y : Float) (m l : List Float)
    → dta ≡ gradient_of h.re h.tinf ta (m ‼ 5) h.s (l ‼ 15)
    → ta ≡ bates_of h.tinf h.tlb h.s zg2
    → zg2 ≡ zeta_of h.re y (m ‼ 5)
    → y ≡ cond (lt (l ‼ 15) z) z (l ‼ 15)
    → not (lt z (l ‼ 15)) ≡ false
    → m ≡ ptm_t
    → l ≡ pdl_t1
    → with_fields s (set_tn1 (set s.meso_tn1 0 ta) (set s.meso_tgn1 0 dta) (fields_of s)) ≡ with_fields s (densu_sets h z (fields_of s))
unfolding densu_sets set_tn1 tn1_of tgn1_of
densu_below_lem s h z dta ta zg2 y m l e0 e1 e2 e3 t e4 e5 =
    let u : lt z (pdl_t1 ‼ 15) ≡ true = not-false (lt z (pdl_t1 ‼ 15)) (rw e5 at t) in
    simp (e0, e1, e2, e3, e4, e5, u)

-- ---- a stage with State, from its value and what it sets

pub step : {A : Type 0} (l : ExpansionValues) (m : Plan A) (s t : State) (a : A) → a ≡ told (answer_to l) m → t ≡ with_fields s (fields_after (answer_to l) m (fields_of s)) → stepped (answer_to l) m s ≡ ends a t
unfolding stepped
step l m s t a e f = ap₂ (λ (b : _) (u : State). ends b u) (sym e) (sym f)

-- a species: what its plan sets is known from its value
pub species_step : {A : Type 0} (l : ExpansionValues) (m : Plan A) (h : Shape) (z zh : Float) (row : List Float) (on : Bool) (u : A → Fields → Fields) (s a b : State) (x : A)
    → ((f : Fields) → fields_after (answer_to l) m f ≡ set_when on (mixed_sets h z zh (u (told (answer_to l) m))) (densu_sets h z f))
    → x ≡ told (answer_to l) m
    → b ≡ with_fields a (set_when on (u x) (fields_of a))
    → a ≡ with_fields s (set_when on (λ f. densu_sets h z (densu_sets h (row ‼ 2) f)) (densu_sets h z (fields_of s)))
    → row ‼ 2 ≡ zh
    → stepped (answer_to l) m s ≡ ends x b
species_step l m h z zh row on u s a b x k e f g r =
    step l m s b x e
    (also_made s a b on (densu_sets h z) (λ y. densu_sets h z (densu_sets h (row ‼ 2) y)) (u x) f g
    ∙ ap₂ (λ (w : Float) (y : _). with_fields s (set_when on (mixed_sets h z w (u y)) (densu_sets h z (fields_of s)))) r e
    ∙ ap (with_fields s) (sym (k (fields_of s))))

n2_sets : (sw : List Float) (h : Shape) (on : Bool) (z zhf xmm : Float) (l : ExpansionValues) (f : Fields) → fields_after (answer_to l) (n2_plan sw h on z zhf xmm) f
    ≡ set_when on (λ y. set_dm28 (told (answer_to l) (n2_plan sw h on z zhf xmm)).dm (densu_sets h z y)) (densu_sets h (pdm_t2 ‼ 2 ⊗ zhf) (densu_sets h z f))
unfolding told fields_after n2_plan ◌>>=◌
n2_sets sw h on z zhf xmm l f = refl

pub n2_step_law : (sw : List Float) (h : Shape) (on : Bool) (z zhf xmm : Float) (l : ExpansionValues) (s s1 s2 s3 s4 : State) (b : Blend) (m : List Float)
    → s4 ≡ with_fields s3 (set_when on (set_dm28 b.dm) (fields_of s3))
    → s3 ≡ with_fields s2 (set_when on (densu_sets h z) (fields_of s2))
    → s2 ≡ with_fields s1 (densu_sets h (m ‼ 2 ⊗ zhf) (fields_of s1))
    → s1 ≡ with_fields s (densu_sets h z (fields_of s))
    → b ≡ told (answer_to l) (n2_plan sw h on z zhf xmm)
    → m ≡ pdm_t2
    → stepped (answer_to l) (n2_plan sw h on z zhf xmm) s ≡ ends b s4
n2_step_law sw h on z zhf xmm l s s1 s2 s3 s4 b m e0 e1 e2 e3 e4 e5 =
    let t : s2 ≡ with_fields s (densu_sets h (m ‼ 2 ⊗ zhf) (densu_sets h z (fields_of s))) = e2 ∙ ap (λ (c : State). with_fields c (densu_sets h (m ‼ 2 ⊗ zhf) (fields_of c))) e3 in
    step l (n2_plan sw h on z zhf xmm) s s4 b e4
    (also_made s s3 s4 on (λ f. densu_sets h (m ‼ 2 ⊗ zhf) (densu_sets h z f)) (densu_sets h z) (set_dm28 b.dm) e0
    (first_made s s2 s3 on (λ f. densu_sets h (m ‼ 2 ⊗ zhf) (densu_sets h z f)) (densu_sets h z) e1 t)
    ∙ ap₂ (λ (r : List Float) (y : Blend). with_fields s (set_when on (λ f. set_dm28 y.dm (densu_sets h z f)) (densu_sets h (r ‼ 2 ⊗ zhf) (densu_sets h z (fields_of s))))) e5 e4
    ∙ ap (with_fields s) (sym (n2_sets sw h on z zhf xmm l (fields_of s))))

pub anomalous_sets : (sw : List Float) (h : Shape) (z : Float) (l : ExpansionValues) (f : Fields) → fields_after (answer_to l) (anomalous_plan sw h z) f ≡ densu_sets h z f
unfolding fields_after anomalous_plan ◌>>=◌
anomalous_sets sw h z l f = refl

pub helium_sets : (sw : List Float) (h : Shape) (on : Bool) (z b28 zhm xmm : Float) (l : ExpansionValues) (f : Fields)
    → fields_after (answer_to l) (helium_plan sw h on z b28 zhm xmm) f ≡ set_when on (mixed_sets h z (pdm_t0 ‼ 2) (set_dm04 (told (answer_to l) (helium_plan sw h on z b28 zhm xmm)).dm)) (densu_sets h z f)
unfolding told fields_after helium_plan ◌>>=◌
helium_sets sw h on z b28 zhm xmm l f = refl

pub oxygen_sets : (sw : List Float) (h : Shape) (on : Bool) (z zhm xmm flux : Float) (l : ExpansionValues) (f : Fields)
    → fields_after (answer_to l) (oxygen_plan sw h on z zhm xmm flux) f ≡ set_when on (mixed_sets h z (pdm_t1 ‼ 2) (set_dm16 (told (answer_to l) (oxygen_plan sw h on z zhm xmm flux)).dm)) (densu_sets h z f)
unfolding told fields_after oxygen_plan ◌>>=◌
oxygen_sets sw h on z zhm xmm flux l f = refl

pub o2_sets : (sw : List Float) (h : Shape) (on : Bool) (z b28 zhm xmm flux : Float) (l : ExpansionValues) (f : Fields)
    → fields_after (answer_to l) (o2_plan sw h on z b28 zhm xmm flux) f ≡ set_when on (mixed_sets h z (pdm_t3 ‼ 2) (set_dm32 (told (answer_to l) (o2_plan sw h on z b28 zhm xmm flux)).dm)) (densu_sets h z f)
unfolding told fields_after o2_plan ◌>>=◌
o2_sets sw h on z b28 zhm xmm flux l f = refl

pub argon_sets : (sw : List Float) (h : Shape) (on : Bool) (z b28 zhm xmm : Float) (l : ExpansionValues) (f : Fields)
    → fields_after (answer_to l) (argon_plan sw h on z b28 zhm xmm) f ≡ set_when on (mixed_sets h z (pdm_t4 ‼ 2) (set_dm40 (told (answer_to l) (argon_plan sw h on z b28 zhm xmm)).dm)) (densu_sets h z f)
unfolding told fields_after argon_plan ◌>>=◌
argon_sets sw h on z b28 zhm xmm l f = refl

pub hydrogen_sets : (sw : List Float) (h : Shape) (on : Bool) (z b28 zhm xmm : Float) (l : ExpansionValues) (f : Fields)
    → fields_after (answer_to l) (hydrogen_plan sw h on z b28 zhm xmm) f ≡ set_when on (mixed_sets h z (pdm_t5 ‼ 2) (set_dm01 (told (answer_to l) (hydrogen_plan sw h on z b28 zhm xmm)).dm)) (densu_sets h z f)
unfolding told fields_after hydrogen_plan ◌>>=◌
hydrogen_sets sw h on z b28 zhm xmm l f = refl

pub nitrogen_sets : (sw : List Float) (h : Shape) (on : Bool) (z b28 zhm xmm : Float) (l : ExpansionValues) (f : Fields)
    → fields_after (answer_to l) (nitrogen_plan sw h on z b28 zhm xmm) f ≡ set_when on (mixed_sets h z (pdm_t6 ‼ 2) (set_dm14 (told (answer_to l) (nitrogen_plan sw h on z b28 zhm xmm)).dm)) (densu_sets h z f)
unfolding told fields_after nitrogen_plan ◌>>=◌
nitrogen_sets sw h on z b28 zhm xmm l f = refl
