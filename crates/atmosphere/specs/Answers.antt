-- Why a call needs no State: run from a fresh one gtd7 gives what it makes of the expansions' values, and leaves what PD[7] and PD[8] leave and its own steps set.
use Rattle.std.specs.Prelude.{◌≡◌, Bool, true, false, cond, not, List, Float}
use Rattle.std.proofs.Math.Path.{refl, ap}
use Rattle.std.proofs.Common.{sym, ◌∙◌}
use Rattle.std.proofs.lemmas.Bool.{false≢true, not-false}
use Rattle.std.specs.Float.Ieee.{ne, lt, le, of_bits}
use Rattle.numbers.specs.Arithmetic.{◌⊕◌, ◌⊖◌, ◌⊗◌, ◌‼◌}
use Rattle.numbers.specs.Literals.{0·0, 1·0, 32·5, 72·5, 300·0}
use Rattle.elementary.specs.Exp.{exp_of}
use Rattle.setting.specs.declared.State.{State}
use Rattle.setting.specs.declared.View.{View}
use Rattle.setting.specs.declared.Left.{Left}
use Rattle.setting.specs.State.{fresh_of}
use Rattle.expansion.specs.Expansion.{state_after, globe7_of, glob7s_from, glob7s_of}
use Rattle.tables.specs.Names.{Wide, Narrow, wide, narrow, PT, PS, PD0, PD1, PD2, PD3, PD4, PD5, PD6, PD7, PD8, PTL0, PTL1, PTL2, PTL3, PMA0, PMA1, PMA2, PMA3, PMA4, PMA5, PMA6, PMA7, PMA8, PMA9}
use Rattle.tables.specs.Tables.{pt_t, ps_t, pd_t0, pd_t1, pd_t2, pd_t3, pd_t4, pd_t5, pd_t6, pd_t7, pd_t8, pdm_t2, pdl_t1, pma_t0, pma_t1, pma_t2, pma_t3, pma_t4, pma_t5, pma_t6, pma_t7, pma_t8, pma_t9, ptl_t0, ptl_t1, ptl_t2, ptl_t3}
use Rattle.plan.specs.Fields.{Fields, fields_of, with_fields}
use Rattle.plan.specs.Plan.{Plan, done, ask, keep, ◌>>=◌, one_plus_globe7, exp_globe7, one_plus_glob7s, one_minus_glob7s, one_plus_globe7_of, exp_globe7_of, one_plus_glob7s_of, one_minus_glob7s_of, answer, run, Ran, ends, told, fields_after, stepped, answer_to, wide_in, narrow_in}
use Rattle.needed_sets.specs.declared.Need.{Need}
use Rattle.needed_sets.specs.NeededSets.{need_at, with_high}
use Rattle.expansion_values.specs.ExpansionValues.{legendre_in, quiet_of, active_of, wide_of, expansion_values_of}
use Rattle.expansion_values.specs.Settled.{Settled, fresh_settled, after_settled, globe7_first, globe7_second, glob7s_first, glob7s_second, Kept, kept_done, kept_ask, kept_keep, kept_then, kept_either}
use Rattle.mixing_limits.specs.declared.Mixed.{Mixed}
use Rattle.profile.specs.declared.unchecked.Shape.{Shape}
use Rattle.gts7_arithmetic.specs.declared.Site.{Site}
use Rattle.gts7_arithmetic.specs.declared.Gts7Output.{Gts7Output}
use Rattle.gts7_arithmetic.specs.Gts7Arithmetic.{HasMass}
use Rattle.stages.specs.Stages.{tinf_plan, gradient_plan, tlb_plan, nodes_plan, shape_plan, n2_plan, helium_plan, oxygen_plan, o2_plan, argon_plan, hydrogen_plan, nitrogen_plan, anomalous_plan, species_plan, gts7_plan}
use Rattle.lower_atmosphere.specs.declared.Meso.{Meso}
use Rattle.lower_atmosphere.specs.declared.Gtd7Output.{Gtd7Output}
use Rattle.lower_atmosphere.specs.LowerAtmosphere.{meso_nodes_plan, meso_plan, lower_plan}
use Rattle.footing.specs.declared.Footing.{Footing}
use Rattle.footing.specs.Footing.{row_below_of}
use Rattle.footing.specs.Same.{SameButFour, footing_same}
use Rattle.atmosphere.specs.Atmosphere.{gtd7_plan, eleven_from, eleven_at_of}
use Rattle.atmosphere.specs.Rows.{eleven_below}

-- the sets that are worked out hold those that an altitude needs
pub record NeedCovers (n a : Need) : Type 0 where
  pub high : a.high ≡ true → n.high ≡ true
  pub pt : a.pt ≡ true → n.pt ≡ true
  pub ps : a.ps ≡ true → n.ps ≡ true
  pub nodes : a.nodes ≡ true → n.nodes ≡ true
  pub meso : a.meso ≡ true → n.meso ≡ true
  pub tropo : a.tropo ≡ true → n.tropo ≡ true

pub covers_itself : (a : Need) → NeedCovers a a
covers_itself a = record { high = λ e. e; pt = λ e. e; ps = λ e. e; nodes = λ e. e; meso = λ e. e; tropo = λ e. e }

pub highest_covers : (n a : Need) → NeedCovers n a → NeedCovers (with_high n) a
unfolding with_high
highest_covers n a c = record { high = λ e. refl; pt = c.pt; ps = c.ps; nodes = c.nodes; meso = c.meso; tropo = c.tropo }

not_of_false : {b : Bool} → b ≡ false → not b ≡ true
not_of_false e = ap not e

-- every set of globe7 but PD[8] has p[51]
abbrev anew : Wide → Bool
anew PT = true
anew PS = true
anew PD0 = true
anew PD1 = true
anew PD2 = true
anew PD3 = true
anew PD4 = true
anew PD5 = true
anew PD6 = true
anew PD7 = true
anew PD8 = false

takes_history : (p : Wide) → ne (wide p ‼ 51) 0·0 ≡ anew p
unfolding ne of_bits pt_t ps_t pd_t0 pd_t1 pd_t2 pd_t3 pd_t4 pd_t5 pd_t6 pd_t7 pd_t8
takes_history PT = refl
takes_history PS = refl
takes_history PD0 = refl
takes_history PD1 = refl
takes_history PD2 = refl
takes_history PD3 = refl
takes_history PD4 = refl
takes_history PD5 = refl
takes_history PD6 = refl
takes_history PD7 = refl
takes_history PD8 = refl

-- a value is there where its set is needed
value : (b : Bool) (x : Float) → b ≡ true → x ≡ cond b x 0·0
value true x e = refl
value false x e = absurd (false≢true e)

same_globe7 : (v : View) (p : List Float) (s : State) → state_after v p s ≡ state_after v p fresh_of → globe7_of v p s ≡ globe7_of v p fresh_of
unfolding globe7_of
same_globe7 v p s e = cc e

-- gts7 asks for O, H, N and anomalous O at every altitude
module _ (v : View) (n : Need) (hi : n.high ≡ true) where
  -- a step that sets fields
  sets : {A : Type 0} {Q : State → Type 0} {u : Fields → Fields} {m : Plan A} {s : State} → Kept v (answer_to (expansion_values_of v n)) Q m s → Kept v (answer_to (expansion_values_of v n)) Q (keep u m) s
  sets h = kept_keep v (answer_to (expansion_values_of v n)) h

  -- a question of globe7 over a set that takes its history anew
  plus : {A : Type 0} (Q : State → Type 0) (f : Float) (p : Wide) (k : Float → Plan A) (s : State)
      → Settled v s
      → anew p ≡ true
      → wide_of v (legendre_in v) (quiet_of v) (wide p) ≡ wide_in (expansion_values_of v n) p
      → Kept v (answer_to (expansion_values_of v n)) Q (k (answer_to (expansion_values_of v n) (one_plus_globe7 f p))) (state_after v (wide p) fresh_of)
      → Kept v (answer_to (expansion_values_of v n)) Q (ask (one_plus_globe7 f p) k) s
  unfolding answer one_plus_globe7_of globe7_of
  plus Q f p k s h e x next =
      let t = h (wide p) (takes_history p ∙ e) in
      kept_ask v (answer_to (expansion_values_of v n)) Q (one_plus_globe7 f p) k s (state_after v (wide p) fresh_of)
      (ap (λ (r : Left Float). 1·0 ⊕ f ⊗ r.value) (same_globe7 v (wide p) s t) ∙ ap (λ (y : Float). 1·0 ⊕ f ⊗ y) (globe7_first v (wide p) ∙ x))
      t next

  expo : {A : Type 0} (Q : State → Type 0) (f : Float) (p : Wide) (k : Float → Plan A) (s : State)
      → Settled v s
      → anew p ≡ true
      → wide_of v (legendre_in v) (quiet_of v) (wide p) ≡ wide_in (expansion_values_of v n) p
      → Kept v (answer_to (expansion_values_of v n)) Q (k (answer_to (expansion_values_of v n) (exp_globe7 f p))) (state_after v (wide p) fresh_of)
      → Kept v (answer_to (expansion_values_of v n)) Q (ask (exp_globe7 f p) k) s
  unfolding answer exp_globe7_of globe7_of
  expo Q f p k s h e x next =
      let t = h (wide p) (takes_history p ∙ e) in
      kept_ask v (answer_to (expansion_values_of v n)) Q (exp_globe7 f p) k s (state_after v (wide p) fresh_of)
      (ap (λ (r : Left Float). exp_of (f ⊗ r.value)) (same_globe7 v (wide p) s t) ∙ ap (λ (y : Float). exp_of (f ⊗ y)) (globe7_first v (wide p) ∙ x))
      t next

  -- a question of glob7s, which leaves the State as it is
  minus_s : {A : Type 0} (Q : State → Type 0) (f : Float) (p : Narrow) (k : Float → Plan A) (s : State)
      → glob7s_of v (narrow p) s ≡ narrow_in (expansion_values_of v n) p
      → Kept v (answer_to (expansion_values_of v n)) Q (k (answer_to (expansion_values_of v n) (one_minus_glob7s f p))) s
      → Kept v (answer_to (expansion_values_of v n)) Q (ask (one_minus_glob7s f p) k) s
  unfolding answer one_minus_glob7s_of
  minus_s Q f p k s e next = kept_ask v (answer_to (expansion_values_of v n)) Q (one_minus_glob7s f p) k s s (ap (λ (y : Float). 1·0 ⊖ f ⊗ y) e) refl next

  plus_s : {A : Type 0} (Q : State → Type 0) (f : Float) (p : Narrow) (k : Float → Plan A) (s : State)
      → glob7s_of v (narrow p) s ≡ narrow_in (expansion_values_of v n) p
      → Kept v (answer_to (expansion_values_of v n)) Q (k (answer_to (expansion_values_of v n) (one_plus_glob7s f p))) s
      → Kept v (answer_to (expansion_values_of v n)) Q (ask (one_plus_glob7s f p) k) s
  unfolding answer one_plus_glob7s_of
  plus_s Q f p k s e next = kept_ask v (answer_to (expansion_values_of v n)) Q (one_plus_glob7s f p) k s s (ap (λ (y : Float). 1·0 ⊕ f ⊗ y) e) refl next

  -- ---- gts7's stages

  module _ (z : Float) where
    tinf_kept : (lt (pdl_t1 ‼ 15) z ≡ true → n.pt ≡ true) → (s : State) → Settled v s → Kept v (answer_to (expansion_values_of v n)) (Settled v) (tinf_plan v.sw z) s
    unfolding tinf_plan ◌>>=◌ expansion_values_of
    tinf_kept c s h =
        kept_either v (answer_to (expansion_values_of v n)) (Settled v) (lt (pdl_t1 ‼ 15) z) _ _ s
        (λ e. plus (Settled v) (v.sw ‼ 16) PT _ s h refl (value n.pt _ (c e)) (kept_done v (answer_to (expansion_values_of v n)) (Settled v) _ _ (after_settled v pt_t _ refl)))
        (λ e. kept_done v (answer_to (expansion_values_of v n)) (Settled v) _ s h)

    gradient_kept : (lt 72·5 z ≡ true → n.ps ≡ true) → (s : State) → Settled v s → Kept v (answer_to (expansion_values_of v n)) (Settled v) (gradient_plan v.sw z) s
    unfolding gradient_plan ◌>>=◌ expansion_values_of
    gradient_kept c s h =
        kept_either v (answer_to (expansion_values_of v n)) (Settled v) (lt 72·5 z) _ _ s
        (λ e. plus (Settled v) (v.sw ‼ 19) PS _ s h refl (value n.ps _ (c e)) (kept_done v (answer_to (expansion_values_of v n)) (Settled v) _ _ (after_settled v ps_t _ refl)))
        (λ e. kept_done v (answer_to (expansion_values_of v n)) (Settled v) _ s h)

  -- the State after PD[3]
  abbrev After3 : State → Type 0
  After3 t = t ≡ state_after v pd_t3 fresh_of

  tlb_kept : (s : State) → Settled v s → Kept v (answer_to (expansion_values_of v n)) After3 (tlb_plan v.sw) s
  unfolding tlb_plan ◌>>=◌ expansion_values_of wide_of
  tlb_kept s h = plus After3 (v.sw ‼ 17) PD3 _ s h refl refl (kept_done v (answer_to (expansion_values_of v n)) After3 _ _ refl)

  -- PTL and PMA[8] from the State after PD[3]
  in_nodes : (s : State) → After3 s → n.nodes ≡ true → (q : List Float) → glob7s_of v q s ≡ cond n.nodes (glob7s_from v q (legendre_in v) (active_of v pd_t3 (quiet_of v))) 0·0
  in_nodes s h c q = ap (glob7s_of v q) h ∙ glob7s_first v pd_t3 q ∙ value n.nodes _ c

  nodes_kept : (z : Float) → (lt z 300·0 ≡ true → n.nodes ≡ true) → (s : State) → After3 s → Kept v (answer_to (expansion_values_of v n)) After3 (nodes_plan v.sw z) s
  unfolding nodes_plan ◌>>=◌ expansion_values_of
  nodes_kept z c s h =
      kept_either v (answer_to (expansion_values_of v n)) After3 (lt z 300·0) _ _ s
      (λ e.
      minus_s After3 (v.sw ‼ 18) PTL0 _ s (in_nodes s h (c e) ptl_t0)
      (minus_s After3 (v.sw ‼ 18) PTL1 _ s (in_nodes s h (c e) ptl_t1)
      (minus_s After3 (v.sw ‼ 18) PTL2 _ s (in_nodes s h (c e) ptl_t2)
      (minus_s After3 (v.sw ‼ 18 ⊗ v.sw ‼ 20) PTL3 _ s (in_nodes s h (c e) ptl_t3)
      (plus_s After3 (v.sw ‼ 18 ⊗ v.sw ‼ 20) PMA8 _ s (in_nodes s h (c e) pma_t8)
      (sets (kept_done v (answer_to (expansion_values_of v n)) After3 _ s h)))))))
      (λ e. sets (kept_done v (answer_to (expansion_values_of v n)) After3 _ s h))

  shape_kept : (x : Site) (z : Float) → (lt (pdl_t1 ‼ 15) z ≡ true → n.pt ≡ true) → (lt 72·5 z ≡ true → n.ps ≡ true) → (lt z 300·0 ≡ true → n.nodes ≡ true)
      → (s : State) → Settled v s → Kept v (answer_to (expansion_values_of v n)) After3 (shape_plan v.sw x z) s
  unfolding shape_plan
  shape_kept x z c d e s h =
      kept_then v (answer_to (expansion_values_of v n)) (Settled v) After3 (tinf_plan v.sw z) _ s (tinf_kept z c s h)
      (λ s1 h1. kept_then v (answer_to (expansion_values_of v n)) (Settled v) After3 (gradient_plan v.sw z) _ s1 (gradient_kept z d s1 h1)
      (λ s2 h2. kept_then v (answer_to (expansion_values_of v n)) After3 After3 (tlb_plan v.sw) _ s2 (tlb_kept s2 h2)
      (λ s3 h3. kept_then v (answer_to (expansion_values_of v n)) After3 After3 (nodes_plan v.sw z) _ s3 (nodes_kept z e s3 h3)
      (λ s4 h4. kept_done v (answer_to (expansion_values_of v n)) After3 _ s4 h4))))

  n2_kept : (h : Shape) (on : Bool) (z zhf xmm : Float) (s : State) → Settled v s → Kept v (answer_to (expansion_values_of v n)) (Settled v) (n2_plan v.sw h on z zhf xmm) s
  unfolding n2_plan ◌>>=◌ expansion_values_of
  n2_kept h on z zhf xmm s e = expo (Settled v) (v.sw ‼ 21) PD2 _ s e refl refl (sets (sets (sets (kept_done v (answer_to (expansion_values_of v n)) (Settled v) _ _ (after_settled v pd_t2 _ refl)))))

  -- the State after PD[7]
  abbrev After7 : State → Type 0
  After7 t = t ≡ state_after v pd_t7 fresh_of

  module _ (h : Shape) (on : Bool) (z b28 flux zhm xmm : Float) where
    helium_kept : (s : State) → Settled v s → Kept v (answer_to (expansion_values_of v n)) (Settled v) (helium_plan v.sw h on z b28 zhm xmm) s
    unfolding helium_plan ◌>>=◌ expansion_values_of
    helium_kept s e = expo (Settled v) (v.sw ‼ 21) PD0 _ s e refl refl (sets (sets (kept_done v (answer_to (expansion_values_of v n)) (Settled v) _ _ (after_settled v pd_t0 _ refl))))

    oxygen_kept : (s : State) → Settled v s → Kept v (answer_to (expansion_values_of v n)) (Settled v) (oxygen_plan v.sw h on z zhm xmm flux) s
    unfolding oxygen_plan ◌>>=◌ expansion_values_of
    oxygen_kept s e = expo (Settled v) (v.sw ‼ 21) PD1 _ s e refl (value n.high _ hi) (sets (sets (kept_done v (answer_to (expansion_values_of v n)) (Settled v) _ _ (after_settled v pd_t1 _ refl))))

    o2_kept : (s : State) → Settled v s → Kept v (answer_to (expansion_values_of v n)) (Settled v) (o2_plan v.sw h on z b28 zhm xmm flux) s
    unfolding o2_plan ◌>>=◌ expansion_values_of
    o2_kept s e = expo (Settled v) (v.sw ‼ 21) PD4 _ s e refl refl (sets (sets (kept_done v (answer_to (expansion_values_of v n)) (Settled v) _ _ (after_settled v pd_t4 _ refl))))

    argon_kept : (s : State) → Settled v s → Kept v (answer_to (expansion_values_of v n)) (Settled v) (argon_plan v.sw h on z b28 zhm xmm) s
    unfolding argon_plan ◌>>=◌ expansion_values_of
    argon_kept s e = expo (Settled v) (v.sw ‼ 21) PD5 _ s e refl refl (sets (sets (kept_done v (answer_to (expansion_values_of v n)) (Settled v) _ _ (after_settled v pd_t5 _ refl))))

    hydrogen_kept : (s : State) → Settled v s → Kept v (answer_to (expansion_values_of v n)) (Settled v) (hydrogen_plan v.sw h on z b28 zhm xmm) s
    unfolding hydrogen_plan ◌>>=◌ expansion_values_of
    hydrogen_kept s e = expo (Settled v) (v.sw ‼ 21) PD6 _ s e refl (value n.high _ hi) (sets (sets (kept_done v (answer_to (expansion_values_of v n)) (Settled v) _ _ (after_settled v pd_t6 _ refl))))

    nitrogen_kept : (s : State) → Settled v s → Kept v (answer_to (expansion_values_of v n)) After7 (nitrogen_plan v.sw h on z b28 zhm xmm) s
    unfolding nitrogen_plan ◌>>=◌ expansion_values_of wide_of
    nitrogen_kept s e = expo After7 (v.sw ‼ 21) PD7 _ s e refl (value n.high _ hi) (sets (sets (kept_done v (answer_to (expansion_values_of v n)) After7 _ _ refl)))

  species_kept : (h : Shape) (m : Mixed) (z b28 flux xmm : Float) (s : State) → Settled v s → Kept v (answer_to (expansion_values_of v n)) After7 (species_plan v.sw h m z b28 flux xmm) s
  unfolding species_plan
  species_kept h m z b28 flux xmm s e =
      let zhm = pdm_t2 ‼ 3 ⊗ pdl_t1 ‼ 5 in
      kept_then v (answer_to (expansion_values_of v n)) (Settled v) After7 (helium_plan v.sw h m.he z b28 zhm xmm) _ s (helium_kept h m.he z b28 flux zhm xmm s e)
      (λ s1 e1. kept_then v (answer_to (expansion_values_of v n)) (Settled v) After7 (oxygen_plan v.sw h m.o z zhm xmm flux) _ s1 (oxygen_kept h m.o z b28 flux zhm xmm s1 e1)
      (λ s2 e2. kept_then v (answer_to (expansion_values_of v n)) (Settled v) After7 (o2_plan v.sw h m.o2 z b28 zhm xmm flux) _ s2 (o2_kept h m.o2 z b28 flux zhm xmm s2 e2)
      (λ s3 e3. kept_then v (answer_to (expansion_values_of v n)) (Settled v) After7 (argon_plan v.sw h m.ar z b28 zhm xmm) _ s3 (argon_kept h m.ar z b28 flux zhm xmm s3 e3)
      (λ s4 e4. kept_then v (answer_to (expansion_values_of v n)) (Settled v) After7 (hydrogen_plan v.sw h m.h z b28 zhm xmm) _ s4 (hydrogen_kept h m.h z b28 flux zhm xmm s4 e4)
      (λ s5 e5. kept_then v (answer_to (expansion_values_of v n)) After7 After7 (nitrogen_plan v.sw h m.n z b28 zhm xmm) _ s5 (nitrogen_kept h m.n z b28 flux zhm xmm s5 e5)
      (λ s6 e6. kept_done v (answer_to (expansion_values_of v n)) After7 _ s6 e6))))))

  -- the State that gtd7 leaves: after PD[7] and PD[8]
  abbrev After8 : State → Type 0
  After8 t = t ≡ state_after v pd_t8 (state_after v pd_t7 fresh_of)

  anomalous_kept : (h : Shape) (z : Float) (s : State) → After7 s → Kept v (answer_to (expansion_values_of v n)) After8 (anomalous_plan v.sw h z) s
  unfolding anomalous_plan ◌>>=◌ answer exp_globe7_of globe7_of expansion_values_of wide_of
  anomalous_kept h z s e =
      kept_ask v (answer_to (expansion_values_of v n)) After8 (exp_globe7 (v.sw ‼ 21) PD8) _ s (state_after v pd_t8 (state_after v pd_t7 fresh_of))
      (ap (λ (t : State). exp_of (v.sw ‼ 21 ⊗ (globe7_of v pd_t8 t).value)) e ∙ ap (λ (y : Float). exp_of (v.sw ‼ 21 ⊗ y)) (globe7_second v pd_t7 pd_t8 ∙ value n.high _ hi))
      (ap (state_after v pd_t8) e)
      (sets (kept_done v (answer_to (expansion_values_of v n)) After8 _ _ refl))

  gts7_kept : (x : Site) (z : Float) → (lt (pdl_t1 ‼ 15) z ≡ true → n.pt ≡ true) → (lt 72·5 z ≡ true → n.ps ≡ true) → (lt z 300·0 ≡ true → n.nodes ≡ true)
      → Kept v (answer_to (expansion_values_of v n)) After8 (gts7_plan v.sw x z) fresh_of
  unfolding gts7_plan
  gts7_kept x z c d e =
      kept_then v (answer_to (expansion_values_of v n)) After3 After8 (shape_plan v.sw x z) _ fresh_of (shape_kept x z c d e fresh_of (fresh_settled v))
      (λ s1 e1. kept_then v (answer_to (expansion_values_of v n)) (Settled v) After8 (n2_plan v.sw _ _ z x.zhf x.nine.xmm) _ s1 (n2_kept _ _ z x.zhf x.nine.xmm s1 (after_settled v pd_t3 s1 e1))
      (λ s2 e2. kept_then v (answer_to (expansion_values_of v n)) After7 After8 (species_plan v.sw _ _ z _ x.flux x.nine.xmm) _ s2 (species_kept _ _ z _ x.flux x.nine.xmm s2 e2)
      (λ s3 e3. kept_then v (answer_to (expansion_values_of v n)) After8 After8 (anomalous_plan v.sw _ z) _ s3 (anomalous_kept _ z s3 e3)
      (λ s4 e4. sets (kept_done v (answer_to (expansion_values_of v n)) After8 _ s4 e4)))))

  -- ---- the lower nodes, from the State that gts7 leaves

  -- the lower sets, where b says that they are needed
  in_lower : (s : State) → After8 s → (b : Bool) → b ≡ true → (q : List Float) → glob7s_of v q s ≡ cond b (glob7s_from v q (legendre_in v) (active_of v pd_t8 (active_of v pd_t7 (quiet_of v)))) 0·0
  in_lower s h b c q = ap (glob7s_of v q) h ∙ glob7s_second v pd_t7 pd_t8 q ∙ value b _ c

  meso_kept : n.meso ≡ true → (u : Gts7Output) (s : State) → After8 s → Kept v (answer_to (expansion_values_of v n)) After8 (meso_plan v.sw u) s
  unfolding meso_plan meso_nodes_plan ◌>>=◌ expansion_values_of
  meso_kept c u s h =
      let there = in_lower s h n.meso c in
      minus_s After8 (v.sw ‼ 20) PMA0 _ s (there pma_t0)
      (minus_s After8 (v.sw ‼ 20) PMA1 _ s (there pma_t1)
      (minus_s After8 (v.sw ‼ 20 ⊗ v.sw ‼ 22) PMA2 _ s (there pma_t2)
      (plus_s After8 (v.sw ‼ 20 ⊗ v.sw ‼ 22) PMA9 _ s (there pma_t9)
      (sets (sets (kept_done v (answer_to (expansion_values_of v n)) After8 _ s h))))))

  lower_kept : (alt : Float) → (lt alt 32·5 ≡ true → n.tropo ≡ true) → (m : Meso) (s : State) → After8 s → Kept v (answer_to (expansion_values_of v n)) After8 (lower_plan v.sw alt m) s
  unfolding lower_plan ◌>>=◌ expansion_values_of
  lower_kept alt c m s h =
      kept_either v (answer_to (expansion_values_of v n)) After8 (not (lt alt 32·5)) _ _ s
      (λ e. kept_done v (answer_to (expansion_values_of v n)) After8 _ s h)
      (λ e.
      let there = in_lower s h n.tropo (c (not-false _ e)) in
      minus_s After8 (v.sw ‼ 22) PMA3 _ s (there pma_t3)
      (minus_s After8 (v.sw ‼ 22) PMA4 _ s (there pma_t4)
      (minus_s After8 (v.sw ‼ 22) PMA5 _ s (there pma_t5)
      (minus_s After8 (v.sw ‼ 22) PMA6 _ s (there pma_t6)
      (plus_s After8 (v.sw ‼ 22) PMA7 _ s (there pma_t7)
      (sets (kept_done v (answer_to (expansion_values_of v n)) After8 _ s h)))))))

  gtd7_kept : (x : Site) (alt : Float) → NeedCovers n (need_at alt) → Kept v (answer_to (expansion_values_of v n)) After8 (gtd7_plan v.sw x alt) fresh_of
  unfolding gtd7_plan need_at
  gtd7_kept x alt c =
      sets
      (kept_then v (answer_to (expansion_values_of v n)) After8 After8 (gts7_plan v.sw x (cond (lt 72·5 alt) alt 72·5)) _ fresh_of
      (gts7_kept x (cond (lt 72·5 alt) alt 72·5) c.pt c.ps c.nodes)
      (λ s1 e1. kept_either v (answer_to (expansion_values_of v n)) After8 (le 72·5 alt) _ _ s1
      (λ t. kept_done v (answer_to (expansion_values_of v n)) After8 _ s1 e1)
      (λ t. kept_then v (answer_to (expansion_values_of v n)) After8 After8 (meso_plan v.sw _) _ s1 (meso_kept (c.meso (not_of_false t)) _ s1 e1)
      (λ s2 e2. kept_then v (answer_to (expansion_values_of v n)) After8 After8 (lower_plan v.sw alt _) _ s2 (lower_kept alt c.tropo _ s2 e2)
      (λ s3 e3. sets (kept_done v (answer_to (expansion_values_of v n)) After8 _ s3 e3))))))

-- From a fresh State gtd7 gives what it makes of the expansions' values that hold what its altitude needs and those of O, H, N and anomalous O, and leaves
-- what PD[7] and PD[8] leave, with the fields that its steps set
pub gtd7_runs : (v : View) (n : Need) (x : Site) (alt : Float) → n.high ≡ true → NeedCovers n (need_at alt)
    → run v (gtd7_plan v.sw x alt) fresh_of ≡ stepped (answer_to (expansion_values_of v n)) (gtd7_plan v.sw x alt) (state_after v pd_t8 (state_after v pd_t7 fresh_of))
unfolding stepped state_after
gtd7_runs v n x alt hi c =
    let g = answer_to (expansion_values_of v n) in
    let k = gtd7_kept v n hi x alt c in
    k.ran (fields_of fresh_of)
    ∙ ap (λ (t : State). ends (told g (gtd7_plan v.sw x alt)) (with_fields t (fields_after g (gtd7_plan v.sw x alt) (fields_of fresh_of)))) k.fits

-- the State that gtd7 leaves, with the result
pub gtd7_left : (v : View) (x : Site) (alt : Float)
    → run v (gtd7_plan v.sw x alt) fresh_of
    ≡ stepped (answer_to (expansion_values_of v (with_high (need_at alt)))) (gtd7_plan v.sw x alt) (state_after v pd_t8 (state_after v pd_t7 fresh_of))
unfolding with_high
gtd7_left v x alt = gtd7_runs v (with_high (need_at alt)) x alt refl (highest_covers (need_at alt) (need_at alt) (covers_itself (need_at alt)))

-- ---- the eleven numbers; below 72.5 km they do not depend on O, H, N and anomalous O

four_apart : (v : View) (n : Need) → SameButFour (expansion_values_of v n) (expansion_values_of v (with_high n))
unfolding expansion_values_of with_high
four_apart v n =
    record {
      pt = refl;
      ps = refl;
      pd0 = refl;
      pd2 = refl;
      pd3 = refl;
      pd4 = refl;
      pd5 = refl;
      ptl0 = refl;
      ptl1 = refl;
      ptl2 = refl;
      ptl3 = refl;
      pma0 = refl;
      pma1 = refl;
      pma2 = refl;
      pma3 = refl;
      pma4 = refl;
      pma5 = refl;
      pma6 = refl;
      pma7 = refl;
      pma8 = refl;
      pma9 = refl;
    }

eleven_by : (v : View) (n : Need) (x : Site) (alt : Float) → n.high ≡ true → NeedCovers n (need_at alt) → eleven_at_of v x alt ≡ eleven_from v.sw x (expansion_values_of v n) alt
unfolding eleven_at_of eleven_from stepped
eleven_by v n x alt hi c = ap (λ (r : Ran Gtd7Output). r.result.row) (gtd7_runs v n x alt hi c)

eleven_there : (v : View) (n : Need) (x : Site) (alt : Float) (b : Bool) → HasMass x → le 72·5 alt ≡ b → (b ≡ true → n.high ≡ true) → NeedCovers n (need_at alt)
    → eleven_at_of v x alt ≡ eleven_from v.sw x (expansion_values_of v n) alt
unfolding with_high
eleven_there v n x alt true gas t h c = eleven_by v n x alt (h refl) c
eleven_there v n x alt false gas t h c =
    eleven_by v (with_high n) x alt refl (highest_covers n (need_at alt) c)
    ∙ sym (eleven_below v.sw x (expansion_values_of v (with_high n)) alt true _ _ gas refl refl (λ e. refl) t)
    ∙ ap (λ (f : Footing). row_below_of (v.sw ‼ 0) f alt) (sym (footing_same (expansion_values_of v n) (expansion_values_of v (with_high n)) (four_apart v n) v.sw x true))
    ∙ eleven_below v.sw x (expansion_values_of v n) alt true _ _ gas refl refl (λ e. refl) t

-- From a fresh State, the mass of mixed air not being 0, gtd7 gives the eleven numbers that it makes of the expansions' values that hold what its altitude needs
pub eleven_covered : (v : View) (n : Need) (x : Site) (alt : Float) → HasMass x → NeedCovers n (need_at alt) → eleven_at_of v x alt ≡ eleven_from v.sw x (expansion_values_of v n) alt
unfolding need_at
eleven_covered v n x alt gas c = eleven_there v n x alt (le 72·5 alt) gas refl c.high c

pub eleven_told : (v : View) (x : Site) (alt : Float) → HasMass x → eleven_at_of v x alt ≡ eleven_from v.sw x (expansion_values_of v (need_at alt)) alt
eleven_told v x alt gas = eleven_covered v (need_at alt) x alt gas (covers_itself (need_at alt))
