-- lst, f107a and f107 over plans, where the list shuts them off. By W-210's rows they are read, and what the terms make of them is finite and
-- multiplied by zero. An expansion's value then keeps all but the sign of a zero, each use of it loses that sign, and State keeps all but dfa.
use Rattle.std.specs.Prelude.{◌≡◌, Bool, true, false, not, ◌&&◌, ◌||◌, cond, List, [], ◌∷◌, ℕ, zero, suc, ◌+◌, T, leb, ltb, get_or, ℤ, pos, negsuc, Float}
use Rattle.std.proofs.Math.Path.{refl, sym, ap, subst}
use Rattle.std.proofs.Common.{◌∙◌, eqb→eq, lit<, T_not}
use Rattle.std.proofs.Math.Dec.{not_T}
use Rattle.std.specs.Float.Ieee.{eq, ne, neg, lt, of_bits}
use Rattle.std.specs.Float.Ieee.Fits.{and_l, and_r}
use Rattle.numbers.specs.Arithmetic.{◌⊕◌, ◌⊖◌, ◌⊗◌, ◌‼◌, at}
use Rattle.numbers.specs.Literals.{0·0, 1·0, 2·0, 150·0}
use Rattle.numbers.specs.Tests.{abs_of}
use Rattle.setting.specs.declared.State.{State}
use Rattle.setting.specs.declared.Input.{Input}
use Rattle.setting.specs.declared.View.{View}
use Rattle.setting.specs.State.{fresh_of}
use Rattle.views.specs.Phases.{local_cos_of}
use Rattle.setting.specs.Switches.{given, is_one, above_zero, on_off, sw_at, swc_at}
use Rattle.tables.specs.Tables.{pdl_t0}
use Rattle.tables.specs.Names.{Wide, Narrow, wide, narrow}
use Rattle.terms.specs.Terms.{t0_of, f1_of, f2_of, flux_factor_of, t1_of, local_time_part_of, activity_term_of}
use Rattle.legendre.specs.Legendre.{flat_of, rows_of, row0_of, row1_of}
use Rattle.expansion_parts.specs.ExpansionParts.{day_cosines_of, longitude_cosines_of, t8_of, history8_of, daily8_of, t10_of, t11_of, t12_of, history12_of, daily12_of, weighted_of, t8s_of, t10s_given}
use Rattle.expansion.specs.Expansion.{first_terms_of, carried_of, globe7_given, globe7_value, turns_after_of, state_after, globe7_of, glob7s_given, glob7s_from_given, glob7s_from, glob7s_of}
use Rattle.plan.specs.Plan.{Ask, one_plus_globe7, exp_globe7, one_plus_glob7s, one_minus_glob7s, one_plus_globe7_of, exp_globe7_of, one_plus_glob7s_of, one_minus_glob7s_of, Plan, done, ask, keep, answer, run}
use Rattle.plan.specs.Fields.{Fields, fields_of, with_fields}
use Rattle.parameters.specs.declared.Parameters.{Parameters}
use Rattle.gts7_arithmetic.specs.Gts7Arithmetic.{site_from, site_with}
use Rattle.shutoff.specs.Shut.{one, off, nine_is_zero, shut, Alike}
use Rattle.shutoff.specs.PlainView.{plain_view}
use Rattle.shutoff.proofs.Agree.{zero_off, float_is}
use Rattle.shutoff.specs.Size.{Sized, sized_mul, sized_add, sized_sub, wider}
use Rattle.shutoff.specs.Zero.{plain, plain_add, plain_times, zero_times, times_zero, zero_times_times, times_zero_times, one_plus, one_minus, exp_plain, weighted_plain}
use Rattle.shutoff.specs.Fit.{Fit, computed, up_to, dfa_sized, square_sized, wide_sized, narrow_sized, daily_phase, history_phase, flux_sized, local_sized, Good, latitude_good}

-- lst is shut off
abbrev lst_off : List ℤ → Bool
lst_off w = get_or (shut w) 6 true

-- the record with another lst, f107a and f107
abbrev pub changed : Input → Float → Float → Float → Input
changed n lst f107a f107 =
    record {
      year = n.year;
      doy = n.doy;
      sec = n.sec;
      alt = n.alt;
      g_lat = n.g_lat;
      g_long = n.g_long;
      lst = lst;
      f107a = f107a;
      f107 = f107;
      ap = n.ap;
      history = n.history;
      ap_array = n.ap_array;
    }

-- State with another dfa
abbrev pub with_dfa : State → Float → State
with_dfa s dfa =
    record {
      gsurf = s.gsurf;
      re = s.re;
      dd = s.dd;
      dm04 = s.dm04;
      dm16 = s.dm16;
      dm28 = s.dm28;
      dm28_set = s.dm28_set;
      dm32 = s.dm32;
      dm40 = s.dm40;
      dm01 = s.dm01;
      dm14 = s.dm14;
      meso_tn1 = s.meso_tn1;
      meso_tn2 = s.meso_tn2;
      meso_tn3 = s.meso_tn3;
      meso_tgn1 = s.meso_tgn1;
      meso_tgn2 = s.meso_tgn2;
      meso_tgn3 = s.meso_tgn3;
      dfa = dfa;
      plg = s.plg;
      ctloc = s.ctloc;
      stloc = s.stloc;
      c2tloc = s.c2tloc;
      s2tloc = s.s2tloc;
      s3tloc = s.s3tloc;
      c3tloc = s.c3tloc;
      apdf = s.apdf;
      apt = s.apt;
    }

-- ---- the row's tests

by_cases : {X : Type 0} (b : Bool) → (T b → X) → (T (not b) → X) → X
by_cases true f g = f tt
by_cases false f g = g tt

off_is : (b : Bool) → T (not b) → on_off b ≡ 0·0
off_is true t = absurd t
off_is false t = refl

one→above : (z : ℤ) → T (is_one z) → T (above_zero z)
one→above (pos n) t = subst (λ (k : ℕ). T (ltb 0 k)) (sym (eqb→eq n 1 t)) tt
one→above (negsuc n) t = t

-- a switch that is 0 or below is not 1
not_one : (z : ℤ) → T (not (above_zero z)) → T (not (is_one z))
not_one z t = not_T (is_one z) (λ u. T_not (above_zero z) t (one→above z u))

or_cases : {X : Type 0} (x y : Bool) → T (x || y) → (T x → X) → (T y → X) → X
or_cases true y t f g = f tt
or_cases false y t f g = g t

-- n: 9 is 0; x, y, z: 7, 8, 14 are 1; o: 7 is 0 or below. Where lst is shut off none of 7, 8, 14 is 1
rows_off : (n x y z o : Bool) → (T o → T (not x)) → T ((n && not x && not y && not z) || (o && not y && not z)) → T (not x) × T (not y) × T (not z)
rows_off n x y z o k t =
    or_cases (n && not x && not y && not z) (o && not y && not z) t
    (λ u.
    let v = and_l (n && not x && not y) (not z) u in
    (and_r n (not x) (and_l (n && not x) (not y) v), and_r (n && not x) (not y) v, and_r (n && not x && not y) (not z) u))
    (λ u. let v = and_l (o && not y) (not z) u in (k (and_l o (not y) v), and_r o (not y) v, and_r (o && not y) (not z) u))

-- where it is shut off though 9 is not 0, 7 is 0 or below
seven_off : (n x y z o : Bool) → T (not n) → T ((n && not x && not y && not z) || (o && not y && not z)) → T o
seven_off false x y z o t u = and_l o (not y) (and_l (o && not y) (not z) u)
seven_off true x y z o t u = absurd t

none_on : (x y z : Bool) → T (not x) → T (not y) → T (not z) → not ((eq (on_off x) 0·0 && eq (on_off y) 0·0) && eq (on_off z) 0·0) ≡ false
unfolding eq of_bits
none_on false false false s t u = refl
none_on true y z s t u = absurd s
none_on false true z s t u = absurd t
none_on false false true s t u = absurd u

-- ---- numbers alike but for the sign of a zero

branch_plain : (c : Bool) (x y d e : Float) → plain x ≡ plain y → plain d ≡ plain e → plain (cond c x d) ≡ plain (cond c y e)
branch_plain true x y d e h k = h
branch_plain false x y d e h k = k

skip_plain : (c : Bool) (x y : Float) → (T c → plain x ≡ plain y) → plain (cond (not c) 0·0 x) ≡ plain (cond (not c) 0·0 y)
skip_plain true x y h = h tt
skip_plain false x y h = refl

activity_plain : (g : List (List Float)) (a k0 k1 k2 k3 k4 k5 cd c5 y z : Float) → plain y ≡ plain z
    → plain (activity_term_of g a k0 k1 k2 k3 k4 k5 cd c5 y) ≡ plain (activity_term_of g a k0 k1 k2 k3 k4 k5 cd c5 z)
unfolding activity_term_of
activity_plain g a k0 k1 k2 k3 k4 k5 cd c5 y z h = plain_times a _ _ (plain_add _ _ y z refl h)

-- lists of numbers alike, and their weighted sums: of the first number only the product counts
abbrev Each : List Float → List Float → Type 0
Each [] [] = Unit {0}
Each [] (y ∷ ys) = ⊥
Each (x ∷ xs) [] = ⊥
Each (x ∷ xs) (y ∷ ys) = (plain x ≡ plain y) × Each xs ys

each_at : (xs ys : List Float) → Each xs ys → (k : ℕ) → plain (xs ‼ k) ≡ plain (ys ‼ k)
each_at [] [] e k = refl
each_at [] (y ∷ ys) e k = absurd e
each_at (x ∷ xs) [] e k = absurd e
each_at (x ∷ xs) (y ∷ ys) e zero = e.0
each_at (x ∷ xs) (y ∷ ys) e (suc k) = each_at xs ys e.1 k

sum_plain : (first : Float) (sw : List Float) (x y : Float) (xs ys : List Float) → plain (abs_of (sw ‼ 1) ⊗ x) ≡ plain (abs_of (sw ‼ 1) ⊗ y) → Each xs ys
    → plain (weighted_of first sw (x ∷ xs)) ≡ plain (weighted_of first sw (y ∷ ys))
unfolding weighted_of
sum_plain first sw x y xs ys h e = weighted_plain 14 sw (x ∷ xs) (y ∷ ys) 0 first first refl go
  where
    go : (k : ℕ) → plain (abs_of (sw ‼ (k + 1)) ⊗ (x ∷ xs) ‼ k) ≡ plain (abs_of (sw ‼ (k + 1)) ⊗ (y ∷ ys) ‼ k)
    go zero = h
    go (suc k) = plain_times (abs_of (sw ‼ (suc k + 1))) (xs ‼ k) (ys ‼ k) (each_at xs ys e k)

-- globe7's value does not read dfa of State
other_dfa : (v : View) (p : List Float) (s : State) (x : Float)
    → globe7_value v p (rows_of s.plg) (carried_of s) ≡ globe7_value v p (rows_of (with_dfa s x).plg) (carried_of (with_dfa s x))
unfolding globe7_value globe7_given carried_of
other_dfa v p s x = refl

-- ---- two records that are alike, and differ in lst, f107a and f107 at most

-- two States that differ in dfa alone, and there only where the fluxes do
pub record SameButDfa (w : List ℤ) (s t : State) : Type 0 where
  pub but : t ≡ with_dfa s t.dfa
  pub dfa : T (not (off w 1)) → s.dfa ≡ t.dfa
  pub dfa_s : Sized 12 s.dfa
  pub dfa_t : Sized 12 t.dfa

pub fresh_itself : (w : List ℤ) → SameButDfa w fresh_of fresh_of
unfolding fresh_of up_to of_bits
fresh_itself w = record { but = refl; dfa = λ _. refl; dfa_s = computed 12 0·0 tt; dfa_t = computed 12 0·0 tt }

-- a step sets the same fields to the same numbers in both
step_kept : (w : List ℤ) (u : Fields → Fields) (s t : State) → SameButDfa w s t → SameButDfa w (with_fields s (u (fields_of s))) (with_fields t (u (fields_of t)))
step_kept w u s t e =
    record {
      but = ap (λ (r : State). with_fields r (u (fields_of r))) e.but;
      dfa = e.dfa;
      dfa_s = e.dfa_s;
      dfa_t = e.dfa_t;
    }

module _ (w : List ℤ) (a : Input) (l fa f : Float) (like : Alike w a (changed a l fa f)) where
  abbrev b : Input
  b = changed a l fa f

  abbrev A : View
  A = plain_view w a

  abbrev B : View
  B = plain_view w b

  lst≡ : T (not (lst_off w)) → a.lst ≡ l
  lst≡ t = float_is (like 6 (lit< tt) t)

  f107a≡ : T (not (off w 1)) → a.f107a ≡ fa
  f107a≡ t = float_is (like 7 (lit< tt) t)

  f107≡ : T (not (off w 1)) → a.f107 ≡ f
  f107≡ t = float_is (like 8 (lit< tt) t)

  -- what the list's rows for lst say of the switches 7, 8 and 14
  seven : T (ne (sw_at w 9) 0·0) → T (lst_off w) → T (off w 7)
  seven v u = seven_off (nine_is_zero w) (one w 7) (one w 8) (one w 14) (off w 7) (zero_off (given w 9) v) u

  still : T (lst_off w) → not ((eq (sw_at w 7) 0·0 && eq (sw_at w 8) 0·0) && eq (sw_at w 14) 0·0) ≡ false
  still u =
      let r = rows_off (nine_is_zero w) (one w 7) (one w 8) (one w 14) (off w 7) (not_one (given w 7)) u in
      none_on (one w 7) (one w 8) (one w 14) r.0 r.1 r.2

  -- ---- State

  turn : (x y u : Float) → (T (not (lst_off w)) → x ≡ y)
      → cond (not ((eq (sw_at w 7) 0·0 && eq (sw_at w 8) 0·0) && eq (sw_at w 14) 0·0)) x u ≡ cond (not ((eq (sw_at w 7) 0·0 && eq (sw_at w 8) 0·0) && eq (sw_at w 14) 0·0)) y u
  turn x y u k = by_cases (lst_off w) (λ o. rw (still o)) (λ o. cc (k o))

  pub after≡ : (p : List Float) (s : State) (x : Float) → state_after B p (with_dfa s x) ≡ with_dfa (state_after A p s) B.dfa
  unfolding state_after turns_after_of
  after≡ p s x =
      cc (
        turn A.ct B.ct s.ctloc (λ o. cc (lst≡ o)),
        turn A.st B.st s.stloc (λ o. cc (lst≡ o)),
        turn A.c2t B.c2t s.c2tloc (λ o. cc (lst≡ o)),
        turn A.s2t B.s2t s.s2tloc (λ o. cc (lst≡ o)),
        turn A.c3t B.c3t s.c3tloc (λ o. cc (lst≡ o)),
        turn A.s3t B.s3t s.s3tloc (λ o. cc (lst≡ o)),
      )

  -- ---- both accepted

  module _ (fit_a : Fit a) (fit_b : Fit b) where
    -- a factor 0: the cross effect of switch 1, and its main effect
    cross≈ : {j k : ℕ} {x y : Float} → T (leb j 1023) → T (leb k 1023) → T (off w 1) → Sized j x → Sized k y → plain (x ⊗ swc_at w 1) ≡ plain (y ⊗ swc_at w 1)
    cross≈ c d u hx hy =
        rw (off_is (above_zero (given w 1)) u) (times_zero c hx ∙ sym (times_zero d hy))

    main_is : T (off w 1) → sw_at w 1 ≡ 0·0
    main_is u = off_is (is_one (given w 1)) (not_one (given w 1) u)

    main≈ : {j k : ℕ} {x y : Float} → T (leb j 1023) → T (leb k 1023) → T (off w 1) → Sized j x → Sized k y → plain (abs_of (sw_at w 1) ⊗ x) ≡ plain (abs_of (sw_at w 1) ⊗ y)
    main≈ c d u hx hy =
        rw (main_is u, abs_zero) (zero_times c hx ∙ sym (zero_times d hy))
      where
        abs_zero : abs_of 0·0 ≡ 0·0
        abs_zero = unfold abs_of lt eq of_bits in refl

    df_a : Sized 12 A.df
    df_a = sized_sub fit_a.f107 fit_a.f107a

    df_b : Sized 12 B.df
    df_b = sized_sub fit_b.f107 fit_b.f107a

    dfa_a : Sized 12 A.dfa
    dfa_a = dfa_sized fit_a.f107a

    dfa_b : Sized 12 B.dfa
    dfa_b = dfa_sized fit_b.f107a

    -- ---- globe7

    module _ (t : Wide) (g : List (List Float)) (q : Good g) where
      abbrev p : List Float
      p = wide t

      num : (k : ℕ) → T (ltb k 150) → Sized 44 (p ‼ k)
      num k c = wide_sized t k (lit< c)

      factor≡ : (k : ℕ) → T (ltb k 150) → flux_factor_of (p ‼ k) A.dfa (swc_at w 1) ≡ flux_factor_of (p ‼ k) B.dfa (swc_at w 1)
      unfolding flux_factor_of
      factor≡ k c = by_cases (off w 1) (λ u. one_plus _ _ (cross≈ tt tt u (sized_mul (num k c) dfa_a) (sized_mul (num k c) dfa_b))) (λ u. cc (f107a≡ u))

      solar : {x df dfa : Float} → Sized 44 x → Sized 12 df → Sized 12 dfa → Sized 90 (x ⊗ dfa ⊕ p ‼ 19 ⊗ df ⊕ p ‼ 20 ⊗ df ⊗ df)
      solar hx hd ha = wider tt (sized_add (sized_add (sized_mul hx ha) (sized_mul (num 19 tt) hd)) (sized_mul (sized_mul (num 20 tt) hd) hd))

      f1≡ : f1_of p A.df A.dfa (swc_at w 1) ≡ f1_of p B.df B.dfa (swc_at w 1)
      unfolding f1_of
      f1≡ = by_cases (off w 1) (λ u. one_plus _ _ (cross≈ tt tt u (solar (num 47 tt) df_a dfa_a) (solar (num 47 tt) df_b dfa_b))) (λ u. cc (f107a≡ u, f107≡ u))

      f2≡ : f2_of p A.df A.dfa (swc_at w 1) ≡ f2_of p B.df B.dfa (swc_at w 1)
      unfolding f2_of
      f2≡ = by_cases (off w 1) (λ u. one_plus _ _ (cross≈ tt tt u (solar (num 49 tt) df_a dfa_a) (solar (num 49 tt) df_b dfa_b))) (λ u. cc (f107a≡ u, f107≡ u))

      t0_sized : {df dfa dfa2 : Float} → Sized 12 df → Sized 12 dfa → Sized 25 dfa2 → Sized 200 (t0_of p df dfa dfa2)
      unfolding t0_of up_to of_bits
      t0_sized hd ha h2 =
          wider tt
          (sized_add
          (sized_add
          (sized_add (sized_mul (sized_mul (num 19 tt) hd) (sized_add (computed 0 1·0 tt) (sized_mul (num 59 tt) ha))) (sized_mul (sized_mul (num 20 tt) hd) hd))
          (sized_mul (num 21 tt) ha))
          (sized_mul (num 29 tt) h2))

      t0≈ : plain (abs_of (sw_at w 1) ⊗ t0_of p A.df A.dfa A.dfa2) ≡ plain (abs_of (sw_at w 1) ⊗ t0_of p B.df B.dfa B.dfa2)
      t0≈ =
          by_cases (off w 1) (λ u. main≈ tt tt u (t0_sized df_a dfa_a (square_sized dfa_a)) (t0_sized df_b dfa_b (square_sized dfa_b)))
          (λ u. cc (f107a≡ u, f107≡ u))

      t1≈ : plain (t1_of p g A.dfa (swc_at w 1)) ≡ plain (t1_of p g B.dfa (swc_at w 1))
      unfolding t1_of
      t1≈ =
          by_cases (off w 1)
          (λ u. plain_add _ _ (p ‼ 26 ⊗ at g 0 1) (p ‼ 26 ⊗ at g 0 1) (plain_add _ _ _ _ refl (cross≈ tt tt u (sized_mul (sized_mul (num 14 tt) q.g02) dfa_a) (sized_mul (sized_mul (num 14 tt) q.g02) dfa_b))) refl)
          (λ u. cc (f107a≡ u))

      -- local time's part of t[8]
      part≈ : T (ne (sw_at w 9) 0·0) → {x y z v : Float} → Sized 44 x → Sized 44 y → Sized 44 z → Sized 10 v
          → plain (local_time_part_of g x y z (swc_at w 7) (local_cos_of a.lst v)) ≡ plain (local_time_part_of g x y z (swc_at w 7) (local_cos_of l v))
      unfolding local_time_part_of
      part≈ n hx hy hz hv =
          let k = sized_add (sized_add (sized_mul hx q.g11) (sized_mul hy q.g13)) (sized_mul hz q.g15) in
          by_cases (lst_off w)
          (λ u. rw (off_is (above_zero (given w 7)) (seven n u)) (times_zero_times tt tt k (local_sized fit_a.lst hv) ∙ sym (times_zero_times tt tt k (local_sized fit_b.lst hv))))
          (λ u. cc (lst≡ u))

      t8≈ : (cd x y : Float) → plain (t8_of A p g cd x y) ≡ plain (t8_of B p g cd x y)
      unfolding t8_of history8_of daily8_of
      t8≈ cd x y =
          branch_plain (eq (sw_at w 9) (neg 1·0)) _ _ _ _
          (skip_plain (ne (p ‼ 51) 0·0) _ _ (λ _. skip_plain (ne (sw_at w 9) 0·0) _ _
          (λ n. activity_plain g y _ _ _ _ _ _ cd _ _ _ (part≈ n (num 128 tt) (num 129 tt) (num 130 tt) (history_phase t)))))
          (skip_plain (ne (sw_at w 9) 0·0) _ _
          (λ n. activity_plain g x _ _ _ _ _ _ cd _ _ _ (part≈ n (num 121 tt) (num 122 tt) (num 123 tt) (daily_phase t))))

      t10≡ : (cd : Float) → t10_of A p g cd ≡ t10_of B p g cd
      unfolding t10_of
      t10≡ cd = cc (factor≡ 80 tt)

      t11≡ : (cd : Float) → t11_of A p g cd ≡ t11_of B p g cd
      unfolding t11_of
      t11≡ cd = cc (factor≡ 81 tt, factor≡ 137 tt)

      t12≡ : (cd x y : Float) → t12_of A p g cd x y ≡ t12_of B p g cd x y
      unfolding t12_of history12_of daily12_of
      t12≡ cd x y = refl

      globe7_value≈ : (s : State) → plain (globe7_value A p g (carried_of s)) ≡ plain (globe7_value B p g (carried_of s))
      unfolding globe7_value globe7_given first_terms_of carried_of
      globe7_value≈ s =
          let c = (day_cosines_of A.doy p).cd14 in
          sum_plain (p ‼ 30) A.sw _ _ _ _ t0≈ (
            t1≈,
            (
              refl,
              (
                refl,
                (
                  cc f1≡,
                  (
                    refl,
                    (
                      cc f2≡,
                      (
                        cc f2≡,
                        (
                          t8≈ c s.apdf (s.apt ‼ 0),
                          (
                            refl,
                            (cc (t10≡ c), (cc (t11≡ c), (cc (t12≡ c s.apdf (s.apt ‼ 0)), (cc f2≡, tt)))),
                          ),
                        ),
                      ),
                    ),
                  ),
                ),
              ),
            ),
          )

    -- ---- glob7s, which alone reads dfa of State

    glob7s≈ : (t : Narrow) (s t' : State) → SameButDfa w s t' → plain (glob7s_of A (narrow t) s) ≡ plain (glob7s_of B (narrow t) t')
    glob7s≈ t s t' e =
        first t'.dfa (by_cases (off w 1)
        (λ u. main≈ tt tt u (sized_mul (narrow_sized t 21 (lit< tt)) e.dfa_s) (sized_mul (narrow_sized t 21 (lit< tt)) e.dfa_t))
        (λ u. cc (e.dfa u)))
        ∙ ap (λ (z : State). plain (glob7s_of B (narrow t) z)) (sym e.but)
      where
        first : (x : Float) → plain (abs_of (sw_at w 1) ⊗ (narrow t ‼ 21 ⊗ s.dfa)) ≡ plain (abs_of (sw_at w 1) ⊗ (narrow t ‼ 21 ⊗ x))
            → plain (glob7s_of A (narrow t) s) ≡ plain (glob7s_of B (narrow t) (with_dfa s x))
        first x k = unfold glob7s_of glob7s_from glob7s_from_given glob7s_given carried_of t8s_of t10s_given longitude_cosines_of in
            branch_plain (ne (cond (eq (narrow t ‼ 99) 0·0) 2·0 (narrow t ‼ 99)) 2·0) _ _ _ _ refl
            (sum_plain 0·0 A.sw _ _ _ _ k (refl, (refl, (refl, (refl, (refl, (refl, (refl, (refl, (refl, (refl, (refl, (refl, (refl, tt))))))))))))))

    after_same : (p : List Float) (s t : State) → SameButDfa w s t → SameButDfa w (state_after A p s) (state_after B p t)
    unfolding state_after
    after_same p s t e = record { but = ap (state_after B p) e.but ∙ after≡ p s t.dfa; dfa = λ u. cc (f107a≡ u); dfa_s = dfa_a; dfa_t = dfa_b }

    good : (p : List Float) (s : State) → Good (rows_of (state_after A p s).plg)
    unfolding state_after rows_of row0_of row1_of flat_of
    good p s = let q = latitude_good a.g_lat s.plg fit_a.glat in record { g02 = q.g02; g11 = q.g11; g13 = q.g13; g15 = q.g15 }

    pub globe7≈ : (t : Wide) (s t' : State) → SameButDfa w s t'
        → (plain (globe7_of A (wide t) s).value ≡ plain (globe7_of B (wide t) t').value) × SameButDfa w (globe7_of A (wide t) s).state (globe7_of B (wide t) t').state
    unfolding globe7_of
    globe7≈ t s t' e =
        let p = wide t in
        let e' = after_same p s t' e in (
          globe7_value≈ t (rows_of (state_after A p s).plg) (good p s) (state_after A p s) ∙ ap plain (other_dfa B p (state_after A p s) (state_after B p t').dfa)
              ∙ ap (λ (z : State). plain (globe7_value B p (rows_of z.plg) (carried_of z))) (sym e'.but),
          e',
        )

    -- ---- plans

    answer≡ : (q : Ask) (s t : State) → SameButDfa w s t → ((answer A q s).value ≡ (answer B q t).value) × SameButDfa w (answer A q s).state (answer B q t).state
    unfolding answer one_plus_globe7_of exp_globe7_of one_plus_glob7s_of one_minus_glob7s_of
    answer≡ (one_plus_globe7 x k) s t e = let r = globe7≈ k s t e in (one_plus _ _ (plain_times x _ _ r.0), r.1)
    answer≡ (exp_globe7 x k) s t e = let r = globe7≈ k s t e in (exp_plain _ _ (plain_times x _ _ r.0), r.1)
    answer≡ (one_plus_glob7s x k) s t e = (one_plus _ _ (plain_times x _ _ (glob7s≈ k s t e)), e)
    answer≡ (one_minus_glob7s x k) s t e = (one_minus _ _ (plain_times x _ _ (glob7s≈ k s t e)), e)

    pub run≡ : {X : Type 0} (m : Plan X) (s t : State) → SameButDfa w s t → ((run A m s).result ≡ (run B m t).result) × SameButDfa w (run A m s).left (run B m t).left
    unfolding run
    run≡ (done x) s t e = (refl, e)
    run≡ (ask q k) s t e =
        let r = answer≡ q s t e in
        subst (λ (v : Float). ((run A (k (answer A q s).value) (answer A q s).state).result ≡ (run B (k v) (answer B q t).state).result) × SameButDfa w (run A (k (answer A q s).value) (answer A q s).state).left (run B (k v) (answer B q t).state).left) r.0
        (run≡ (k (answer A q s).value) (answer A q s).state (answer B q t).state r.1)
    run≡ (keep u m) s t e = run≡ m _ _ (step_kept w u s t e)

    -- the factor of the flux in O and O2
    pub site≡ : (c : Parameters) → site_with c A.sw a.g_lat A.doy a.f107a ≡ site_with c A.sw a.g_lat A.doy fa
    unfolding site_with site_from
    site≡ c =
        let x : 1·0 ⊕ sw_at w 1 ⊗ pdl_t0 ‼ 23 ⊗ (a.f107a ⊖ 150·0) ≡ 1·0 ⊕ sw_at w 1 ⊗ pdl_t0 ‼ 23 ⊗ (fa ⊖ 150·0) = by_cases (off w 1)
        (λ u. one_plus _ _ (rw (main_is u) (zero_times_times tt tt flux_sized dfa_a ∙ sym (zero_times_times tt tt flux_sized dfa_b))))
        (λ u. cc (f107a≡ u)) in
        cc x
