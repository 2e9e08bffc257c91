-- The proof of demand 3 over plans for all fields but lst, f107a and f107: records that are alike and have these three in common give one
-- result, one lemma for each term that reads a field. It holds of any coefficients and any numbers.
use Rattle.std.specs.Prelude.{◌≡◌, Bool, true, false, not, ◌&&◌, ◌||◌, cond, ℕ, zero, suc, T, eqb, get_or, ℤ, pos, negsuc, Float}
use Rattle.std.proofs.Math.Path.{refl, ap, ap₂}
use Rattle.std.proofs.Common.{sym, ◌∙◌, lit<}
use mathlib.Core.List.{List}
use Rattle.std.proofs.Math.Dec.{eqb-suc-zero}
use Rattle.std.specs.Float.Ieee.Fits.{and_l}
use Rattle.std.proofs.Math.ListN.{set}
use Rattle.std.specs.Float.Ieee.{binary64, eq, ne, neg, of_int, lt, le, of_bits}
use Rattle.numbers.specs.Arithmetic.{◌⊗◌, ◌‼◌}
use Rattle.numbers.specs.Literals.{0·0, 1·0, 2·0, 3·0, 1·0E-4, 1000·0}
use Rattle.numbers.specs.Constants.{hr}
use Rattle.elementary.specs.Trig.{sin_of, cos_of}
use Rattle.setting.specs.declared.State.{State}
use Rattle.setting.specs.declared.Input.{Input}
use Rattle.setting.specs.declared.History.{History}
use Rattle.setting.specs.declared.History.TheVariants.{Absent, Present}
use Rattle.setting.specs.Switches.{given, on_off, sw_at}
use Rattle.setting.specs.ApHistory.{is_minus_one, absent_of}
use Rattle.tables.specs.Names.{wide, narrow}
use Rattle.legendre.specs.Legendre.{rows_of}
use Rattle.activity.specs.Activity.{apdf_next_of, apt_next_of, apdf_from_of, sg0_of, exp1_of}
use Rattle.expansion_parts.specs.ExpansionParts.{day_cosines_of, longitude_cosines_of, t8_of, history8_of, daily8_of, t10_of, t11_of, t12_of, history12_of, daily12_of, t8s_of, t10s_given, t10s_of}
use Rattle.expansion.specs.Expansion.{first_terms_of, carried_of, globe7_given, globe7_value, turns_after_of, state_after, globe7_of, glob7s_given, glob7s_from_given, glob7s_from, glob7s_of}
use Rattle.plan.specs.Fields.{Fields, fields_of, with_fields}
use Rattle.plan.specs.Plan.{Ask, one_plus_globe7, exp_globe7, one_plus_glob7s, one_minus_glob7s, one_plus_globe7_of, exp_globe7_of, one_plus_glob7s_of, one_minus_glob7s_of, Plan, done, ask, keep, answer, run}
use Rattle.shutoff.specs.Nine.{asks_minus_one}
use Rattle.shutoff.specs.Fields.{whole, float, in_history}
use Rattle.shutoff.specs.Shut.{one, is_zero, nine_is_zero, nine_is_minus_one, others, AlikeBut}
use Rattle.shutoff.specs.PlainView.{plain_view}

-- ---- a branch is only looked at where its test passes

pub branch : {A : Type 0} (c : Bool) {x y d e : A} → (T c → x ≡ y) → (T (not c) → d ≡ e) → cond c x d ≡ cond c y e
branch true h k = h tt
branch false h k = k tt

pub skip : (c : Bool) {x y : Float} → (T c → x ≡ y) → cond (not c) 0·0 x ≡ cond (not c) 0·0 y
skip true h = h tt
skip false h = refl

-- a test that itself reads a field, over a test of the row
either_way : {A : Type 0} (g : Bool) (z : A) → cond g z z ≡ z
either_way true z = refl
either_way false z = refl

pub placed : (c b g h : Bool) {x y : Float} → (T c → T b → g ≡ h) → (T c → T b → x ≡ y) → cond (not (c && g)) 0·0 (cond (not b) 0·0 x) ≡ cond (not (c && h)) 0·0 (cond (not b) 0·0 y)
placed false b g h p q = refl
placed true false g h p q = either_way (not g) 0·0 ∙ sym (either_way (not h) 0·0)
placed true true g h p q = ap₂ (λ (i : Bool) (v : Float). cond (not i) 0·0 v) (p tt tt) (q tt tt)

-- the same test as glob7s writes it
pub skipped : (c b g h : Bool) {x y : Float} → (T (not c) → T (not b) → g ≡ h) → (T (not c) → T (not b) → x ≡ y)
    → cond ((c || b) || g) 0·0 x ≡ cond ((c || b) || h) 0·0 y
skipped true b g h p q = refl
skipped false true g h p q = refl
skipped false false g h p q = ap₂ (λ (i : Bool) (v : Float). cond i 0·0 v) (p tt tt) (q tt tt)

pub asks_nine : (z : ℤ) → T (eq (of_int binary64 z) (neg 1·0)) → T (is_minus_one z)
unfolding of_bits
asks_nine z t = asks_minus_one z t

-- ---- the row's tests

pub eq→one : (b : Bool) → T (not (eq (on_off b) 0·0)) → T b
unfolding eq of_bits
eq→one true t = tt
eq→one false t = t

pub on→one : (b : Bool) → T (ne (on_off b) 0·0) → T b
unfolding ne of_bits
on→one true t = tt
on→one false t = t

not_zero : (n : ℕ) → T (not (eqb (suc n) 0))
not_zero n = rw eqb-suc-zero tt

pub zero_off : (z : ℤ) → T (ne (of_int binary64 z) 0·0) → T (not (is_zero z))
unfolding ne of_int of_bits
zero_off (pos zero) t = t
zero_off (pos (suc n)) t = not_zero n
zero_off (negsuc n) t = tt

minus_one_asks : (z : ℤ) → T (not (eq (of_int binary64 z) (neg 1·0))) → T (not (is_minus_one z))
unfolding eq of_int neg of_bits
minus_one_asks (pos n) t = tt
minus_one_asks (negsuc zero) t = t
minus_one_asks (negsuc (suc n)) t = not_zero n

-- ---- which fields are not shut off, from the tests under which they are read

sec_live : (x y z : Bool) → T x → T (y || z) → T (not (not x || (not y && not z)))
sec_live true true z t u = tt
sec_live true false true t u = tt
sec_live true false false t u = u
sec_live false y z t u = t

glong_live : (x y z v : Bool) → T x → T (y || z || v) → T (not (not x || (not y && not z && not v)))
glong_live true true z v t u = tt
glong_live true false true v t u = tt
glong_live true false false true t u = tt
glong_live true false false false t u = u
glong_live false y z v t u = t

ap_of_nine : (m n x y : Bool) → T (not m) → T (not n) → T (not (m || (n && (not x || not y))))
ap_of_nine false false x y t u = tt
ap_of_nine false true x y t u = absurd u
ap_of_nine true n x y t u = absurd t

ap_of_place : (m n x y : Bool) → T (not m) → T x → T y → T (not (m || (n && (not x || not y))))
ap_of_place false false x y t u v = tt
ap_of_place false true true true t u v = tt
ap_of_place false true true false t u v = v
ap_of_place false true false y t u v = u
ap_of_place true n x y t u v = absurd t

or_l : (x y : Bool) → T x → T (x || y)
or_l true y t = tt
or_l false y t = absurd t

or_r : (x y : Bool) → T y → T (x || y)
or_r true y t = tt
or_r false y t = t

pub not_not : (b : Bool) → T b → T (not (not b))
not_not true t = tt
not_not false t = t

pub float_is : {x y : Float} → float x ≡ float y → x ≡ y
float_is p = cc

pub whole_is : {x y : ℤ} → whole x ≡ whole y → x ≡ y
whole_is p = cc

pub twice : (b : Bool) → T (not (not b)) → T b
twice true t = tt
twice false t = t

abbrev pub on : List ℤ → ℕ → Bool
on w i = ne (sw_at w i) 0·0

abbrev pub asks : List ℤ → Bool
asks w = eq (sw_at w 9) (neg 1·0)

-- the record has its history where the row asks for it
abbrev pub Has : List ℤ → Input → Type 0
Has w a = T (asks w) → T (not (absent_of a.history))

-- what State must share: apdf only where ap counts
pub record SameState (w : List ℤ) (s t : State) : Type 0 where
  pub dfa : s.dfa ≡ t.dfa
  pub plg : s.plg ≡ t.plg
  pub ct : s.ctloc ≡ t.ctloc
  pub st : s.stloc ≡ t.stloc
  pub c2t : s.c2tloc ≡ t.c2tloc
  pub s2t : s.s2tloc ≡ t.s2tloc
  pub c3t : s.c3tloc ≡ t.c3tloc
  pub s3t : s.s3tloc ≡ t.s3tloc
  pub apdf : T (not (get_or (others w) 9 true)) → s.apdf ≡ t.apdf
  pub apt : s.apt ≡ t.apt

-- a State shares all with itself
pub state_itself : (w : List ℤ) (s : State) → SameState w s s
state_itself w s = record { dfa = refl; plg = refl; ct = refl; st = refl; c2t = refl; s2t = refl; c3t = refl; s3t = refl; apdf = λ _. refl; apt = refl }

-- whatever a step sets: no expansion reads it
pub kept_same : (w : List ℤ) (s t : State) (f g : Fields) → SameState w s t → SameState w (with_fields s f) (with_fields t g)
kept_same w s t f g e =
    record { dfa = e.dfa; plg = e.plg; ct = e.ct; st = e.st; c2t = e.c2t; s2t = e.s2t; c3t = e.c3t; s3t = e.s3t; apdf = e.apdf; apt = e.apt }

-- sg0 reads the values 1 to 6 of the array
pub six : (ex p24 p25 : Float) (l m : List Float) → l ‼ 1 ≡ m ‼ 1 → l ‼ 2 ≡ m ‼ 2 → l ‼ 3 ≡ m ‼ 3 → l ‼ 4 ≡ m ‼ 4 → l ‼ 5 ≡ m ‼ 5 → l ‼ 6 ≡ m ‼ 6 → sg0_of ex p24 p25 l ≡ sg0_of ex p24 p25 m
unfolding sg0_of
six ex p24 p25 l m e1 e2 e3 e4 e5 e6 = rw (e1, e2, e3, e4, e5, e6)

module _ (w : List ℤ) (a b : Input) (like : AlikeBut (others w) a b) where
  pub doy≡ : a.doy ≡ b.doy
  doy≡ = whole_is (like 1 (lit< tt) tt)

  pub alt≡ : a.alt ≡ b.alt
  alt≡ = float_is (like 3 (lit< tt) tt)

  pub glat≡ : a.g_lat ≡ b.g_lat
  glat≡ = float_is (like 4 (lit< tt) tt)

  pub f107a≡ : a.f107a ≡ b.f107a
  f107a≡ = float_is (like 7 (lit< tt) tt)

  f107≡ : a.f107 ≡ b.f107
  f107≡ = float_is (like 8 (lit< tt) tt)

  sec≡ : T (one w 10) → T (one w 12 || one w 13) → a.sec ≡ b.sec
  sec≡ t u = float_is (like 2 (lit< tt) (sec_live (one w 10) (one w 12) (one w 13) t u))

  glong≡ : T (one w 10) → T (one w 11 || one w 12 || one w 13) → a.g_long ≡ b.g_long
  glong≡ t u = float_is (like 5 (lit< tt) (glong_live (one w 10) (one w 11) (one w 12) (one w 13) t u))

  lst≡ : a.lst ≡ b.lst
  lst≡ = float_is (like 6 (lit< tt) tt)

  ap≡ : T (not (get_or (others w) 9 true)) → a.ap ≡ b.ap
  ap≡ t = float_is (like 9 (lit< tt) t)

  ap_9 : T (not (asks w)) → T (on w 9) → T (not (get_or (others w) 9 true))
  ap_9 u v = ap_of_nine (nine_is_minus_one w) (nine_is_zero w) (one w 10) (one w 13) (minus_one_asks (given w 9) u) (zero_off (given w 9) v)

  ap_13 : T (not (asks w)) → T (on w 10) → T (on w 13) → T (not (get_or (others w) 9 true))
  ap_13 u v x = ap_of_place (nine_is_minus_one w) (nine_is_zero w) (one w 10) (one w 13) (minus_one_asks (given w 9) u) (on→one (one w 10) v) (on→one (one w 13) x)

  glong_11 : T (on w 10) → T (on w 11) → a.g_long ≡ b.g_long
  glong_11 u v = glong≡ (on→one (one w 10) u) (or_l (one w 11 || one w 12) (one w 13) (or_l (one w 11) (one w 12) (on→one (one w 11) v)))

  glong_s : T (not (eq (sw_at w 10) 0·0)) → T (not (eq (sw_at w 11) 0·0)) → a.g_long ≡ b.g_long
  glong_s u v = glong≡ (eq→one (one w 10) u) (or_l (one w 11 || one w 12) (one w 13) (or_l (one w 11) (one w 12) (eq→one (one w 11) v)))

  glong_12 : T (on w 10) → T (on w 12) → a.g_long ≡ b.g_long
  glong_12 u v = glong≡ (on→one (one w 10) u) (or_l (one w 11 || one w 12) (one w 13) (or_r (one w 11) (one w 12) (on→one (one w 12) v)))

  glong_13 : T (on w 10) → T (on w 13) → a.g_long ≡ b.g_long
  glong_13 u v = glong≡ (on→one (one w 10) u) (or_r (one w 11 || one w 12) (one w 13) (on→one (one w 13) v))

  sec_12 : T (on w 10) → T (on w 12) → a.sec ≡ b.sec
  sec_12 u v = sec≡ (on→one (one w 10) u) (or_l (one w 12) (one w 13) (on→one (one w 12) v))

  sec_13 : T (on w 10) → T (on w 13) → a.sec ≡ b.sec
  sec_13 u v = sec≡ (on→one (one w 10) u) (or_r (one w 12) (one w 13) (on→one (one w 13) v))

  module _ (p : List Float) (s t : State) (e : SameState w s t) where
    t8≡ : (g : List (List Float)) (cd : Float) → t8_of (plain_view w a) p g cd s.apdf (s.apt ‼ 0) ≡ t8_of (plain_view w b) p g cd t.apdf (t.apt ‼ 0)
    unfolding t8_of history8_of daily8_of
    t8≡ g cd =
        branch (asks w)
        (λ u. skip (ne (p ‼ 51) 0·0) (λ _. skip (on w 9) (λ v. cc (e.apt, lst≡))))
        (λ u. skip (on w 9) (λ v. cc (e.apdf (ap_9 u v), lst≡)))

    t10≡ : (g : List (List Float)) (cd : Float) → t10_of (plain_view w a) p g cd ≡ t10_of (plain_view w b) p g cd
    unfolding t10_of
    t10≡ g cd =
        placed (on w 10) (on w 11) (lt (neg 1000·0) a.g_long) (lt (neg 1000·0) b.g_long)
        (λ u v. cc (glong_11 u v)) (λ u v. cc (glong_11 u v, f107a≡))

    t11≡ : (g : List (List Float)) (cd : Float) → t11_of (plain_view w a) p g cd ≡ t11_of (plain_view w b) p g cd
    unfolding t11_of
    t11≡ g cd =
        placed (on w 10) (on w 12) (lt (neg 1000·0) a.g_long) (lt (neg 1000·0) b.g_long)
        (λ u v. cc (glong_12 u v)) (λ u v. cc (glong_12 u v, sec_12 u v, f107a≡))

    t12≡ : (g : List (List Float)) (cd : Float) → t12_of (plain_view w a) p g cd s.apdf (s.apt ‼ 0) ≡ t12_of (plain_view w b) p g cd t.apdf (t.apt ‼ 0)
    unfolding t12_of history12_of daily12_of
    t12≡ g cd =
        placed (on w 10) (on w 13) (lt (neg 1000·0) a.g_long) (lt (neg 1000·0) b.g_long)
        (λ u v. cc (glong_13 u v))
        (λ u v. branch (asks w)
        (λ _. skip (ne (p ‼ 51) 0·0) (λ _. cc (e.apt, glong_13 u v, sec_13 u v)))
        (λ x. cc (e.apdf (ap_13 x u v), glong_13 u v, sec_13 u v)))

    pub globe7_value≡ : globe7_value (plain_view w a) p (rows_of s.plg) (carried_of s) ≡ globe7_value (plain_view w b) p (rows_of t.plg) (carried_of t)
    unfolding globe7_value globe7_given first_terms_of carried_of
    globe7_value≡ =
        let g = rows_of s.plg in
        let c = (day_cosines_of (of_int binary64 a.doy) p).cd14 in
        cc (doy≡, f107≡, f107a≡, e.plg, e.ct, e.st, e.c2t, e.s2t, e.c3t, e.s3t, t8≡ g c, t10≡ g c, t11≡ g c, t12≡ g c)

    t8s≡ : (g : List (List Float)) → t8s_of (plain_view w a) p g s.apdf (s.apt ‼ 0) ≡ t8s_of (plain_view w b) p g t.apdf (t.apt ‼ 0)
    unfolding t8s_of
    t8s≡ g = skip (on w 9) (λ v. branch (asks w) (λ _. cc e.apt) (λ u. branch (eq (sw_at w 9) 1·0) (λ _. cc (e.apdf (ap_9 u v))) (λ _. refl)))

    t10s≡ : (g : List (List Float)) → t10s_of (plain_view w a) p g ≡ t10s_of (plain_view w b) p g
    unfolding t10s_of t10s_given longitude_cosines_of
    t10s≡ g =
        skipped (eq (sw_at w 10) 0·0) (eq (sw_at w 11) 0·0) (le a.g_long (neg 1000·0)) (le b.g_long (neg 1000·0))
        (λ u v. cc (glong_s u v)) (λ u v. cc (glong_s u v, doy≡))

    pub glob7s≡ : glob7s_of (plain_view w a) p s ≡ glob7s_of (plain_view w b) p t
    unfolding glob7s_of glob7s_from glob7s_from_given glob7s_given t10s_of carried_of
    glob7s≡ =
        let g = rows_of s.plg in
        cc (doy≡, e.dfa, e.plg, e.ct, e.st, e.c2t, e.s2t, e.c3t, e.s3t, t8s≡ g, t10s≡ g)

  pub hist : (h k : History) (l m : List Float) (i : ℕ) → T (not (absent_of h)) → in_history h l i ≡ in_history k m i → l ‼ i ≡ m ‼ i
  hist Absent k l m i t e = absurd t
  hist Present Absent l m i t e = cc
  hist Present Present l m i t e = float_is e

  -- the array's values 1 to 6, where the row asks for them
  array≡ : T (asks w) → T (not (absent_of a.history)) → (ex p24 p25 : Float) → sg0_of ex p24 p25 a.ap_array ≡ sg0_of ex p24 p25 b.ap_array
  array≡ t n ex p24 p25 =
      let m = not_not (nine_is_minus_one w) (asks_nine (given w 9) t) in
      let h : (i : ℕ) → in_history a.history a.ap_array i ≡ in_history b.history b.ap_array i → a.ap_array ‼ i ≡ b.ap_array ‼ i = λ i f. hist a.history b.history a.ap_array b.ap_array i n f in
      six ex p24 p25 a.ap_array b.ap_array
      (h 1 (like 11 (lit< tt) m)) (h 2 (like 12 (lit< tt) m)) (h 3 (like 13 (lit< tt) m)) (h 4 (like 14 (lit< tt) m)) (h 5 (like 15 (lit< tt) m)) (h 6 (like 16 (lit< tt) m))

  turn : (f : Float → Float) (x y : Float) → x ≡ y
      → cond (not ((eq (sw_at w 7) 0·0 && eq (sw_at w 8) 0·0) && eq (sw_at w 14) 0·0)) (f a.lst) x ≡ cond (not ((eq (sw_at w 7) 0·0 && eq (sw_at w 8) 0·0) && eq (sw_at w 14) 0·0)) (f b.lst) y
  turn f x y q = branch (not ((eq (sw_at w 7) 0·0 && eq (sw_at w 8) 0·0) && eq (sw_at w 14) 0·0)) (λ _. ap f lst≡) (λ _. q)

  module _ (has : Has w a) where
    pub after_same : (p : List Float) (s t : State) → SameState w s t → SameState w (state_after (plain_view w a) p s) (state_after (plain_view w b) p t)
    unfolding state_after turns_after_of apdf_next_of apt_next_of
    after_same p s t e =
        record {
          dfa = cc f107a≡;
          plg = cc (glat≡, e.plg);
          ct = turn (λ x. cos_of (hr ⊗ x)) s.ctloc t.ctloc e.ct;
          st = turn (λ x. sin_of (hr ⊗ x)) s.stloc t.stloc e.st;
          c2t = turn (λ x. cos_of (2·0 ⊗ hr ⊗ x)) s.c2tloc t.c2tloc e.c2t;
          s2t = turn (λ x. sin_of (2·0 ⊗ hr ⊗ x)) s.s2tloc t.s2tloc e.s2t;
          c3t = turn (λ x. cos_of (3·0 ⊗ hr ⊗ x)) s.c3tloc t.c3tloc e.c3t;
          s3t = turn (λ x. sin_of (3·0 ⊗ hr ⊗ x)) s.s3tloc t.s3tloc e.s3t;
          apdf = λ u. branch (asks w) (λ _. e.apdf u) (λ _. ap (apdf_from_of (p ‼ 43) (p ‼ 44)) (ap≡ u));
          apt = ap₂ (λ (l : List Float) (x : Float). set l 0 x) e.apt
              (branch (not (asks w && ne (p ‼ 51) 0·0)) (λ _. cc e.apt)
              (λ u. let v = and_l (asks w) (ne (p ‼ 51) 0·0) (twice (asks w && ne (p ‼ 51) 0·0) u) in
              cc (glat≡, array≡ v (has v) (exp1_of (p ‼ 51) (p ‼ 138) b.g_lat) (cond (lt (p ‼ 24) 1·0E-4) 1·0E-4 (p ‼ 24)) (p ‼ 25))));
        }

    pub answer≡ : (q : Ask) (s t : State) → SameState w s t → ((answer (plain_view w a) q s).value ≡ (answer (plain_view w b) q t).value) × SameState w (answer (plain_view w a) q s).state (answer (plain_view w b) q t).state
    unfolding answer globe7_of one_plus_globe7_of exp_globe7_of one_plus_glob7s_of one_minus_glob7s_of
    answer≡ (one_plus_globe7 f k) s t e =
        let p = wide k in
        let e' = after_same p s t e in
        (cc (globe7_value≡ p (state_after (plain_view w a) p s) (state_after (plain_view w b) p t) e'), e')
    answer≡ (exp_globe7 f k) s t e =
        let p = wide k in
        let e' = after_same p s t e in
        (cc (globe7_value≡ p (state_after (plain_view w a) p s) (state_after (plain_view w b) p t) e'), e')
    answer≡ (one_plus_glob7s f k) s t e = (cc (glob7s≡ (narrow k) s t e), e)
    answer≡ (one_minus_glob7s f k) s t e = (cc (glob7s≡ (narrow k) s t e), e)

    pub run≡ : {A : Type 0} (m : Plan A) (s t : State) → SameState w s t → (run (plain_view w a) m s).result ≡ (run (plain_view w b) m t).result
    unfolding run
    run≡ (done x) s t e = refl
    run≡ (ask q k) s t e =
        let h = answer≡ q s t e in
        ap (λ (v : Float). (run (plain_view w a) (k v) (answer (plain_view w a) q s).state).result) h.0
        ∙ run≡ (k (answer (plain_view w b) q t).value) (answer (plain_view w a) q s).state (answer (plain_view w b) q t).state h.1
    run≡ (keep u m) s t e = run≡ m _ _ (kept_same w s t (u (fields_of s)) (u (fields_of t)) e)
