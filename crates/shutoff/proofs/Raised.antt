-- p[24] where globe7 raises it: two sets of coefficients that differ only there, at or below 1.0E-4 in both, give one value and one State.
use Rattle.std.specs.Prelude.{◌≡◌, List, Bool, true, false, not, ◌||◌, cond, ℕ, ◌*◌, ◌<◌, T, eqb, ltb, ℤ, length, Float}
use Rattle.std.proofs.Math.Path.{refl, sym}
use Rattle.std.proofs.Common.{◌∙◌, ap, ap₂, subst, true≢false, mul_assoc, mul_left_comm, mul-pos, eqb→eq, ltb→lt}
use Rattle.std.specs.Bool.{beq}
use Rattle.std.specs.Float.{nan, inf, fin, binary64}
use Rattle.std.specs.Float.Ieee.{up, down, unlike, round, mul, lt, eq, le}
use Rattle.std.specs.Float.Ieee.Fits.{and_l, down_pos}
use Rattle.std.specs.Float.Ieee.Scale.{round_same}
use Rattle.numbers.specs.Arithmetic.{◌⊗◌, ◌‼◌}
use Rattle.numbers.specs.Literals.{1·0E-4}
use Rattle.setting.specs.declared.Input.{Input}
use Rattle.setting.specs.declared.State.{State}
use Rattle.setting.specs.declared.View.{View}
use Rattle.setting.specs.declared.Left.{Left}
use Rattle.views.specs.View.{view_of}
use Rattle.setting.specs.ApHistory.{lacks_history_of}
use Rattle.terms.specs.Terms.{t0_of, f1_of, f2_of, t1_of, t3_of, t4_of, t5_of, diurnal_of, semidiurnal_of, terdiurnal_of, long_cos_of, long_sin_of, ut_mean_of, ut_long_of}
use Rattle.expansion_parts.specs.ExpansionParts.{day_cosines_of, t6_of, t7_of, t13_of, history8_of, daily8_of, t8_of, t10_of, t11_of, history12_of, daily12_of, t12_of}
use Rattle.activity.specs.Activity.{sg0_of, apt_next_of}
use Rattle.legendre.specs.Legendre.{rows_of}
use Rattle.expansion.specs.declared.Carried.{Carried}
use Rattle.expansion.specs.Expansion.{first_terms_of, carried_of, globe7_given, globe7_value, state_after, globe7_of}
use Rattle.expansion_calls.specs.declared.ExpansionRefusal.TheVariants.{Coefficients, NoHistory}
use Rattle.expansion_calls.specs.ExpansionCalls.{accepted_call, refused_call, globe7_call_of}
use Rattle.shutoff.specs.Raised.{OnlyIn24}

-- ---- the raised number

both_squared : (a b c d : ℕ) → a * d ≡ b * c → a * a * (d * d) ≡ b * b * (c * c)
both_squared a b c d e = simp mul_assoc (simp (mul_assoc, mul_left_comm) at (ap₂ (λ (x y : ℕ). x * y) e e))

no_sign : (s t : Bool) → unlike s s ≡ unlike t t
no_sign true true = refl
no_sign true false = refl
no_sign false true = refl
no_sign false false = refl

-- numbers that compare equal have one square
same_square : (x y : Float) → T (eq x y) → x ⊗ x ≡ y ⊗ y
unfolding eq mul
same_square nan y h = elim h [ ]
same_square (inf s) nan h = elim h [ ]
same_square (inf s) (fin t n d) h = elim h [ ]
same_square (fin s m e) nan h = elim h [ ]
same_square (fin s m e) (inf t) h = elim h [ ]
same_square (inf s) (inf t) h = ap inf (no_sign s t)
same_square (fin s m e) (fin t n d) h =
    let a = m * up e in
    let b = n * up d in
    ap (λ (u : Bool). round binary64 u (a * a) (down e * down e)) (no_sign s t)
    ∙ round_same binary64 (unlike t t) (a * a) (down e * down e) (b * b) (down d * down d) (mul-pos (down_pos e) (down_pos e)) (mul-pos (down_pos d) (down_pos d))
    (both_squared a b (down e) (down d) (eqb→eq (a * down d) (b * down e) (and_l (eqb (a * down d) (b * down e)) (beq s t || eqb (a * down d) 0) h)))

abbrev raised : Float → Float
raised x = cond (lt x 1·0E-4) 1·0E-4 x

by_square : (b c : Bool) (x y : Float) → T (b || c) → (T c → x ⊗ x ≡ y ⊗ y) → cond b y x ⊗ cond b y x ≡ y ⊗ y
by_square true c x y t h = refl
by_square false c x y t h = h t

-- g0 reads the square of the raised number alone: one for every p[24] at or below 1.0E-4
raised_square : (x : Float) → T (le x 1·0E-4) → raised x ⊗ raised x ≡ 1·0E-4 ⊗ 1·0E-4
unfolding le
raised_square x t = by_square (lt x 1·0E-4) (eq x 1·0E-4) x 1·0E-4 t (same_square x 1·0E-4)

-- ---- globe7

module _ (p q : List Float) (only : OnlyIn24 p q) where
  -- any other number of the two sets, by tests that compute
  other : (k : ℕ) → ltb k 150 ≡ true → eqb k 24 ≡ false → p ‼ k ≡ q ‼ k
  other k e f = only k (ltb→lt k 150 (subst T (sym e) tt)) (λ g. true≢false (sym (ap (λ (j : ℕ). eqb j 24) g) ∙ f))

  module _ (v : View) where
    level≡ : (g : List (List Float)) (c : Carried) → globe7_value v p g c ≡ globe7_value v q g c
    unfolding globe7_value globe7_given first_terms_of day_cosines_of t0_of f1_of f2_of t1_of t3_of t4_of t5_of t6_of t7_of t8_of t10_of t11_of t12_of t13_of history8_of daily8_of history12_of daily12_of diurnal_of semidiurnal_of terdiurnal_of long_cos_of long_sin_of ut_mean_of ut_long_of
    level≡ g c = simp other

    module _ (low : T (le (p ‼ 24) 1·0E-4)) (low' : T (le (q ‼ 24) 1·0E-4)) where
      after≡ : (s : State) → state_after v p s ≡ state_after v q s
      unfolding state_after apt_next_of sg0_of
      after≡ s =
          cc (
            other 43 refl refl,
            other 44 refl refl,
            other 51 refl refl,
            other 138 refl refl,
            other 25 refl refl,
            raised_square (p ‼ 24) low ∙ sym (raised_square (q ‼ 24) low'),
          )

-- ---- the theorems

-- For any View, any State and any two sets of 150 numbers that differ only in p[24], at or below 1.0E-4 in both, globe7 gives the same value
-- and the same State.
pub globe7_raised : (v : View) (p q : List Float) (s : State) → OnlyIn24 p q → T (le (p ‼ 24) 1·0E-4) → T (le (q ‼ 24) 1·0E-4) → globe7_of v p s ≡ globe7_of v q s
unfolding globe7_of
globe7_raised v p q s only low low' = cc (after≡ p q only v low low' s, level≡ p q only v (rows_of (state_after v p s).plg) (carried_of (state_after v p s)))

-- The same for the call with its refusals: one outcome for two sets of one length.
pub globe7_call_raised : (w : List ℤ) (n : Input) (p q : List Float) (s : State)
    → length p ≡ length q
    → OnlyIn24 p q
    → T (le (p ‼ 24) 1·0E-4)
    → T (le (q ‼ 24) 1·0E-4)
    → globe7_call_of w n p s ≡ globe7_call_of w n q s
unfolding globe7_call_of
globe7_call_raised w n p q s e only low low' =
    ap₂ (λ (m : ℕ) (a : Left Float). cond (not (eqb m 150)) (refused_call (Coefficients 150) s) (cond (lacks_history_of w n) (refused_call NoHistory s) (accepted_call a.value a.state)))
    e (globe7_raised (view_of w n) p q s only low low')
