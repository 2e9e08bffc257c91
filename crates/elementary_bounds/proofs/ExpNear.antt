-- exp lies within 2 ^ -44 of the power series through the 20th power, from -1 to 1. Assumes nothing.
use mathlib.Core.Path.{◌≡◌, refl, sym, ap, ◌∙◌, subst}
use mathlib.Core.Bool.{Bool, true, false, ◌&&◌}
use mathlib.Core.List.{List, [], ◌∷◌}
use Prim.Native.Nat.{ℕ, ◌+◌, ◌-◌, ◌*◌, ◌/◌, ◌%◌, ◌^◌, ◌≤◌, ◌<◌}
use native.Mathlib.Omega.{arith}
use native.Mathlib.Nat.{le_of_lt, mul_assoc, div-add-mod', mod-lt, lt_of_lt_of_le, zero-add}
use lib.Dec.{T, eqb, eqb→eq, lit≤}
use lib.Ieee.Fits.{and_l, and_r, down_pos}
use lib.ListN.{length}
use lib.Pow.{pow_pos, pow_mono, shl_lt}
use lib.IntN.{ℤ}
use lib.Ieee.{Float, fin, binary64, up, down, is_nan}
use lib.Ieee.Exact.{HasValue, round_exact}
use lib.Ieee.Scale.{round_same}
use Rattle.fixed_point.specs.Float.{Within, digit}
use Rattle.fixed_point.specs.Fixed.{scaled_of}
use Rattle.natural_exponential.specs.Exp.{kernel_of, assembled_of, inside_of, exp_of}
use Rattle.elementary_bounds.specs.Series.{ev, homogeneous, exp_adding, exp_taking, Near}
use Rattle.elementary_bounds.proofs.Nearness.{whole, Kernel, near_exact}
use Rattle.elementary_bounds.proofs.Series.{shift_is, back, fairs, back_is}
use Rattle.elementary_bounds.proofs.ExpSeries.{series, lower, lower_is}
use Rattle.elementary_bounds.proofs.Homogeneous.{rank}
use Rattle.elementary_bounds.proofs.ExpKernel.{kernel_close, kernel_lt}
use Rattle.fixed_point.proofs.Range.{within_scaled, not_over, not_under}
use Rattle.fixed_point.proofs.Bits.{within_over}
use Rattle.natural_exponential.proofs.Cases.{exp_inside}

-- ---- the series: at u / D with the sign s, what is added less what is taken off, over 20! * D ^ 20

abbrev added : Bool → ℕ → ℕ → ℕ
added s D u = ev (homogeneous D (exp_adding s)) u

abbrev taken : Bool → ℕ → ℕ → ℕ
taken s D u = ev (homogeneous D (exp_taking s)) u

-- where the kernel is asked
abbrev pub asked : Bool → ℕ → ℕ
asked false m = 2 ^ 58 + m
asked true m = 2 ^ 58 - m

-- ---- at the kernel's own argument

abbrev zeros : List ℕ → Bool
zeros [] = true
zeros (a ∷ p) = eqb a 0 && zeros p

zeros_are : (p : List ℕ) (u : ℕ) → T (zeros p) → ev p u ≡ 0
zeros_are [] u t = refl
zeros_are (a ∷ p) u t = step a u (ev p u) (eqb→eq a 0 (and_l (eqb a 0) (zeros p) t)) (zeros_are p u (and_r (eqb a 0) (zeros p) t))
  where
    step : (a u x : ℕ) → a ≡ 0 → x ≡ 0 → a + u * x ≡ 0
    step a u x d e = omega (arith, ap (λ (z : ℕ). u * z) e)

fair_test : T (fairs (2 ^ 58) series)
fair_test = tt

back_lower : back (2 ^ 58) series ≡ lower
back_lower = refl

meets : (m : ℕ) → m ≤ 2 ^ 58 → m + (2 ^ 58 - m) ≡ 2 ^ 58
meets m h = omega arith

series_is : (s : Bool) (m : ℕ) → m ≤ 2 ^ 58 → added s (2 ^ 58) m ≡ taken s (2 ^ 58) m + ev lower (asked s m)
series_is false m h =
    ap (λ (p : List ℕ). ev p m) (sym lower_is) ∙ shift_is (2 ^ 58) lower m
    ∙ sym (ap (λ (z : ℕ). z + ev lower (2 ^ 58 + m)) (zeros_are (homogeneous (2 ^ 58) (exp_taking false)) m tt) ∙ zero-add (ev lower (2 ^ 58 + m)))
series_is true m h = back_is (2 ^ 58) series m (2 ^ 58 - m) (meets m h) fair_test ∙ ap (λ (p : List ℕ). taken true (2 ^ 58) m + ev p (2 ^ 58 - m)) back_lower

-- ---- at the exact argument n / E

lengths_added : (s : Bool) → length (exp_adding s) ≡ 21
lengths_added false = refl
lengths_added true = refl

lengths_taken : (s : Bool) → length (exp_taking s) ≡ 21
lengths_taken false = refl
lengths_taken true = refl

ranks : (s : Bool) → (rank (exp_adding s) ≤ 3 * 2432902008176640000) × (rank (exp_taking s) ≤ 3 * 2432902008176640000)
ranks false = (lit≤ tt, lit≤ tt)
ranks true = (lit≤ tt, lit≤ tt)

asked_in : (s : Bool) (m : ℕ) → m ≤ 2 ^ 58 → asked s m ≤ 2 ^ 59
asked_in false m h = omega arith
asked_in true m h = omega arith

-- the kernel is near the series on both sides of 0
kernel_near : (s : Bool) (m : ℕ) → m ≤ 2 ^ 58 → Kernel (exp_adding s) (exp_taking s) (kernel_of (asked s m)) 1820 m
kernel_near s m g =
    let K = kernel_of (asked s m) in
    let k = kernel_close (asked s m) (asked_in s m g) in
    let i = series_is s m g in
    (whole_up (2 ^ 58) (added s (2 ^ 58) m) (taken s (2 ^ 58) m) (ev lower (asked s m)) ((K + 1820) * whole) i k.0, whole_low (2 ^ 58) (added s (2 ^ 58) m) (taken s (2 ^ 58) m) (ev lower (asked s m)) (K * whole) (1820 * whole) i k.1)
  where
    whole_up : (D a o x b : ℕ) → a ≡ o + x → D * x ≤ b → D * a ≤ D * o + b
    whole_up D a o x b e h = omega (arith, ap (λ (z : ℕ). D * z) e)

    whole_low : (D a o x b c : ℕ) → a ≡ o + x → b ≤ D * x + c → b + D * o ≤ D * a + c
    whole_low D a o x b c e h = omega (arith, ap (λ (z : ℕ). D * z) e)

pub near_series : (s : Bool) (m n E r : ℕ) → 0 < E → m * E + r ≡ n * 2 ^ 58 → r ≤ E → n ≤ E → m ≤ 2 ^ 58 → Near (exp_adding s) (exp_taking s) n E (kernel_of (asked s m) / 128)
near_series s m n E r p e l h g =
    near_exact (exp_adding s) (exp_taking s) (lengths_added s) (lengths_taken s) (ranks s).0 (ranks s).1 (kernel_of (asked s m)) 1820 m n E r (lit≤ {m = 1820} {n = 16000} tt) (kernel_near s m g) p e l h

-- ---- the float that exp returns there

pub assembled_value : (v : ℕ) → v < 2 ^ 60 → HasValue (assembled_of v 1087) false (v / 128) (2 ^ 51)
assembled_value v h =
    let q = v / 128 in
    let l : q < 2 ^ 53 = omega arith in
    subst (λ (x : Float). HasValue x false q (2 ^ 51))
    (sym (round_same binary64 false (q * 2 ^ 1087) (2 ^ 1138) q (2 ^ 51) (pow_pos 1138) (pow_pos 51) (mul_assoc q (2 ^ 1087) (2 ^ 51))))
    (round_exact binary64 false q (2 ^ 51) q 1023 (pow_pos 51) l (lt_of_lt_of_le (shl_lt 53 1023 l) (pow_mono {i = 1076} {j = 2098} (lit≤ {m = 1076} {n = 2098} tt))) (sym (mul_assoc q (2 ^ 1023) (2 ^ 51))))

-- ---- exp itself

-- the tests that lead to the kernel with no reduction
inside_is : (s : Bool) (m : ℕ) (e : ℤ) → Within (fin s m e) 1 → exp_of (fin s m e) ≡ inside_of (digit s) (scaled_of 58 (fin s m e))
unfolding is_nan
inside_is s m e h = exp_inside (fin s m e) refl (not_over s m e 1 h 709 0 (lit≤ {m = 1} {n = 709} tt)) (not_under s m e 1 h 745 0 (lit≤ {m = 1} {n = 745} tt)) (within_over 1 1 (fin s m e) (lit≤ {m = 1} {n = 1} tt) h)

side_is : (s : Bool) (m : ℕ) → inside_of (digit s) m ≡ assembled_of (kernel_of (asked s m)) 1087
side_is false m = refl
side_is true m = refl

-- For x of size at most 1, exp x is q / 2 ^ 51 for a q that is near the series at x
pub exp_near : (s : Bool) (m : ℕ) (e : ℤ) → Within (fin s m e) 1
    → (q : ℕ) × HasValue (exp_of (fin s m e)) false q (2 ^ 51) × Near (exp_adding s) (exp_taking s) (m * up e) (down e) q
exp_near s m e h =
    let n = m * up e in
    let E = down e in
    let M = scaled_of 58 (fin s m e) in
    let l : M ≤ 2 ^ 58 = within_scaled 58 1 (fin s m e) h in
    let t = asked s M in (
      kernel_of t / 128,
      subst (λ (y : Float). HasValue y false (kernel_of t / 128) (2 ^ 51)) (sym (inside_is s m e h ∙ side_is s M)) (assembled_value (kernel_of t) (kernel_lt t (asked_in s M l))),
      near_series s M n E (n * 2 ^ 58 % E) (down_pos e) (div-add-mod' (n * 2 ^ 58) E) (le_of_lt (mod-lt (n * 2 ^ 58) (down_pos e))) (one_times n E h) l,
    )
  where
    one_times : (p d : ℕ) → p ≤ 1 * d → p ≤ d
    one_times p d h = omega arith
