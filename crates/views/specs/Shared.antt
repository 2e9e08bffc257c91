-- What a View knows of itself: that its cosines of the phase 0 are these, and that all main effects but entry 9 are their own size.
use Rattle.std.specs.Prelude.{◌≡◌, refl, List, ℤ, ℕ, Bool, true, false, Float}
use Rattle.std.proofs.Common.{sym, subst}
use Rattle.std.specs.Float.Ieee.{lt, eq, of_bits}
use Rattle.numbers.specs.Arithmetic.{◌‼◌}
use Rattle.numbers.specs.Literals.{0·0}
use Rattle.numbers.specs.Tests.{abs_of}
use Rattle.setting.specs.declared.Input.{Input}
use Rattle.setting.specs.declared.View.{View}
use Rattle.views.specs.Phases.{annual_cos_of, semiannual_cos_of, local_cos_of, ut_cos_of, ut_long_cos_of, long_phase_cos_of}
use Rattle.setting.specs.Switches.{given, is_one, on_off, filled, sw_of}
use Rattle.views.specs.View.{plain_of, view_of}

-- the main effects that weigh the terms, entry 9 apart
abbrev pub OwnSize : List Float → Type 0
OwnSize sw =
    (abs_of (sw ‼ 1) ≡ sw ‼ 1) × (abs_of (sw ‼ 2) ≡ sw ‼ 2) × (abs_of (sw ‼ 3) ≡ sw ‼ 3) × (abs_of (sw ‼ 4) ≡ sw ‼ 4) ×
    (abs_of (sw ‼ 5) ≡ sw ‼ 5) × (abs_of (sw ‼ 6) ≡ sw ‼ 6) × (abs_of (sw ‼ 7) ≡ sw ‼ 7) × (abs_of (sw ‼ 8) ≡ sw ‼ 8) ×
    (abs_of (sw ‼ 10) ≡ sw ‼ 10) × (abs_of (sw ‼ 11) ≡ sw ‼ 11) × (abs_of (sw ‼ 12) ≡ sw ‼ 12) × (abs_of (sw ‼ 13) ≡ sw ‼ 13) ×
    (abs_of (sw ‼ 14) ≡ sw ‼ 14)

pub record Shared (v : View) : Type 0 where
  pub year : v.cos_year ≡ annual_cos_of v.doy 0·0
  pub half_year : v.cos_half_year ≡ semiannual_cos_of v.doy 0·0
  pub local : v.cos_local ≡ local_cos_of v.lst 0·0
  pub ut : v.cos_ut ≡ ut_cos_of v.sec 0·0
  pub ut_long : v.cos_ut_long ≡ ut_long_cos_of v.sec 0·0 v.g_long
  pub long : v.cos_long ≡ long_phase_cos_of v.g_long 0·0
  pub weights : OwnSize v.sw

-- 0 and 1 are their own size
size : (b : Bool) → abs_of (on_off b) ≡ on_off b
unfolding abs_of lt eq of_bits
size true = refl
size false = refl

weights_of : (w : List ℤ) → OwnSize (sw_of w)
unfolding sw_of filled
weights_of w =
    let s : (i : ℕ) → abs_of (on_off (is_one (given w i))) ≡ on_off (is_one (given w i)) = λ i. size (is_one (given w i)) in
    (s 1, s 2, s 3, s 4, s 5, s 6, s 7, s 8, s 10, s 11, s 12, s 13, s 14)

pub view_shared : (w : List ℤ) (n : Input) → Shared (view_of w n)
unfolding view_of plain_of
view_shared w n = record { year = refl; half_year = refl; local = refl; ut = refl; ut_long = refl; long = refl; weights = weights_of w }

-- the View of a call
pub shared : (w : List ℤ) (n : Input) (v : View) → v ≡ view_of w n → Shared v
shared w n v e = subst Shared (sym e) (view_shared w n)
