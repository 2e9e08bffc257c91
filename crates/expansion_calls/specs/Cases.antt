-- S7 of document 01, for every row, record, State and coefficients with p[99] = 1.
use Rattle.std.specs.Prelude.{ℕ, ◌<◌, ◌≤◌, ◌≡◌, refl, Bool, true, false, cond, List, T, ltb, ℤ, length, Float}
use Rattle.std.proofs.Common.{arith, ap, ltb→lt}
use Rattle.std.specs.Float.Ieee.{eq, ne, neg, of_bits}
use Rattle.numbers.specs.Arithmetic.{◌‼◌}
use Rattle.numbers.specs.Literals.{0·0, 1·0, 2·0}
use Rattle.setting.specs.declared.State.{State}
use Rattle.setting.specs.declared.View.{View}
use Rattle.setting.specs.declared.Input.{Input}
use Rattle.views.specs.View.{view_of}
use Rattle.legendre.specs.Legendre.{rows_of}
use Rattle.expansion_parts.specs.ExpansionParts.{day_cosines_of, longitude_cosines_of}
use Rattle.expansion.specs.Expansion.{carried_of, glob7s_given, glob7s_from_given, glob7s_from, glob7s_of}
use Rattle.expansion_calls.specs.ExpansionCalls.{accepted_call, glob7s_call_of}

-- what glob7s asks of p[99]
at_99 : (x y : Float) → x ≡ 1·0 → cond (ne (cond (eq x 0·0) 2·0 x) 2·0) (neg 1·0) y ≡ neg 1·0
unfolding of_bits eq ne
at_99 x y e = ap (λ (z : Float). cond (ne (cond (eq z 0·0) 2·0 z) 2·0) (neg 1·0) y) e

minus_one_lem : (v : View) (p : List Float) (s : State) → p ‼ 99 ≡ 1·0 → glob7s_of v p s ≡ neg 1·0
unfolding glob7s_of glob7s_from glob7s_from_given
minus_one_lem v p s e = at_99 (p ‼ 99) (glob7s_given v p (rows_of s.plg) (carried_of s) (day_cosines_of v.doy p) (longitude_cosines_of v.doy p)) e

not_below : (m n : ℕ) → n ≤ m → ltb m n ≡ false
not_below m n h = go (ltb m n) (ltb→lt m n)
  where
    go : (b : Bool) → (T b → m < n) → b ≡ false
    go true k = absurd (let x = k tt in omega arith)
    go false k = refl

-- S7: 100 to 150 coefficients with p[99] = 1 are accepted and give -1.0; the State stays
pub s7 : (w : List ℤ) (n : Input) (p : List Float) (s : State)
    → 100 ≤ length p → length p ≤ 150 → p ‼ 99 ≡ 1·0
    → glob7s_call_of w n p s ≡ accepted_call (neg 1·0) s
unfolding glob7s_call_of
s7 w n p s lo hi e = rw (not_below (length p) 100 lo, not_below 150 (length p) hi, minus_one_lem (view_of w n) p s e) refl
