-- log lies within 2 ^ -44 of its series through the 39th power: from 1 to 2, and from 1 / 2 to 1. Assumes nothing.
use mathlib.Core.Path.{◌≡◌, sym, ap, ◌∙◌, subst}
use mathlib.Core.List.{[], ◌∷◌}
use Prim.Native.Nat.{ℕ, suc, ◌+◌, ◌-◌, ◌*◌, ◌/◌, ◌^◌, ◌≤◌, ◌<◌}
use native.Mathlib.Omega.{arith}
use native.Mathlib.Nat.{le_of_mul-le-mul_left, mul-le-mul_left, zero-add}
use lib.Dec.{T, leb→le}
use lib.ListN.{get_or}
use Rattle.elementary_bounds.specs.Series.{ev, homogeneous, log_series, NearLog}
use Rattle.logarithm_tables.specs.Tables.{reciprocals, logarithms}
use Rattle.natural_logarithm.specs.Log.{log1m_of, short_of, log_within}
use Rattle.elementary_bounds.proofs.Series.{shift, shift_is, times_is, plus_is, dilate, dilate_is, ev_mono}
use Rattle.natural_logarithm.proofs.LogBound.{reciprocals_inside, short_le, log1m_le}
use Rattle.elementary_bounds.proofs.LogSeries.{Balanced, upper, lower_adding, lower_taking, single, moved_is, log1ms, units, log1m_at, entry_at, turn_at, allowance, upper_fits_lem, lower_fits_lem}
use Rattle.elementary_bounds.proofs.LogKernel.{log1m_close}
use Rattle.elementary_bounds.proofs.LogSum.{upper_is, lower_is}

-- ---- from the pieces to the digits. M is 420 * 2 ^ 434, P is 2 ^ 58, c is 166966608033225, b is (y + 1) ^ 39, S, A and O the series' parts, E the exact -log (1 - z) and k the code's

upper_up : (P M c b S T k E v al : ℕ) → M * P * S + b * (P * c * E) ≤ M * P * 0 + b * (M * c * T + v * 0) + al → al ≤ 16 * (M * c) * b → M * k ≤ P * E + 39 * M → M * (P * S + c * b * k) ≤ M * (c * b * (T + 55))
upper_up P M c b S T k E v al a h g = omega (arith, mul-le-mul_left (b * c) g)

upper_low : (P M c b S T k E v al : ℕ) → M * P * 0 + b * (M * c * T + v * 0) ≤ M * P * S + b * (P * c * E) + al → al ≤ 16 * (M * c) * b → P * E ≤ M * (k + 9140) → M * (c * b * T) ≤ M * (P * S + c * b * (k + 9156))
upper_low P M c b S T k E v al a h g = omega (arith, mul-le-mul_left (b * c) g)

lower_up : (P M c b A O T l k E v al : ℕ) → M * P * A + b * (M * c * T + v * 0) ≤ M * P * O + b * (M * c * l + v * 0 + P * c * E) + al → al ≤ 16 * (M * c) * b → P * E ≤ M * (k + 9140) → M * (P * A + c * b * T) ≤ M * (P * O + c * b * (l + k + 9156))
lower_up P M c b A O T l k E v al a h g = omega (arith, mul-le-mul_left (b * c) g)

lower_low : (P M c b A O T l k E v al : ℕ) → M * P * O + b * (M * c * l + v * 0 + P * c * E) ≤ M * P * A + b * (M * c * T + v * 0) + al → al ≤ 16 * (M * c) * b → M * k ≤ P * E + 39 * M → M * (P * O + c * b * (l + k)) ≤ M * (P * A + c * b * (T + 55))
lower_low P M c b A O T l k E v al a h g = omega (arith, mul-le-mul_left (b * c) g)

-- cut to units of 2 ^ -53
cut_in : (T k : ℕ) → k ≤ 2 ^ 57 → (32 * ((T + 2 ^ 58 - k) / 32) + k ≤ T + 2 ^ 58) × (T + 2 ^ 58 ≤ 32 * ((T + 2 ^ 58 - k) / 32) + 32 + k)
cut_in T k h = (omega arith, omega arith)

upper_cut : (C S T k w : ℕ) → 32 * w + k ≤ T + 2 ^ 58 → T + 2 ^ 58 ≤ 32 * w + 32 + k → 2 ^ 58 * S + C * k ≤ C * (T + 55) → C * T ≤ 2 ^ 58 * S + C * (k + 9156)
    → (2 ^ 53 * S + 2 ^ 53 * C ≤ (w + 512) * C) × (w * C ≤ 2 ^ 53 * S + (2 ^ 53 + 512) * C)
upper_cut C S T k w a b f g = (omega (arith, mul-le-mul_left C b), omega (arith, mul-le-mul_left C a))

lower_cut : (C A O T l k w : ℕ) → 32 * w + k ≤ T + 2 ^ 58 → T + 2 ^ 58 ≤ 32 * w + 32 + k → 2 ^ 58 * A + C * T ≤ 2 ^ 58 * O + C * (32 * l + k + 9156) → 2 ^ 58 * O + C * (32 * l + k) ≤ 2 ^ 58 * A + C * (T + 55)
    → (2 ^ 53 * A + w * C ≤ 2 ^ 53 * O + (l + 2 ^ 53 + 512) * C) × (2 ^ 53 * O + (l + 2 ^ 53) * C ≤ 2 ^ 53 * A + (w + 512) * C)
lower_cut C A O T l k w a b f g = (omega (arith, mul-le-mul_left C a), omega (arith, mul-le-mul_left C b))

module _ (t : ℕ) (h : t < 2 ^ 52) where
  abbrev i : ℕ
  i = t / 2 ^ 45

  abbrev v : ℕ
  v = suc i * 2 ^ 45 - t

  abbrev r : ℕ
  r = get_or reciprocals i 0

  abbrev entry : ℕ
  entry = get_or logarithms i 0

  abbrev Z : ℕ
  Z = 2 ^ 62 - (t + 2 ^ 52) * r

  abbrev k : ℕ
  k = log1m_of (short_of t r)

  i_lt : i < 128
  i_lt = omega arith

  v_is : t + v ≡ suc i * 2 ^ 45
  v_is = meets t
    where
      meets : (t : ℕ) → t + (suc (t / 2 ^ 45) * 2 ^ 45 - t) ≡ suc (t / 2 ^ 45) * 2 ^ 45
      meets t = omega arith

  v_le : v ≤ 2 ^ 45
  v_le = short t
    where
      short : (t : ℕ) → suc (t / 2 ^ 45) * 2 ^ 45 - t ≤ 2 ^ 45
      short t = omega arith

  log1m_at_lem : ev (log1m_at i) v ≡ 2 ^ 58 * 166966608033225 * ev log1ms Z
  log1m_at_lem =
      times_is (2 ^ 58 * 166966608033225) (dilate r 1 (shift (2 ^ 62 - (suc i * 2 ^ 45 + 2 ^ 52) * r) log1ms)) v
      ∙ ap (λ (z : ℕ). 2 ^ 58 * 166966608033225 * z) (dilate_is r 1 (shift (2 ^ 62 - (suc i * 2 ^ 45 + 2 ^ 52) * r) log1ms) v ∙ once (ev (shift (2 ^ 62 - (suc i * 2 ^ 45 + 2 ^ 52) * r) log1ms) (v * r)) ∙ shift_is (2 ^ 62 - (suc i * 2 ^ 45 + 2 ^ 52) * r) log1ms (v * r) ∙ ap (ev log1ms) (back (suc i * 2 ^ 45) t v r v_is (ends (suc i * 2 ^ 45) r (reciprocals_inside i i_lt).0)))
    where
      once : (n : ℕ) → 1 * n ≡ n
      once n = omega arith

      ends : (top r : ℕ) → (2 ^ 52 + top) * r ≤ 2 ^ 62 → (top + 2 ^ 52) * r ≤ 2 ^ 62
      ends top r h = omega arith

      back : (top t v r : ℕ) → t + v ≡ top → (top + 2 ^ 52) * r ≤ 2 ^ 62 → 2 ^ 62 - (top + 2 ^ 52) * r + v * r ≡ 2 ^ 62 - (t + 2 ^ 52) * r
      back top t v r e h = omega (arith, ap (λ (z : ℕ). z * r) e)

  allowed : (c : ℕ) → allowance c i ≤ 16 * units * ev (shift c (single 39)) t
  allowed c = mul-le-mul_left (16 * units) (subst (λ (z : ℕ). ev (single 39) (c + i * 2 ^ 45) ≤ z) (sym (shift_is c (single 39) t)) (ev_mono (single 39) (c + i * 2 ^ 45) (c + t) (low c t)))
    where
      low : (c t : ℕ) → c + t / 2 ^ 45 * 2 ^ 45 ≤ c + t
      low c t = omega arith

  close : (420 * 2 ^ 434 * k ≤ 2 ^ 58 * ev log1ms Z + 39 * (420 * 2 ^ 434)) × (2 ^ 58 * ev log1ms Z ≤ 420 * 2 ^ 434 * (k + 9140))
  close = log1m_close Z (short_le t h)

  M_pos : 0 < 420 * 2 ^ 434
  M_pos = leb→le 1 (420 * 2 ^ 434) tt

  cuts : (32 * log_within t + k ≤ entry + 2 ^ 58) × (entry + 2 ^ 58 ≤ 32 * log_within t + 32 + k)
  cuts = cut_in entry k (log1m_le (short_of t r) (short_le t h))

  -- (y + 1) ^ 39 over 166966608033225, for y = 1 + t / 2 ^ 52 and for half of that
  abbrev pub upper_unit : ℕ
  upper_unit = 166966608033225 * ev (shift (2 ^ 53) (single 39)) t

  abbrev pub lower_unit : ℕ
  lower_unit = 166966608033225 * ev (shift (3 * 2 ^ 52) (single 39)) t

  -- 1 and the logarithm of 1 + t / 2 ^ 52 are within 2 ^ -44 of 1 and the series
  pub upper_near : (2 ^ 53 * ev (homogeneous (2 ^ 53) upper) t + 2 ^ 53 * upper_unit ≤ (log_within t + 512) * upper_unit) × (log_within t * upper_unit ≤ 2 ^ 53 * ev (homogeneous (2 ^ 53) upper) t + (2 ^ 53 + 512) * upper_unit)
  upper_near =
      let S = ev (homogeneous (2 ^ 53) upper) t in
      let b = ev (shift (2 ^ 53) (single 39)) t in
      let f = subst (λ (j : ℕ). Balanced (420 * 2 ^ 492) (homogeneous (2 ^ 53) upper) [] (shift (2 ^ 53) (single 39)) (log1m_at j) (entry_at j) t v (allowance (2 ^ 53) j)) (zero-add i) (upper_fits_lem i i_lt t v (v_is ∙ ap (λ (j : ℕ). suc j * 2 ^ 45) (sym (zero-add i))) v_le) in
      let f' = subst (λ (z : ℕ). (420 * 2 ^ 492 * S + b * z ≤ 420 * 2 ^ 492 * 0 + b * (units * entry + v * 0) + allowance (2 ^ 53) i) × (420 * 2 ^ 492 * 0 + b * (units * entry + v * 0) ≤ 420 * 2 ^ 492 * S + b * z + allowance (2 ^ 53) i)) log1m_at_lem f in
      upper_cut upper_unit S entry k (log_within t) cuts.0 cuts.1
      (le_of_mul-le-mul_left (upper_up (2 ^ 58) (420 * 2 ^ 434) 166966608033225 b S entry k (ev log1ms Z) v (allowance (2 ^ 53) i) f'.0 (allowed (2 ^ 53)) close.0) M_pos)
      (le_of_mul-le-mul_left (upper_low (2 ^ 58) (420 * 2 ^ 434) 166966608033225 b S entry k (ev log1ms Z) v (allowance (2 ^ 53) i) f'.1 (allowed (2 ^ 53)) close.1) M_pos)

  turn_at_lem : ev (turn_at i) v ≡ units * (32 * 6243314768165359) + v * 0 + 2 ^ 58 * 166966608033225 * ev log1ms Z
  turn_at_lem = plus_is (units * (32 * 6243314768165359) ∷ []) (log1m_at i) v ∙ ap (λ (z : ℕ). units * (32 * 6243314768165359) + v * 0 + z) log1m_at_lem

  -- and so for half of it, below 0
  pub lower_near : (2 ^ 53 * ev (homogeneous (2 ^ 52) lower_adding) t + log_within t * lower_unit ≤ 2 ^ 53 * ev (homogeneous (2 ^ 52) lower_taking) t + (6243314768165359 + 2 ^ 53 + 512) * lower_unit)
      × (2 ^ 53 * ev (homogeneous (2 ^ 52) lower_taking) t + (6243314768165359 + 2 ^ 53) * lower_unit ≤ 2 ^ 53 * ev (homogeneous (2 ^ 52) lower_adding) t + (log_within t + 512) * lower_unit)
  lower_near =
      let A = ev (homogeneous (2 ^ 52) lower_adding) t in
      let O = ev (homogeneous (2 ^ 52) lower_taking) t in
      let b = ev (shift (3 * 2 ^ 52) (single 39)) t in
      let f = subst (λ (j : ℕ). Balanced (420 * 2 ^ 492) (homogeneous (2 ^ 52) lower_adding) (homogeneous (2 ^ 52) lower_taking) (shift (3 * 2 ^ 52) (single 39)) (entry_at j) (turn_at j) t v (allowance (3 * 2 ^ 52) j)) (zero-add i) (lower_fits_lem i i_lt t v (v_is ∙ ap (λ (j : ℕ). suc j * 2 ^ 45) (sym (zero-add i))) v_le) in
      let f' = subst (λ (z : ℕ). (420 * 2 ^ 492 * A + b * (units * entry + v * 0) ≤ 420 * 2 ^ 492 * O + b * z + allowance (3 * 2 ^ 52) i) × (420 * 2 ^ 492 * O + b * z ≤ 420 * 2 ^ 492 * A + b * (units * entry + v * 0) + allowance (3 * 2 ^ 52) i)) turn_at_lem f in
      lower_cut lower_unit A O entry 6243314768165359 k (log_within t) cuts.0 cuts.1
      (le_of_mul-le-mul_left (lower_up (2 ^ 58) (420 * 2 ^ 434) 166966608033225 b A O entry (32 * 6243314768165359) k (ev log1ms Z) v (allowance (3 * 2 ^ 52) i) f'.0 (allowed (3 * 2 ^ 52)) close.1) M_pos)
      (le_of_mul-le-mul_left (lower_low (2 ^ 58) (420 * 2 ^ 434) 166966608033225 b A O entry (32 * 6243314768165359) k (ev log1ms Z) v (allowance (3 * 2 ^ 52) i) f'.1 (allowed (3 * 2 ^ 52)) close.0) M_pos)

  -- ---- the same by the series' own terms

  pub near_above : NearLog (log_within t) (2 ^ 53) t (2 ^ 53 + t)
  near_above =
      let C = 166966608033225 * (2 ^ 53 + t) ^ 39 in
      let n = subst (λ (S : ℕ). (2 ^ 53 * S + 2 ^ 53 * C ≤ (log_within t + 512) * C) × (log_within t * C ≤ 2 ^ 53 * S + (2 ^ 53 + 512) * C)) (upper_is t)
      (subst (λ (b : ℕ). (2 ^ 53 * ev (homogeneous (2 ^ 53) upper) t + 2 ^ 53 * (166966608033225 * b) ≤ (log_within t + 512) * (166966608033225 * b)) × (log_within t * (166966608033225 * b) ≤ 2 ^ 53 * ev (homogeneous (2 ^ 53) upper) t + (2 ^ 53 + 512) * (166966608033225 * b))) (moved_is (2 ^ 53) 39 t) upper_near) in
      record { above = n.0; under = n.1 }

  pub near_below : NearLog (6243314768165359 + 2 ^ 53) (log_within t) (2 ^ 52 - t) (3 * 2 ^ 52 + t)
  near_below =
      let C = 166966608033225 * (3 * 2 ^ 52 + t) ^ 39 in
      let A = ev (homogeneous (2 ^ 52) lower_adding) t in
      let O = ev (homogeneous (2 ^ 52) lower_taking) t in
      let S = log_series (2 ^ 52 - t) (3 * 2 ^ 52 + t) in
      let e = lower_is (2 ^ 52 - t) t (meets t h) in
      let n = subst (λ (b : ℕ). (2 ^ 53 * A + log_within t * (166966608033225 * b) ≤ 2 ^ 53 * O + (6243314768165359 + 2 ^ 53 + 512) * (166966608033225 * b)) × (2 ^ 53 * O + (6243314768165359 + 2 ^ 53) * (166966608033225 * b) ≤ 2 ^ 53 * A + (log_within t + 512) * (166966608033225 * b))) (moved_is (3 * 2 ^ 52) 39 t) lower_near in
      record { above = up A O S (log_within t * C) C e n.0; under = low A O S ((log_within t + 512) * C) C e n.1 }
    where
      meets : (t : ℕ) → t < 2 ^ 52 → 2 ^ 52 - t + t ≡ 2 ^ 52
      meets t h = omega arith

      up : (A O S X C : ℕ) → A ≡ O + S → 2 ^ 53 * A + X ≤ 2 ^ 53 * O + (6243314768165359 + 2 ^ 53 + 512) * C → 2 ^ 53 * S + X ≤ (6243314768165359 + 2 ^ 53 + 512) * C
      up A O S X C e h = omega arith

      low : (A O S X C : ℕ) → A ≡ O + S → 2 ^ 53 * O + (6243314768165359 + 2 ^ 53) * C ≤ 2 ^ 53 * A + X → (6243314768165359 + 2 ^ 53) * C ≤ 2 ^ 53 * S + X
      low A O S X C e h = omega arith
