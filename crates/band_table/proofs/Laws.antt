-- A table's count, and its bands gone through.
use Rattle.std.proofs.Common.{None, Some, is_some}
use mathlib.Core.Path.{◌≡◌, refl, sym, ap, ◌∙◌}
use mathlib.Core.Bool.{Bool, true, false, cond, true≢false, false≢true}
use mathlib.Core.List.{List}
use Prim.Native.Nat.{ℕ, zero, suc, ◌+◌, ◌-◌, ◌<◌, ◌≤◌}
use native.Mathlib.Omega.{arith}
use borrow.Author.Tests.{ltb-true, ltb-false, le-leb, lt-leb, eq-eqb, ne_eqb}
use lib.Dec.{T, eqb}
use lib.IntN.{ℤ, pos, negsuc, nat_abs}
use lib.ListN.{length, take, drop, get_or}
use lib.Signed.{lt_z, non_neg}
use Rattle.line_text.proofs.Choice.{cond_true, cond_false}
use Rattle.band_table.specs.Table.{band_count, row_from, band_row}

-- ---- a count

pub count_below : (x z : ℤ) → x ≡ z → lt_z x (pos 0) ≡ true → 0 ≡ band_count z
count_below x z f h = by z (ap (λ (y : ℤ). lt_z y (pos 0)) (sym f) ∙ h)
  where
    by : (y : ℤ) → lt_z y (pos 0) ≡ true → 0 ≡ band_count y
    by (pos n) e = let l : n < 0 = ltb-true n 0 e in absurd (none l)
      where
        none : n < 0 → ⊥
        none i = omega arith
    by (negsuc n) e = refl

pub count_above : (x z : ℤ) → x ≡ z → lt_z (pos 64) x ≡ true → 0 ≡ band_count z
count_above x z f h = by z (ap (lt_z (pos 64)) (sym f) ∙ h)
  where
    by : (y : ℤ) → lt_z (pos 64) y ≡ true → 0 ≡ band_count y
    by (pos n) e = cond_false _ _ _ (lt-leb n 64 (ltb-true 64 n e))
    by (negsuc n) e = refl

pub record Counted (x z : ℤ) : Type 0 where
  pub sign : T (non_neg x)
  pub size : nat_abs x ≡ band_count z
  pub few : nat_abs x ≤ 64

pub count_is : (x z : ℤ) → x ≡ z → lt_z x (pos 0) ≡ false → lt_z (pos 64) x ≡ false → Counted x z
count_is (pos n) z f g h =
    let l : n ≤ 64 = ltb-false 64 n h in
    record { sign = tt; size = cond_true _ n 0 (le-leb n 64 l) ∙ ap band_count f; few = l }
count_is (negsuc n) z f g h = absurd (true≢false g)

-- ---- the row

module _ (t : List ℤ) (metre : ℤ) where
  pub row_length : (length t ≡ 1601 → ⊥) → None ≡ band_row t metre
  unfolding band_row
  row_length h = cond_false _ _ _ (ne_eqb (length t) 1601 h)

  module _ (l : length t ≡ 1601) (x : ℤ) (f : x ≡ metre) where
    pub row_below : lt_z x (pos 0) ≡ true → None ≡ band_row t metre
    unfolding band_row
    row_below h = cond_true _ _ _ (ap (λ (z : ℤ). lt_z z (pos 0)) (sym f) ∙ h) ∙ cond_true _ _ _ (eq-eqb (length t) 1601 l)

    module _ (g : lt_z x (pos 0) ≡ false) where
      pub row_above : lt_z (pos 2500000) x ≡ true → None ≡ band_row t metre
      unfolding band_row
      row_above h =
          cond_true _ _ _ (ap (lt_z (pos 2500000)) (sym f) ∙ h)
          ∙ (cond_false _ _ _ (ap (λ (z : ℤ). lt_z z (pos 0)) (sym f) ∙ g) ∙ cond_true _ _ _ (eq-eqb (length t) 1601 l))

      pub row_within : lt_z (pos 2500000) x ≡ false → row_from (band_count (get_or t 0 (pos 0))) t 1 x ≡ band_row t metre
      unfolding band_row
      row_within h =
          ap (row_from (band_count (get_or t 0 (pos 0))) t 1) f
          ∙ (cond_false _ _ _ (ap (lt_z (pos 2500000)) (sym f) ∙ h)
          ∙ (cond_false _ _ _ (ap (λ (z : ℤ). lt_z z (pos 0)) (sym f) ∙ g) ∙ cond_true _ _ _ (eq-eqb (length t) 1601 l)))

module _ (m : ℕ) (t : List ℤ) (k : ℕ) (metre to : ℤ) (g : 0 < m) (f : to ≡ get_or t k (pos 0)) (b : Bool) (e : b ≡ lt_z metre to) where
  above_it : lt_z metre (get_or t k (pos 0)) ≡ b
  above_it = sym (e ∙ ap (lt_z metre) f)

  pub row_here : b ≡ true → (w : List ℤ) → w ≡ take 24 (drop (k + 1) t) → Some w ≡ row_from m t k metre
  unfolding row_from
  row_here h w i = by m g
    where
      by : (j : ℕ) → 0 < j → Some w ≡ row_from j t k metre
      by zero l = absurd (none l)
        where
          none : 0 < 0 → ⊥
          none o = omega arith
      by (suc j) l = rw i (cond_true _ _ _ (above_it ∙ h))

  pub row_later : b ≡ false → row_from (m - 1) t (k + 25) metre ≡ row_from m t k metre
  unfolding row_from
  row_later h = by m g
    where
      by : (j : ℕ) → 0 < j → row_from (j - 1) t (k + 25) metre ≡ row_from j t k metre
      by zero l = absurd (none l)
        where
          none : 0 < 0 → ⊥
          none o = omega arith
      by (suc j) l = let p : suc j - 1 ≡ j = omega arith in rw p (cond_false _ _ _ (above_it ∙ h))

pub row_none : (m : ℕ) (t : List ℤ) (k : ℕ) (metre : ℤ) → m ≡ 0 → None ≡ row_from m t k metre
unfolding row_from
row_none m t k metre e = rw e

-- a metre that has a row lies from 0 to 2,500,000
pub found_inside : (t : List ℤ) (metre : ℤ) (w : List ℤ) → band_row t metre ≡ Some w → (lt_z metre (pos 0) ≡ false) × (lt_z (pos 2500000) metre ≡ false)
unfolding band_row
found_inside t metre w h = go (eqb (length t) 1601) (lt_z metre (pos 0)) (lt_z (pos 2500000) metre) h
  where
    none : {A : Type 0} → None ≡ Some w → A
    none e = absurd (false≢true (ap is_some e))

    go : (l a b : Bool) → cond l (cond a None (cond b None (row_from (band_count (get_or t 0 (pos 0))) t 1 metre))) None ≡ Some w → (a ≡ false) × (b ≡ false)
    go false a b e = none e
    go true true b e = none e
    go true false true e = none e
    go true false false e = (refl, refl)
