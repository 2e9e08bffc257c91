-- Each of many records is answered as the one-altitude call answers it, its row is that call's, and what lies behind the rows is as it was.
use Prim.Native.Nat.{ℕ, zero, suc, ◌+◌, ◌*◌, ◌<◌, ◌≤◌}
use Rattle.std.specs.Prelude.{◌≡◌, Bool, cond, List, ℤ, take, drop, Float}
use Rattle.std.proofs.Math.Path.{refl, sym, ap}
use Rattle.std.proofs.Common.{◌∙◌, length-drop, length-take-le}
use Rattle.std.proofs.Math.Bool.{true, false}
use native.Mathlib.Omega.{arith}
use borrow.Author.Tests.{eqb-true, eqb-false}
use Rattle.std.proofs.Math.Dec.{eqb}
use Rattle.std.proofs.Math.ListN.{length}
use Rattle.std.proofs.Math.Seq.{drop-drop}
use Rattle.refusals.specs.Refusals.{Accepted, accepted_of}
use Rattle.setting.specs.declared.Input.{Input}
use Rattle.atmosphere.specs.Atmosphere.{eleven_of, answer_of, row_after}
use Rattle.shutoff.specs.Shut.{Alike}
use Rattle.shutoff.proofs.Theorems.{demand_3}
use Rattle.drag.specs.Length.{eleven_long}
use Rattle.record_list.specs.RecordList.{record_at}
use Rattle.records.specs.Records.{row_at, with_row, rows_to}
use Rattle.records.specs.Theorems.{with_row_length, own_row, behind_row, other_row}

cond_length : (b : Bool) (xs ys : List Float) (m : ℕ) → length xs ≡ m → length ys ≡ m → length (cond b xs ys) ≡ m
cond_length true xs ys m e f = e
cond_length false xs ys m e f = f

after_length : (w : List ℤ) (n : Input) (xs : List Float) → length xs ≡ 11 → length (row_after w n xs) ≡ 11
unfolding row_after
after_length w n xs e = cond_length (accepted_of (answer_of w n (length xs))) (eleven_of w n) xs 11 (eleven_long w n) e

part_length : (k : ℕ) (xs : List Float) → 11 * k + 11 ≤ length xs → length (row_at k xs) ≡ 11
part_length k xs h = let d = length-drop (11 * k) xs in length-take-le 11 (drop (11 * k) xs) (omega (arith, h, d))

module _ (w days : List ℤ) (f l : List Float) where
  abbrev Told : ℕ → List Float → Type 0
  Told n xs =
      (length (rows_to w days f l n xs) ≡ length xs) × (drop (11 * n) (rows_to w days f l n xs) ≡ drop (11 * n) xs)
      × ((j : ℕ) → j < n → row_at j (rows_to w days f l n xs) ≡ row_after w (record_at days f l j) (row_at j xs))

  one_more : (n : ℕ) (xs : List Float) → 11 * n + 11 ≤ length xs → Told n xs → Told (suc n) xs
  unfolding rows_to
  one_more n xs room t =
      let R = rows_to w days f l n xs in
      let same : row_at n R ≡ row_at n xs = ap (take 11) t.1 in
      let here : 11 * n + 11 ≤ length R = rw t.0 room in
      let row = row_after w (record_at days f l n) (row_at n R) in
      let long : length row ≡ 11 = after_length w (record_at days f l n) (row_at n R) (part_length n R here) in
      let next : 11 * suc n ≡ 11 * n + 11 = omega arith in (
        with_row_length R row n here long ∙ t.0,
        rw next (behind_row R row n here long ∙ sym (drop-drop 11 (11 * n) R) ∙ ap (drop 11) t.1 ∙ drop-drop 11 (11 * n) xs),
        λ j h. at j (eqb j n) refl h (t.2 j) (own_row R row n here long ∙ ap (row_after w (record_at days f l n)) same) (other_row R row n here long j),
      )
    where
      at : (j : ℕ) (b : Bool) → eqb j n ≡ b → j < suc n → (j < n → row_at j (rows_to w days f l n xs) ≡ row_after w (record_at days f l j) (row_at j xs))
          → row_at n (rows_to w days f l (suc n) xs) ≡ row_after w (record_at days f l n) (row_at n xs)
          → (j < n → row_at j (rows_to w days f l (suc n) xs) ≡ row_at j (rows_to w days f l n xs))
          → row_at j (rows_to w days f l (suc n) xs) ≡ row_after w (record_at days f l j) (row_at j xs)
      at j true e h before own other = let s : j ≡ n = eqb-true j n e in rw s own
      at j false e h before own other = let d = eqb-false j n e in other (omega (arith, h, d)) ∙ before (omega (arith, h, d))

  -- all of n records: the j-th row is the one-altitude call's on the j-th record and what its part held, and what lies behind is as it was
  pub rows_told : (n : ℕ) (xs : List Float) → 11 * n ≤ length xs → Told n xs
  unfolding rows_to
  rows_told zero xs h = (refl, refl, λ j k. absurd (none j k))
    where
      none : (j : ℕ) → j < 0 → ⊥
      none j u = omega arith
  rows_told (suc n) xs h = one_more n xs (omega (arith, h)) (rows_told n xs (omega (arith, h)))

-- Demand 3, record by record: two lists under one row whose j-th and k-th records are alike and accepted have the same eleven numbers there, and these are
-- the definition's for the one record and the other.
pub demand_3_records : (w days days' : List ℤ) (f l f' l' : List Float) (n m : ℕ) (xs ys : List Float) (j k : ℕ)
    → 11 * n ≤ length xs → 11 * m ≤ length ys → j < n → k < m
    → Alike w (record_at days f l j) (record_at days' f' l' k)
    → answer_of w (record_at days f l j) 11 ≡ Accepted
    → answer_of w (record_at days' f' l' k) 11 ≡ Accepted
    → (row_at j (rows_to w days f l n xs) ≡ row_at k (rows_to w days' f' l' m ys))
    × (row_at j (rows_to w days f l n xs) ≡ eleven_of w (record_at days f l j))
    × (row_at k (rows_to w days' f' l' m ys) ≡ eleven_of w (record_at days' f' l' k))
demand_3_records w days days' f l f' l' n m xs ys j k ha hb hj hk like ea eb =
    let p = (rows_told w days f l n xs ha).2 j hj in
    let q = (rows_told w days' f' l' m ys hb).2 k hk in
    let la = part_length j xs (omega (arith, ha, hj)) in
    let lb = part_length k ys (omega (arith, hb, hk)) in
    let t = demand_3 w (record_at days f l j) (record_at days' f' l' k) (row_at j xs) (row_at k ys) like (ap (answer_of w (record_at days f l j)) la ∙ ea) (ap (answer_of w (record_at days' f' l' k)) lb ∙ eb) in
    (p ∙ t.0 ∙ sym q, p ∙ t.1, q ∙ t.2)
