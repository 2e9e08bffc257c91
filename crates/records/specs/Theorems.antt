-- Each record's answer is the one-altitude call's on that record; a row that is put in its place leaves the other rows and what lies behind.
use Prim.Native.Nat.{ℕ, zero, suc, ◌+◌, ◌*◌, ◌<◌, ◌≤◌}
use Rattle.std.specs.Prelude.{◌≡◌, Bool, List, ◌++◌, ℤ, length, take, drop, set, Float}
use Rattle.std.proofs.Math.Path.{refl}
use Rattle.std.proofs.Common.{sym, ap, ◌∙◌, length-append, length-drop, take-append-drop, get_or-set_same, take_at, drop_at, drop-drop, length-take-le}
use Rattle.std.proofs.Math.Bool.{true, false}
use native.Mathlib.Omega.{arith}
use borrow.Author.Tests.{eqb-true, eqb-false}
use Rattle.std.proofs.Math.Dec.{eqb}
use Rattle.std.proofs.Math.ListN.{get_or, length-set}
use Rattle.std.proofs.Math.Seq.{get_or-set_other}
use Rattle.std.proofs.lemmas.List.{take-append-le, drop-append-le}
use Rattle.acceptance.specs.Acceptance.{record_answer}
use Rattle.atmosphere.specs.Atmosphere.{row_after}
use Rattle.host_record.specs.Record.{code_of}
use Rattle.record_list.specs.RecordList.{record_at}
use Rattle.records.specs.Records.{answers_to, row_at, with_row, rows_to}

module _ (w days : List ℤ) (f l : List Float) where
  answers_length : (n : ℕ) (xs : List ℕ) → length (answers_to w days f l n xs) ≡ length xs
  unfolding answers_to
  answers_length zero xs = refl
  answers_length (suc n) xs = length-set (answers_to w days f l n xs) n _ ∙ answers_length n xs

  -- the j-th of n answers
  pub answer_told : (n : ℕ) (xs : List ℕ) (j : ℕ) → j < n → n ≤ length xs → get_or (answers_to w days f l n xs) j 0 ≡ code_of (record_answer w (record_at days f l j))
  unfolding answers_to
  answer_told zero xs j h e = absurd (none h)
    where
      none : j < 0 → ⊥
      none u = omega arith
  answer_told (suc n) xs j h e = go (eqb j n) refl (λ g. answer_told n xs j g (omega (arith, e)))
    where
      go : (b : Bool) → eqb j n ≡ b → (j < n → get_or (answers_to w days f l n xs) j 0 ≡ code_of (record_answer w (record_at days f l j)))
          → get_or (set (answers_to w days f l n xs) n (code_of (record_answer w (record_at days f l n)))) j 0 ≡ code_of (record_answer w (record_at days f l j))
      go true q r =
          let s : j ≡ n = eqb-true j n q in
          rw s (get_or-set_same (answers_to w days f l n xs) n _ 0 (rw (answers_length n xs) (omega (arith, e))))
      go false q r = get_or-set_other (answers_to w days f l n xs) n j _ 0 (eqb-false j n q) ∙ r (let k = eqb-false j n q in omega (arith, h, k))

-- ---- a row put in its place

module _ (xs row : List Float) (k : ℕ) (room : 11 * k + 11 ≤ length xs) (eleven : length row ≡ 11) where
  abbrev front : List Float
  front = take (11 * k) xs

  abbrev rear : List Float
  rear = drop 11 (drop (11 * k) xs)

  front_length : length front ≡ 11 * k
  front_length = length-take-le (11 * k) xs (omega (arith, room))

  pub with_row_length : length (with_row k xs row) ≡ length xs
  with_row_length =
      let a = length-append front (row ++ rear) in
      let b = length-append row rear in
      let c = length-drop 11 (drop (11 * k) xs) in
      let d = length-drop (11 * k) xs in
      omega (arith, room, eleven, front_length, a, b, c, d)

  pub own_row : row_at k (with_row k xs row) ≡ row
  own_row = ap (take 11) (drop_at front (row ++ rear) (11 * k) front_length) ∙ take_at row rear 11 eleven

  pub behind_row : drop (11 * k + 11) (with_row k xs row) ≡ drop (11 * k + 11) xs
  behind_row =
      sym (drop-drop 11 (11 * k) (with_row k xs row)) ∙ ap (drop 11) (drop_at front (row ++ rear) (11 * k) front_length) ∙ drop_at row rear 11 eleven ∙ drop-drop 11 (11 * k) xs

  -- a row before it, out of the front alone
  front_row : (j : ℕ) (ys : List Float) → j < k → row_at j (front ++ ys) ≡ row_at j front
  front_row j ys h =
      let a = length-drop (11 * j) front in
      ap (take 11) (drop-append-le (11 * j) front ys (omega (arith, h, front_length)))
      ∙ take-append-le 11 (drop (11 * j) front) ys (omega (arith, h, front_length, a))

  pub other_row : (j : ℕ) → j < k → row_at j (with_row k xs row) ≡ row_at j xs
  other_row j h = front_row j (row ++ rear) h ∙ sym (ap (row_at j) (sym (take-append-drop (11 * k) xs)) ∙ front_row j (drop (11 * k) xs) h)
