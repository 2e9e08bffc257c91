-- A line's bytes met one by one: texts, digits, numbers and fields; and the numbers as a record and a switch row.
use mathlib.Core.Path.{◌≡◌, refl, sym, ap, ◌∙◌, subst}
use mathlib.Core.Bool.{Bool, true, false, cond, not, ◌&&◌}
use mathlib.Core.List.{List, [], ◌∷◌}
use Prim.Native.Nat.{ℕ, zero, suc, ◌+◌, ◌*◌, ◌^◌, ◌-◌, ◌<◌, ◌≤◌, zero-le}
use native.Mathlib.Omega.{arith}
use native.Mathlib.Numerals.{add-one}
use borrow.Author.Tests.{eq-eqb, ne_eqb, eqb-true, eqb-false, ltb-true, ltb-false, not-false}
use Rattle.std.proofs.Common.{None, Some}
use lib.Pointwise.{pointwise}
use lib.Dec.{ltb, eqb, lit<}
use lib.IntN.{ℤ, pos, negsuc, ◌-ℤ◌, +ℤ_idl}
use native.Mathlib.Nat.{lt_trans, mul-le-mul_right, le-mul_of_pos_right, pow-le-pow_right, pow-suc}
use mir.Syntax.{w32}
use mir.Val.{SFits, to_z, of_z}
use mir.ValLaws.{to_z-of_z}
use mir.Facts.{sfits_lit}
use borrow.Author.Rules.{sfits_of}
use lib.ListN.{length, take, drop, get_or, set, drop_of_length-le}
use lib.Seq.{drop-cons}
use Rattle.line_form.specs.declared.Digits.{Digits}
use Rattle.line_form.specs.declared.WholeNumber.{WholeNumber}
use Rattle.line_form.specs.declared.Reading.{Reading}
use Rattle.line_form.specs.declared.Run.{Run}
use Rattle.setting.specs.declared.History.{History}
use lib.Ieee.{Float}
use Rattle.line_form.specs.Grammar.{here_of, starts_of, digit_of, more_of, with_sign, positive_of, read_number, stopped_of, read_numbers, field_of, start_of, later_of, values_from, thousandths_at, history_when, array_of, input_of}
use Rattle.line_form.proofs.Bytes.{and_first, and_second, here_below}

-- ---- texts

eqb_sym : (a b : ℕ) → eqb a b ≡ eqb b a
eqb_sym a b = by (eqb a b) refl
  where
    by : (t : Bool) → eqb a b ≡ t → eqb a b ≡ eqb b a
    by true e = e ∙ sym (eq-eqb b a (sym (eqb-true a b e)))
    by false e = e ∙ sym (ne_eqb b a (λ f. eqb-false a b e (sym f)))

-- a text at an index is the first part of what lies there
pub starts_same : (s text : List ℕ) (k : ℕ) → pointwise eqb text (take (length text) (drop k s)) ≡ starts_of s k text
unfolding starts_of here_of
starts_same s [] k = refl
starts_same s (c ∷ cs) k = by (ltb k (length s)) refl (starts_same s cs (suc k))
  where
    by : (b : Bool) → ltb k (length s) ≡ b → pointwise eqb cs (take (length cs) (drop (suc k) s)) ≡ starts_of s (suc k) cs
        → pointwise eqb (c ∷ cs) (take (length (c ∷ cs)) (drop k s)) ≡ ((b && eqb (get_or s k 0) c) && starts_of s (k + 1) cs)
    by true e f = rw (drop-cons s k 0 (ltb-true _ _ e), eqb_sym c (get_or s k 0), add-one k) (ap (λ (b : Bool). eqb (get_or s k 0) c && b) f)
    by false e f = rw (drop_of_length-le s {i = k} (ltb-false _ _ e)) refl

-- ---- digits

module _ (s : List ℕ) (k v : ℕ) where
  pub no_digit : None ≡ digit_of s k → (m : ℕ) → record { size = v; next = k } ≡ more_of m s k v
  unfolding more_of
  no_digit e zero = refl
  no_digit e (suc m) = rw (sym e) refl

  pub one_more : (d : ℕ) → Some d ≡ digit_of s k → (m : ℕ) → 0 < m → more_of (m - 1) s (k + 1) (10 * v + d) ≡ more_of m s k v
  unfolding more_of
  one_more d e zero g = absurd (none g)
    where
      none : 0 < 0 → ⊥
      none l = omega arith
  one_more d e (suc m) g =
      let p : suc m - 1 ≡ m = omega arith in
      rw (p, sym e) refl

-- with m digits to come, v has room for them in nine digits

pub room_less : (v m : ℕ) → (v + 1) * 10 ^ m ≤ 1000000000 → v < 1000000000
room_less v m h =
    let one : 0 < 10 ^ m = pow-le-pow_right {n = 10} (omega arith) {i = 0} {j = m} zero-le in
    omega (arith, le-mul_of_pos_right (v + 1) one)

pub room_next : (v d m : ℕ) → 0 < m → d ≤ 9 → (v + 1) * 10 ^ m ≤ 1000000000 → ((10 * v + d) + 1) * 10 ^ (m - 1) ≤ 1000000000
room_next v d zero g h r = absurd (none g)
  where
    none : 0 < 0 → ⊥
    none l = omega arith
room_next v d (suc m) g h r =
    let p : suc m - 1 ≡ m = omega arith in
    let q : (v + 1) * (10 ^ m * 10) ≤ 1000000000 = rw (← pow-suc 10 m) r in
    rw p (omega (arith, mul-le-mul_right (10 ^ m) h))

pub room_fits : (v m : ℕ) → 0 < m → (v + 1) * 10 ^ m ≤ 1000000000 → 10 * v + 9 < 1000000000
room_fits v m g h = room_less (10 * v + 9) (m - 1) (room_next v 9 m g (omega arith) h)

pub all_read : (s : List ℕ) (k v m : ℕ) → m ≡ 0 → record { size = v; next = k } ≡ more_of m s k v
unfolding more_of
all_read s k v m e = rw e

-- ---- signed numbers

minus_pos : (n : ℕ) → pos 0 -ℤ pos n ≡ with_sign true n
minus_pos zero = refl
minus_pos (suc n) = +ℤ_idl (negsuc n)

sfits : (b : Bool) (n : ℕ) → n < 1000000000 → SFits w32 (with_sign b n)
sfits false n h = sfits_of (lt_trans h (lit< tt))
sfits true zero h = sfits_lit tt
sfits true (suc n) h = let g : n < 1000000000 = omega arith in sfits_of (lt_trans g (lit< tt))

pub back : (b : Bool) (z : ℤ) (n : ℕ) → z ≡ with_sign b n → n < 1000000000 → to_z w32 (of_z w32 z) ≡ with_sign b n
back b z n e h = ap (λ (x : ℤ). to_z w32 (of_z w32 x)) e ∙ to_z-of_z w32 (with_sign b n) (sfits b n h)

pub negated_fits : (z : ℤ) (n : ℕ) → z ≡ pos n → n < 1000000000 → SFits w32 (pos 0 -ℤ to_z w32 (of_z w32 z))
negated_fits z n e h =
    subst (λ (v : ℤ). SFits w32 (pos 0 -ℤ v)) (sym (back false z n e h)) (subst (λ (v : ℤ). SFits w32 v) (sym (minus_pos n)) (sfits true n h))

pub negated_is : (z : ℤ) (n : ℕ) → z ≡ pos n → n < 1000000000 → to_z w32 (of_z w32 (pos 0 -ℤ to_z w32 (of_z w32 z))) ≡ with_sign true n
negated_is z n e h = to_z-of_z w32 _ (negated_fits z n e h) ∙ (ap (λ (v : ℤ). pos 0 -ℤ v) (back false z n e h) ∙ minus_pos n)

-- ---- whole numbers

module _ (minus : Bool) (s : List ℕ) (k : ℕ) where
  pub not_a_digit : None ≡ digit_of s k → None ≡ positive_of minus s k
  unfolding positive_of
  not_a_digit e = rw (sym e) refl

  pub a_zero : (d : ℕ) → Some d ≡ digit_of s k → d ≡ 0 → None ≡ positive_of minus s k
  unfolding positive_of
  a_zero d e z = rw (sym e) (simp (eq-eqb d 0 z))

  pub some_digits : (d : ℕ) → Some d ≡ digit_of s k → (d ≡ 0 → ⊥) → (w : Digits) (z : ℤ) → w ≡ more_of 8 s (k + 1) d → w.size < 1000000000 → z ≡ with_sign minus w.size
      → Some (record { value = to_z w32 (of_z w32 z); next = w.next }) ≡ positive_of minus s k
  unfolding positive_of
  some_digits d e n w z f g i = rw (sym e, back minus z w.size i g) (simp (← f) (simp (ne_eqb d 0 n)))

pub here_inside : (s : List ℕ) (k c : ℕ) (b : Bool) → b ≡ here_of s k c → b ≡ true → k < length s
here_inside s k c b e t = here_below s k c (sym e ∙ t)

module _ (s : List ℕ) (k : ℕ) (b : Bool) (e : b ≡ here_of s k 48) where
  pub nought : b ≡ true → Some (record { value = pos 0; next = k + 1 }) ≡ read_number s k
  unfolding read_number
  nought t = simp (← e) (simp t)

  pub below_nought : b ≡ false → (c : Bool) → c ≡ here_of s k 45 → c ≡ true → positive_of true s (k + 1) ≡ read_number s k
  unfolding read_number
  below_nought t c f u = simp (← e, ← f) (simp (t, u))

  pub above_nought : b ≡ false → (c : Bool) → c ≡ here_of s k 45 → c ≡ false → positive_of false s k ≡ read_number s k
  unfolding read_number
  above_nought t c f u = simp (← e, ← f) (simp (t, u))

-- ---- numbers in a row

pub stopped_next : (q t : Reading) (n : ℕ) → t ≡ stopped_of q → q.next ≤ n → t.next ≤ n
unfolding stopped_of
stopped_next q t n e h = rw e h

module _ (s : List ℕ) (j : ℕ) (q : Reading) (b : Bool) (e : b ≡ here_of s q.next 32) where
  pub no_space : (m : ℕ) → 0 < m → not b ≡ true → stopped_of q ≡ read_numbers m s j q
  unfolding read_numbers
  no_space zero g t = absurd (none g)
    where
      none : 0 < 0 → ⊥
      none l = omega arith
  no_space (suc m) g t = simp (← e) (simp t)

  pub no_number : (m : ℕ) → 0 < m → not b ≡ false → None ≡ read_number s (q.next + 1) → stopped_of q ≡ read_numbers m s j q
  unfolding read_numbers
  no_number zero g t f = absurd (none g)
    where
      none : 0 < 0 → ⊥
      none l = omega arith
  no_number (suc m) g t f = rw (sym e, t, sym f) refl

  pub one_number_lem : (m : ℕ) → 0 < m → not b ≡ false → (n : WholeNumber) → Some n ≡ read_number s (q.next + 1)
      → (p : Reading) → p ≡ record { ok = true; next = n.next; values = set q.values j n.value }
      → read_numbers (m - 1) s (j + 1) p ≡ read_numbers m s j q
  unfolding read_numbers
  one_number_lem zero g t n f p h = absurd (none g)
    where
      none : 0 < 0 → ⊥
      none l = omega arith
  one_number_lem (suc m) g t n f p h =
      let k : suc m - 1 ≡ m = omega arith in
      rw (k, h, sym e, t, sym f) refl

pub no_more : (s : List ℕ) (j m : ℕ) (q : Reading) → m ≡ 0 → q ≡ read_numbers m s j q
unfolding read_numbers
no_more s j m q e = rw e

-- ---- a field

starts_room : (s text : List ℕ) (k : ℕ) → starts_of s k text ≡ true → k ≤ length s → k + length text ≤ length s
unfolding starts_of
starts_room s [] k t h = omega arith
starts_room s (c ∷ cs) k t h =
    let g : k < length s = here_below s k c (and_first _ (starts_of s (k + 1) cs) t) in
    let i : k + 1 + length cs ≤ length s = starts_room s cs (k + 1) (and_second (here_of s k c) _ t) (omega arith) in
    omega arith

pub starts_fits : (s text : List ℕ) (k : ℕ) (b : Bool) → b ≡ starts_of s k text → not b ≡ false → k ≤ length s → k + length text ≤ length s
starts_fits s text k b e t h = starts_room s text k (sym e ∙ not-false b t) h

module _ (s text : List ℕ) (i m : ℕ) (r : Reading) where
  pub field_stopped : not r.ok ≡ true → r ≡ field_of s text i m r
  unfolding field_of
  field_stopped t = simp t

  pub field_other : not r.ok ≡ false → (b : Bool) → b ≡ starts_of s r.next text → not b ≡ true → stopped_of r ≡ field_of s text i m r
  unfolding field_of
  field_other t b e u = simp (← e) (simp (t, u))

  pub field_read : not r.ok ≡ false → (b : Bool) → b ≡ starts_of s r.next text → not b ≡ false
      → (q : Reading) → q ≡ record { ok = true; next = r.next + length text; values = r.values } → read_numbers m s i q ≡ field_of s text i m r
  unfolding field_of
  field_read t b e u q f = rw f (simp (← e) (simp (t, u)))

pub next_is : (q : Reading) (k l : ℕ) (v : List ℤ) → q ≡ record { ok = true; next = k; values = v } → k ≤ l → q.next ≤ l
next_is q k l v e h = rw e h

pub start_next : (r : Reading) (n : ℕ) → r ≡ start_of → r.next ≤ n
unfolding start_of
start_next r n e = rw e zero-le

pub later_next : (q a r : Reading) (n : ℕ) → q ≡ later_of a r → a.next ≤ n → r.next ≤ n → q.next ≤ n
unfolding later_of
later_next q a r n e g h = rw e (go a.ok)
  where
    go : (b : Bool) → (cond b a r).next ≤ n
    go true = g
    go false = h

-- ---- a part of the numbers

pub part_is : (v : List ℤ) (m i : ℕ) → i + m ≤ length v → take m (drop i v) ≡ values_from v m i
unfolding values_from
part_is v zero i h = refl
part_is v (suc m) i h = rw (drop-cons v i (pos 0) (omega arith), add-one i) (ap (λ (t : List ℤ). get_or v i (pos 0) ∷ t) (part_is v m (suc i) (omega arith)))

pub part_of_length : (v : List ℤ) (m i : ℕ) → length (values_from v m i) ≡ m
unfolding values_from
part_of_length v zero i = refl
part_of_length v (suc m) i = ap suc (part_of_length v m (i + 1))

pub part_of_at : (v : List ℤ) (m i k : ℕ) → k < m → get_or (values_from v m i) k (pos 0) ≡ get_or v (i + k) (pos 0)
unfolding values_from
part_of_at v zero i k h = absurd (none h)
  where
    none : k < 0 → ⊥
    none l = omega arith
part_of_at v (suc m) i zero h = let e : i + 0 ≡ i = omega arith in rw e
part_of_at v (suc m) i (suc k) h =
    let e : i + 1 + k ≡ i + suc k = omega arith in
    let g : k < m = omega arith in
    part_of_at v m (i + 1) k g ∙ ap (λ (j : ℕ). get_or v j (pos 0)) e

pub input_is : (f : Run) (year doy : ℤ) (sec alt g_lat g_long lst f107a f107 a : Float) (h : History) (l : List Float)
    → year ≡ get_or f.reading.values 0 (pos 0)
    → doy ≡ get_or f.reading.values 1 (pos 0)
    → sec ≡ thousandths_at f.reading 2
    → alt ≡ thousandths_at f.reading 3
    → g_lat ≡ thousandths_at f.reading 4
    → g_long ≡ thousandths_at f.reading 5
    → lst ≡ thousandths_at f.reading 6
    → f107a ≡ thousandths_at f.reading 7
    → f107 ≡ thousandths_at f.reading 8
    → a ≡ thousandths_at f.reading 9
    → h ≡ history_when f.array
    → l ≡ array_of f.reading
    → record { year = year; doy = doy; sec = sec; alt = alt; g_lat = g_lat; g_long = g_long; lst = lst; f107a = f107a; f107 = f107; ap = a; history = h; ap_array = l } ≡ input_of f
unfolding input_of
input_is f year doy sec alt g_lat g_long lst f107a f107 a h l e0 e1 e2 e3 e4 e5 e6 e7 e8 e9 e10 e11 = rw (e0, e1, e2, e3, e4, e5, e6, e7, e8, e9, e10, e11)
