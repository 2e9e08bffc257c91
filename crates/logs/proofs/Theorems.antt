-- What holds of the report: each entry once, the count, the boards exchanged, the tolerance, the places of 15.
use Rattle.std.specs.Prelude.{ℕ, zero, suc, ◌+◌, ◌*◌, ◌-◌, ◌≤◌, ◌<◌, ◌≡◌, refl, Bool, true, false, cond, not, ◌||◌, Result, Ok, Err, leb, ltb, eqb, get_or, replicate}
use Rattle.std.proofs.Common.{sym, ◌∙◌, ap, ap₂, subst, ⊎_elim, arith, add_comm, ltb-true, ltb-false, leb-true, leb-false, lt-ltb, le-ltb, eqb-true, eq-eqb, ne_eqb}
use Rattle.std.proofs.lemmas.Bool.{false≢true, eqb-false}
use mathlib.Core.List.Memᴰ
use mathlib.Core.List.{List, [], ◌∷◌, ◌++◌, map, map-map, map-append, Memᴰ}
use Rattle.std.proofs.Math.ListN.{length}
use Rattle.std.proofs.lemmas.List.{length-map}
use Rattle.logs.specs.declared.LogsRefusal.{LogsRefusal}
use Rattle.logs.specs.declared.LogsRefusal.TheVariants.{Unfit, NotRising}
use Rattle.logs.specs.declared.Report.{Report}
use Rattle.logs.specs.Logs.{Entry, entries_of, Finding, pair, single1, single2, apart, findings, finding_number, finding_numbers, unfit_log, seconds_rise_from, seconds_rise, accepted_logs, refusal, report_of}

-- ---- each entry once

-- board 1's entries among findings, board 2's
unfoldable pub of1 : List Finding → List Entry
of1 [] = []
of1 (pair x y ∷ l) = x ∷ of1 l
of1 (single1 x ∷ l) = x ∷ of1 l
of1 (single2 y ∷ l) = of1 l

unfoldable pub of2 : List Finding → List Entry
of2 [] = []
of2 (pair x y ∷ l) = y ∷ of2 l
of2 (single1 x ∷ l) = of2 l
of2 (single2 y ∷ l) = y ∷ of2 l

singles1 : (xs : List Entry) → (of1 (map single1 xs) ≡ xs) × (of2 (map single1 xs) ≡ [])
unfolding of1 of2
singles1 [] = (refl, refl)
singles1 (x ∷ xs) = let r = singles1 xs in (ap (λ (l : List Entry). x ∷ l) r.0, r.1)

singles2 : (ys : List Entry) → (of1 (map single2 ys) ≡ []) × (of2 (map single2 ys) ≡ ys)
unfolding of1 of2
singles2 [] = (refl, refl)
singles2 (y ∷ ys) = let r = singles2 ys in (r.0, ap (λ (l : List Entry). y ∷ l) r.1)

-- Each entry of either log stands in one finding, in the order of its log.
pub each_once : (t : ℕ) (xs ys : List Entry) → (of1 (findings t xs ys) ≡ xs) × (of2 (findings t xs ys) ≡ ys)
unfolding findings of1 of2
each_once t [] ys = singles2 ys
each_once t (x ∷ xs) [] = singles1 (x ∷ xs)
each_once t (x ∷ xs) (y ∷ ys) =
    go (leb (apart x.second y.second) t) (ltb x.second y.second) (findings t xs ys) (findings t xs (y ∷ ys)) (findings t (x ∷ xs) ys)
    (each_once t xs ys) (each_once t xs (y ∷ ys)) (each_once t (x ∷ xs) ys)
  where
    go : (p q : Bool) (a b c : List Finding)
        → (of1 a ≡ xs) × (of2 a ≡ ys)
        → (of1 b ≡ xs) × (of2 b ≡ y ∷ ys)
        → (of1 c ≡ x ∷ xs) × (of2 c ≡ ys)
        → (of1 (cond p (pair x y ∷ a) (cond q (single1 x ∷ b) (single2 y ∷ c))) ≡ x ∷ xs)
        × (of2 (cond p (pair x y ∷ a) (cond q (single1 x ∷ b) (single2 y ∷ c))) ≡ y ∷ ys)
    go true q a b c e f g = (ap (λ (l : List Entry). x ∷ l) e.0, ap (λ (l : List Entry). y ∷ l) e.1)
    go false true a b c e f g = (ap (λ (l : List Entry). x ∷ l) f.0, f.1)
    go false false a b c e f g = (g.0, ap (λ (l : List Entry). y ∷ l) g.1)

-- ---- pairs and singles counted

-- how often k stands in a list
unfoldable pub count_in : ℕ → List ℕ → ℕ
count_in k [] = 0
count_in k (n ∷ l) = cond (eqb n k) 1 0 + count_in k l

-- twice the pairs plus the singles
abbrev pub twice_pairs_plus_singles : List ℕ → ℕ
twice_pairs_plus_singles l = 2 * (count_in 1 l + count_in 2 l) + (count_in 3 l + count_in 4 l)

pairs_and_singles : (l : List Finding) → twice_pairs_plus_singles (map finding_number l) ≡ length (of1 l) + length (of2 l)
unfolding of1 of2 count_in
pairs_and_singles [] = refl
pairs_and_singles (pair x y ∷ l) = go (eqb x.bits y.bits) (pairs_and_singles l)
  where
    go : (r : Bool) → twice_pairs_plus_singles (map finding_number l) ≡ length (of1 l) + length (of2 l)
        → twice_pairs_plus_singles (cond r 1 2 ∷ map finding_number l) ≡ suc (length (of1 l)) + suc (length (of2 l))
    go true e = omega arith
    go false e = omega arith
pairs_and_singles (single1 x ∷ l) = omega (arith, pairs_and_singles l)
pairs_and_singles (single2 y ∷ l) = omega (arith, pairs_and_singles l)

-- Twice the pairs plus the singles is the number of entries in both logs.
pub entries_counted : (t : ℕ) (xs ys : List Entry) → twice_pairs_plus_singles (finding_numbers t xs ys) ≡ length xs + length ys
unfolding finding_numbers
entries_counted t xs ys =
    let e = each_once t xs ys in
    pairs_and_singles (findings t xs ys) ∙ ap₂ (λ (a b : List Entry). length a + length b) e.0 e.1

no_more : (l : List Finding) → length (map finding_number l) ≤ twice_pairs_plus_singles (map finding_number l)
unfolding count_in
no_more [] = omega arith
no_more (pair x y ∷ l) = go (eqb x.bits y.bits) (no_more l)
  where
    go : (r : Bool) → length (map finding_number l) ≤ twice_pairs_plus_singles (map finding_number l)
        → suc (length (map finding_number l)) ≤ twice_pairs_plus_singles (cond r 1 2 ∷ map finding_number l)
    go true e = omega arith
    go false e = omega arith
no_more (single1 x ∷ l) = omega (arith, no_more l)
no_more (single2 y ∷ l) = omega (arith, no_more l)

-- zeros behind a list are no pairs and no singles
no_zeros : (k m : ℕ) → eqb 0 k ≡ false → count_in k (replicate m 0) ≡ 0
unfolding count_in
no_zeros k zero e = refl
no_zeros k (suc m) e = simp e (omega (arith, no_zeros k m e))

count_append : (k : ℕ) (l m : List ℕ) → count_in k (l ++ m) ≡ count_in k l + count_in k m
unfolding count_in
count_append k [] m = omega arith
count_append k (n ∷ l) m = omega (arith, count_append k l m)

behind : (l : List ℕ) (m : ℕ) → twice_pairs_plus_singles (l ++ replicate m 0) ≡ twice_pairs_plus_singles l
behind l m =
    omega (
      arith,
      count_append 1 l (replicate m 0),
      count_append 2 l (replicate m 0),
      count_append 3 l (replicate m 0),
      count_append 4 l (replicate m 0),
      no_zeros 1 m refl,
      no_zeros 2 m refl,
      no_zeros 3 m refl,
      no_zeros 4 m refl,
    )

-- ---- a report that is accepted

pub length_log : (s b : List ℕ) → length s ≡ length b → length (entries_of s b) ≡ length s
unfolding entries_of
length_log [] b e = refl
length_log (a ∷ s) [] e = sym e
length_log (a ∷ s) (x ∷ b) e = ap suc (length_log s b (omega arith))

-- a log that is not refused with 14
pub log_fit : (s b : List ℕ) → unfit_log s b ≡ false → (length s ≡ length b) × (length s ≤ 256)
log_fit s b h = go (ltb 256 (length s)) (eqb (length s) (length b)) refl refl h
  where
    go : (p q : Bool) → ltb 256 (length s) ≡ p → eqb (length s) (length b) ≡ q → (p || not q) ≡ false → (length s ≡ length b) × (length s ≤ 256)
    go true q u v w = absurd (false≢true (sym w))
    go false true u v w = (eqb-true _ _ v, ltb-false _ _ u)
    go false false u v w = absurd (false≢true (sym w))

never : {X : Type 0} (f : LogsRefusal) (m : ℕ) → Err f ≡ Ok m → X
never f m e = absurd (cc)

module _ (s₁ b₁ s₂ b₂ : List ℕ) (t n : ℕ) where
  abbrev numbers : List ℕ
  numbers = finding_numbers t (entries_of s₁ b₁) (entries_of s₂ b₂)

  passed : (a b c d : Bool) (p q : ℕ) (r : Report)
      → (cond a (refusal (Unfit 1)) (cond b (refusal (Unfit 2)) (cond c (refusal (NotRising p)) (cond d (refusal (NotRising q)) r)))).answer ≡ Ok n
      → (a ≡ false) × (b ≡ false) × (c ≡ false) × (d ≡ false)
  passed true b c d p q r e = never (Unfit 1) n e
  passed false true c d p q r e = never (Unfit 2) n e
  passed false false true d p q r e = never (NotRising p) n e
  passed false false false true p q r e = never (NotRising q) n e
  passed false false false false p q r e = (refl, refl, refl, refl)

  module _ (e : (report_of s₁ b₁ s₂ b₂ t).answer ≡ Ok n) where
    tests_passed : (unfit_log s₁ b₁ ≡ false) × (unfit_log s₂ b₂ ≡ false) × (ltb (seconds_rise s₁) (length s₁) ≡ false) × (ltb (seconds_rise s₂) (length s₂) ≡ false)
    unfolding report_of
    tests_passed =
        passed (unfit_log s₁ b₁) (unfit_log s₂ b₂) (ltb (seconds_rise s₁) (length s₁)) (ltb (seconds_rise s₂) (length s₂)) (seconds_rise s₁) (256 + seconds_rise s₂) (accepted_logs numbers) e

    is_accepted : report_of s₁ b₁ s₂ b₂ t ≡ accepted_logs numbers
    unfolding report_of
    is_accepted = let h = tests_passed in simp (h.0, h.1, h.2, h.3)

    is_count : n ≡ length numbers
    is_count = let f : ◌≡◌ {A = Result ℕ LogsRefusal} (Ok (length numbers)) (Ok n) = sym (ap (λ (r : Report). r.answer) is_accepted) ∙ e in cc

    -- The count is that of the numbers found, at most 512, and they stand at the start of a table of 512 with 0 behind them.
    pub count_at_most_512 : (n ≡ length numbers) × (n ≤ 512)
    unfolding finding_numbers
    count_at_most_512 = (is_count, omega (arith, is_count, few, entries))
      where
        few : length numbers ≤ twice_pairs_plus_singles numbers
        few = no_more (findings t (entries_of s₁ b₁) (entries_of s₂ b₂))

        entries : twice_pairs_plus_singles numbers ≤ 512
        entries =
            let h = tests_passed in
            let f = log_fit s₁ b₁ h.0 in
            let g = log_fit s₂ b₂ h.1 in
            omega (arith, entries_counted t (entries_of s₁ b₁) (entries_of s₂ b₂), length_log s₁ b₁ f.0, length_log s₂ b₂ g.0)

    -- Twice the pairs plus the singles in the table is the number of entries in both logs.
    pub table_counted : twice_pairs_plus_singles (report_of s₁ b₁ s₂ b₂ t).table ≡ length s₁ + length s₂
    table_counted =
        let h = tests_passed in
        let f = log_fit s₁ b₁ h.0 in
        let g = log_fit s₂ b₂ h.1 in
        ap (λ (r : Report). twice_pairs_plus_singles r.table) is_accepted
        ∙ (behind numbers (512 - length numbers)
        ∙ (entries_counted t (entries_of s₁ b₁) (entries_of s₂ b₂) ∙ ap₂ ◌+◌ (length_log s₁ b₁ f.0) (length_log s₂ b₂ g.0)))

-- ---- the boards exchanged

abbrev pub exchange : Finding → Finding
exchange (pair x y) = pair y x
exchange (single1 x) = single2 x
exchange (single2 y) = single1 y

-- 3 and 4 exchanged
abbrev pub exchanged : ℕ → ℕ
exchanged k = cond (eqb k 3) 4 (cond (eqb k 4) 3 k)

eqb_sym : (a b : ℕ) → eqb a b ≡ eqb b a
eqb_sym a b = go (eqb a b) refl
  where
    go : (p : Bool) → eqb a b ≡ p → eqb a b ≡ eqb b a
    go true e = e ∙ sym (eq-eqb b a (sym (eqb-true a b e)))
    go false e = e ∙ sym (ne_eqb b a (λ f. eqb-false a b e (sym f)))

number_exchanged : (f : Finding) → finding_number (exchange f) ≡ exchanged (finding_number f)
number_exchanged (pair x y) = rw (eqb_sym y.bits x.bits) (go (eqb x.bits y.bits))
  where
    go : (r : Bool) → cond r 1 2 ≡ exchanged (cond r 1 2)
    go true = refl
    go false = refl
number_exchanged (single1 x) = refl
number_exchanged (single2 y) = refl

-- once board 2's log is used up
pub only_first : (t : ℕ) (xs : List Entry) → findings t xs [] ≡ map single1 xs
unfolding findings
only_first t [] = refl
only_first t (x ∷ xs) = refl

-- of two seconds further apart than t, one is the earlier
other_way : (t a b : ℕ) → leb (apart a b) t ≡ false → ltb b a ≡ not (ltb a b)
other_way t a b h = go (ltb a b) refl
  where
    go : (q : Bool) → ltb a b ≡ q → ltb b a ≡ not q
    go true e = le-ltb b a (omega (arith, ltb-true a b e))
    go false e = lt-ltb b a (omega (arith, ltb-false a b e, leb-false (apart a b) t h))

-- Exchanging the boards exchanges each pair's entries and the boards of the singles.
pub boards_exchanged : (t : ℕ) (xs ys : List Entry) → findings t ys xs ≡ map exchange (findings t xs ys)
unfolding findings
boards_exchanged t [] ys = only_first t ys ∙ sym (map-map exchange single2 ys)
boards_exchanged t (x ∷ xs) [] = sym (map-map exchange single1 (x ∷ xs))
boards_exchanged t (x ∷ xs) (y ∷ ys) =
    go (leb (apart x.second y.second) t) refl (ltb x.second y.second) refl
    (boards_exchanged t xs ys) (boards_exchanged t xs (y ∷ ys)) (boards_exchanged t (x ∷ xs) ys)
  where
    go : (p : Bool) → leb (apart x.second y.second) t ≡ p → (q : Bool) → ltb x.second y.second ≡ q
        → findings t ys xs ≡ map exchange (findings t xs ys)
        → findings t (y ∷ ys) xs ≡ map exchange (findings t xs (y ∷ ys))
        → findings t ys (x ∷ xs) ≡ map exchange (findings t (x ∷ xs) ys)
        → cond (leb (apart y.second x.second) t) (pair y x ∷ findings t ys xs)
        (cond (ltb y.second x.second) (single1 y ∷ findings t ys (x ∷ xs)) (single2 x ∷ findings t (y ∷ ys) xs))
        ≡ map exchange (cond p (pair x y ∷ findings t xs ys) (cond q (single1 x ∷ findings t xs (y ∷ ys)) (single2 y ∷ findings t (x ∷ xs) ys)))
    go true e q f a b c = rw (add_comm (y.second - x.second) (x.second - y.second), e) (ap (λ (l : List Finding). pair y x ∷ l) a)
    go false e true f a b c =
        rw (add_comm (y.second - x.second) (x.second - y.second), e, other_way t x.second y.second e, f) (ap (λ (l : List Finding). single2 x ∷ l) b)
    go false e false f a b c =
        rw (add_comm (y.second - x.second) (x.second - y.second), e, other_way t x.second y.second e, f) (ap (λ (l : List Finding). single1 y ∷ l) c)

pub numbers_exchanged : (t : ℕ) (xs ys : List Entry) → finding_numbers t ys xs ≡ map exchanged (finding_numbers t xs ys)
unfolding finding_numbers
numbers_exchanged t xs ys = ap (map finding_number) (boards_exchanged t xs ys) ∙ each (findings t xs ys)
  where
    each : (l : List Finding) → map finding_number (map exchange l) ≡ map exchanged (map finding_number l)
    each [] = refl
    each (f ∷ l) = ap₂ (λ (k : ℕ) (r : List ℕ). k ∷ r) (number_exchanged f) (each l)

zeros_stay : (m : ℕ) → replicate m 0 ≡ map exchanged (replicate m 0)
zeros_stay zero = refl
zeros_stay (suc m) = ap (λ (r : List ℕ). 0 ∷ r) (zeros_stay m)

module _ (s₁ b₁ s₂ b₂ : List ℕ) (t n : ℕ) (e : (report_of s₁ b₁ s₂ b₂ t).answer ≡ Ok n) where
  abbrev N : List ℕ
  N = finding_numbers t (entries_of s₁ b₁) (entries_of s₂ b₂)

  abbrev M : List ℕ
  M = finding_numbers t (entries_of s₂ b₂) (entries_of s₁ b₁)

  accepted_too : report_of s₂ b₂ s₁ b₁ t ≡ accepted_logs M
  unfolding report_of
  accepted_too = let h = tests_passed s₁ b₁ s₂ b₂ t n e in simp (h.0, h.1, h.2, h.3)

  swapped : M ≡ map exchanged N
  swapped = numbers_exchanged t (entries_of s₁ b₁) (entries_of s₂ b₂)

  as_many : length M ≡ length N
  as_many = ap length swapped ∙ length-map N exchanged

  table_swapped : M ++ replicate (512 - length M) 0 ≡ map exchanged (N ++ replicate (512 - length N) 0)
  table_swapped =
      ap₂ (λ (l : List ℕ) (k : ℕ). l ++ replicate (512 - k) 0) swapped as_many
      ∙ (ap (λ (l : List ℕ). map exchanged N ++ l) (zeros_stay (512 - length N)) ∙ sym (map-append exchanged N (replicate (512 - length N) 0)))

  -- Exchanging the boards of an accepted call keeps the count, exchanges 3 and 4 in the table and keeps 1 and 2.
  pub report_exchanged : report_of s₂ b₂ s₁ b₁ t ≡ record { answer = Ok n; table = map exchanged (report_of s₁ b₁ s₂ b₂ t).table }
  report_exchanged =
      accepted_too
      ∙ ap₂ (λ (k : ℕ) (l : List ℕ). record { answer = Ok k; table = l })
      (as_many ∙ sym (is_count s₁ b₁ s₂ b₂ t n e))
      (table_swapped ∙ sym (ap (λ (r : Report). map exchanged r.table) (is_accepted s₁ b₁ s₂ b₂ t n e)))

-- ---- the tolerance

-- a pair that is no further apart than t
unfoldable WithinTolerance : ℕ → Finding → Type 0
WithinTolerance t (pair x y) = apart x.second y.second ≤ t
WithinTolerance t (single1 x) = Unit
WithinTolerance t (single2 y) = Unit

near_singles1 : (t : ℕ) (xs : List Entry) (f : Finding) → Memᴰ f (map single1 xs) → WithinTolerance t f
unfolding WithinTolerance
near_singles1 t [] f m = absurd (Memᴰ.not-nil m)
near_singles1 t (x ∷ xs) f m = ⊎_elim (λ e. subst (WithinTolerance t) (sym e) tt) (λ r. near_singles1 t xs f r) (Memᴰ.cases_cons m)

near_singles2 : (t : ℕ) (ys : List Entry) (f : Finding) → Memᴰ f (map single2 ys) → WithinTolerance t f
unfolding WithinTolerance
near_singles2 t [] f m = absurd (Memᴰ.not-nil m)
near_singles2 t (y ∷ ys) f m = ⊎_elim (λ e. subst (WithinTolerance t) (sym e) tt) (λ r. near_singles2 t ys f r) (Memᴰ.cases_cons m)

all_near : (t : ℕ) (xs ys : List Entry) (f : Finding) → Memᴰ f (findings t xs ys) → WithinTolerance t f
unfolding findings WithinTolerance
all_near t [] ys f m = near_singles2 t ys f m
all_near t (x ∷ xs) [] f m = near_singles1 t (x ∷ xs) f m
all_near t (x ∷ xs) (y ∷ ys) f m =
    go (leb (apart x.second y.second) t) refl (ltb x.second y.second) (all_near t xs ys f) (all_near t xs (y ∷ ys) f) (all_near t (x ∷ xs) ys f) m
  where
    go : (p : Bool) → leb (apart x.second y.second) t ≡ p → (q : Bool)
        → (Memᴰ f (findings t xs ys) → WithinTolerance t f)
        → (Memᴰ f (findings t xs (y ∷ ys)) → WithinTolerance t f)
        → (Memᴰ f (findings t (x ∷ xs) ys) → WithinTolerance t f)
        → Memᴰ f (cond p (pair x y ∷ findings t xs ys) (cond q (single1 x ∷ findings t xs (y ∷ ys)) (single2 y ∷ findings t (x ∷ xs) ys)))
        → WithinTolerance t f
    go true e q a b c m = ⊎_elim (λ i. subst (WithinTolerance t) (sym i) (leb-true (apart x.second y.second) t e)) a (Memᴰ.cases_cons m)
    go false e true a b c m = ⊎_elim (λ i. subst (WithinTolerance t) (sym i) tt) b (Memᴰ.cases_cons m)
    go false e false a b c m = ⊎_elim (λ i. subst (WithinTolerance t) (sym i) tt) c (Memᴰ.cases_cons m)

-- The entries of a pair are no further apart than the tolerance.
pub pairs_near : (t : ℕ) (xs ys : List Entry) (x y : Entry) → Memᴰ (pair x y) (findings t xs ys) → apart x.second y.second ≤ t
unfolding WithinTolerance
pairs_near t xs ys x y m = all_near t xs ys (pair x y) m

-- With the tolerance 0 only equal seconds pair.
pub tolerance_0 : (xs ys : List Entry) (x y : Entry) → Memᴰ (pair x y) (findings 0 xs ys) → x.second ≡ y.second
tolerance_0 xs ys x y m = omega (arith, pairs_near 0 xs ys x y m)

-- ---- the place of 15

-- the same with i seconds passed, the last of them a
seconds_rise_from_lem : (i a : ℕ) (s : List ℕ) → (i ≤ seconds_rise_from i a s) × (seconds_rise_from i a s ≤ i + length s)
    × ((k : ℕ) → i + k < seconds_rise_from i a s → get_or (a ∷ s) k 0 < get_or s k 0)
    × ((k : ℕ) → seconds_rise_from i a s ≡ i + k → k < length s → get_or s k 0 ≤ get_or (a ∷ s) k 0)
unfolding seconds_rise_from
seconds_rise_from_lem i a [] = (omega arith, omega arith, λ k h. absurd (none k h), λ k e h. absurd (none' k h))
  where
    none : (k : ℕ) → i + k < i → ⊥
    none k h = omega arith

    none' : (k : ℕ) → k < 0 → ⊥
    none' k h = omega arith
seconds_rise_from_lem i a (b ∷ s) = go (ltb a b) refl (seconds_rise_from_lem (i + 1) b s)
  where
    go : (p : Bool) → ltb a b ≡ p
        → (i + 1 ≤ seconds_rise_from (i + 1) b s) × (seconds_rise_from (i + 1) b s ≤ i + 1 + length s)
        × ((k : ℕ) → i + 1 + k < seconds_rise_from (i + 1) b s → get_or (b ∷ s) k 0 < get_or s k 0)
        × ((k : ℕ) → seconds_rise_from (i + 1) b s ≡ i + 1 + k → k < length s → get_or s k 0 ≤ get_or (b ∷ s) k 0)
        → (i ≤ cond p (seconds_rise_from (i + 1) b s) i) × (cond p (seconds_rise_from (i + 1) b s) i ≤ i + suc (length s))
        × ((k : ℕ) → i + k < cond p (seconds_rise_from (i + 1) b s) i → get_or (a ∷ b ∷ s) k 0 < get_or (b ∷ s) k 0)
        × ((k : ℕ) → cond p (seconds_rise_from (i + 1) b s) i ≡ i + k → k < suc (length s) → get_or (b ∷ s) k 0 ≤ get_or (a ∷ b ∷ s) k 0)
    go true e r = (omega (arith, r.0), omega (arith, r.1), up, down)
      where
        up : (k : ℕ) → i + k < seconds_rise_from (i + 1) b s → get_or (a ∷ b ∷ s) k 0 < get_or (b ∷ s) k 0
        up zero h = ltb-true a b e
        up (suc k) h = r.2 k (omega arith)

        down : (k : ℕ) → seconds_rise_from (i + 1) b s ≡ i + k → k < suc (length s) → get_or (b ∷ s) k 0 ≤ get_or (a ∷ b ∷ s) k 0
        down zero f h = absurd (no r.0 f)
          where
            no : i + 1 ≤ seconds_rise_from (i + 1) b s → seconds_rise_from (i + 1) b s ≡ i + 0 → ⊥
            no g f' = omega arith
        down (suc k) f h = r.3 k (omega arith) (omega arith)
    go false e r = (omega arith, omega arith, up, down)
      where
        up : (k : ℕ) → i + k < i → get_or (a ∷ b ∷ s) k 0 < get_or (b ∷ s) k 0
        up k h = absurd (no h)
          where
            no : i + k < i → ⊥
            no g = omega arith

        down : (k : ℕ) → i ≡ i + k → k < suc (length s) → get_or (b ∷ s) k 0 ≤ get_or (a ∷ b ∷ s) k 0
        down zero f h = ltb-false a b e
        down (suc k) f h = absurd (no f)
          where
            no : i ≡ i + suc k → ⊥
            no g = omega arith

-- 15's place: it is a later entry's or the number of entries; the seconds before it rise strictly; where it is an entry's, that entry is not
-- above the one before it.
pub seconds_first_fall : (s : List ℕ) → (seconds_rise s ≤ length s)
    × (0 < length s → 0 < seconds_rise s)
    × ((k : ℕ) → suc k < seconds_rise s → get_or s k 0 < get_or s (suc k) 0)
    × ((k : ℕ) → seconds_rise s ≡ suc k → suc k < length s → get_or s (suc k) 0 ≤ get_or s k 0)
seconds_first_fall [] = (omega arith, λ h. h, λ k h. absurd (none k h), λ k e h. absurd (none k h))
  where
    none : (k : ℕ) → suc k < 0 → ⊥
    none k h = omega arith
seconds_first_fall (a ∷ s) =
    let r = seconds_rise_from_lem 1 a s in
    (omega (arith, r.1), λ h. r.0, λ k h. r.2 k (omega arith), λ k e h. r.3 k (omega arith) (omega arith))
