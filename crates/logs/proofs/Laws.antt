-- The logs met entry by entry, the table filled number by number, and the outcomes of the call.
use mathlib.Core.Path.{◌≡◌, refl, sym, ap, ap₂, ◌∙◌}
use mathlib.Core.Bool.{Bool, true, false, cond, ◌||◌, false≢true}
use mathlib.Core.List.{List, [], ◌∷◌, ◌++◌, map, append-nil}
use Prim.Native.Nat.{ℕ, zero, suc, ◌+◌, ◌-◌, ◌<◌, ◌≤◌}
use native.Mathlib.Numerals.{add-one}
use native.Mathlib.Omega.{arith}
use borrow.Author.Tests.{lt-ltb, le-ltb, le-leb, lt-leb, eq-eqb, ne_eqb, ltb-true, ltb-false}
use lib.Dec.{leb, ltb, eqb}
use lib.ListN.{length, take, drop, get_or, set, replicate, drop_of_length-le, length-drop, take-append-drop}
use lib.Seq.{take-suc-set, append_snoc, drop-set-lt, drop-drop, drop-cons, drop-length, length-take-le}
use Rattle.logs.specs.declared.Report.{Report}
use Rattle.std.proofs.Common.{Result, Ok, Err, is_ok}
use Rattle.logs.specs.declared.LogsRefusal.{LogsRefusal}
use Rattle.logs.specs.declared.LogsRefusal.TheVariants.{Unfit, NotRising, ReportLength}
use Rattle.logs.specs.declared.FindingKind.{FindingKind}
use Rattle.logs.specs.declared.FindingKind.TheVariants.{EqualPair, UnequalPair, Single1, Single2}
use Rattle.logs.specs.Logs.{Entry, entries_of, Finding, pair, single1, single2, apart, findings, finding_number, finding_numbers, unfit_log, seconds_rise_from, seconds_rise, accepted_logs, refusal, report_of}
use Rattle.logs.specs.Lent.{lent_answer, lent_after}
use Rattle.logs.proofs.Theorems.{length_log, only_first}
use Rattle.logs.specs.Steps.{kind_number, meet_of, front_of, taken1, taken2}

-- ---- the fronts

module _ (t a x b y : ℕ) where
  pub agree : apart a b ≤ t → x ≡ y → EqualPair ≡ meet_of t a x b y
  unfolding meet_of
  agree h e = simp (le-leb _ _ h, eq-eqb _ _ e)

  pub differ : apart a b ≤ t → (x ≡ y → ⊥) → UnequalPair ≡ meet_of t a x b y
  unfolding meet_of
  differ h e = simp (le-leb _ _ h, ne_eqb _ _ e)

  pub earlier : t < apart a b → a < b → Single1 ≡ meet_of t a x b y
  unfolding meet_of
  earlier h e = simp (lt-leb _ _ h, lt-ltb _ _ e)

  pub later : t < apart a b → b ≤ a → Single2 ≡ meet_of t a x b y
  unfolding meet_of
  later h e = simp (lt-leb _ _ h, le-ltb _ _ e)

pub used_up : (s b : List ℕ) (i : ℕ) → length s ≡ length b → length s ≤ i → drop i (entries_of s b) ≡ []
used_up s b i e h = drop_of_length-le (entries_of s b) {i = i} (omega (arith, length_log s b e))

pub entry_at : (s b : List ℕ) (i : ℕ) → length s ≡ length b → i < length s
    → drop i (entries_of s b) ≡ record { second = get_or s i 0; bits = get_or b i 0 } ∷ drop (suc i) (entries_of s b)
unfolding entries_of
entry_at [] b i e h = absurd (none h)
  where
    none : i < 0 → ⊥
    none g = omega arith
entry_at (a ∷ s) [] i e h = absurd (none e)
  where
    none : suc (length s) ≡ 0 → ⊥
    none g = omega arith
entry_at (a ∷ s) (x ∷ b) zero e h = refl
entry_at (a ∷ s) (x ∷ b) (suc i) e h = entry_at s b i (omega arith) (omega arith)

none_of_second : (t : ℕ) (xs : List Entry) → Single1 ≡ front_of t xs []
unfolding front_of
none_of_second t [] = refl
none_of_second t (x ∷ xs) = refl

module _ (s₁ b₁ s₂ b₂ : List ℕ) (e : length s₁ ≡ length b₁) (f : length s₂ ≡ length b₂) (t i j : ℕ) where
  pub no_second : length s₂ ≤ j → Single1 ≡ front_of t (drop i (entries_of s₁ b₁)) (drop j (entries_of s₂ b₂))
  no_second h = rw (used_up s₂ b₂ j f h) (none_of_second t (drop i (entries_of s₁ b₁)))

  pub no_first : j < length s₂ → length s₁ ≤ i → Single2 ≡ front_of t (drop i (entries_of s₁ b₁)) (drop j (entries_of s₂ b₂))
  unfolding front_of
  no_first g h = rw (used_up s₁ b₁ i e h, entry_at s₂ b₂ j f g)

  pub two_fronts : j < length s₂ → i < length s₁ → (k : FindingKind) → k ≡ meet_of t (get_or s₁ i 0) (get_or b₁ i 0) (get_or s₂ j 0) (get_or b₂ j 0)
      → k ≡ front_of t (drop i (entries_of s₁ b₁)) (drop j (entries_of s₂ b₂))
  unfolding front_of
  two_fronts g h k p = rw (entry_at s₁ b₁ i e h, entry_at s₂ b₂ j f g) p

-- ---- a turn

-- the first number, and those of what it leaves of the logs
module _ (t : ℕ) where
  abbrev rest : FindingKind → List Entry → List Entry → List ℕ
  rest k xs ys = finding_numbers t (drop (taken1 k) xs) (drop (taken2 k) ys)

  two : (x y : Entry) (xs ys : List Entry) (p q r : Bool) → eqb x.bits y.bits ≡ r
      → map finding_number (cond p (pair x y ∷ findings t xs ys) (cond q (single1 x ∷ findings t xs (y ∷ ys)) (single2 y ∷ findings t (x ∷ xs) ys)))
      ≡ kind_number (cond p (cond r EqualPair UnequalPair) (cond q Single1 Single2)) ∷ rest (cond p (cond r EqualPair UnequalPair) (cond q Single1 Single2)) (x ∷ xs) (y ∷ ys)
  unfolding finding_numbers
  two x y xs ys true q true e = ap (λ (b : Bool). cond b 1 2 ∷ map finding_number (findings t xs ys)) e
  two x y xs ys true q false e = ap (λ (b : Bool). cond b 1 2 ∷ map finding_number (findings t xs ys)) e
  two x y xs ys false true r e = refl
  two x y xs ys false false r e = refl

  first_number : (xs ys : List Entry) → 1 ≤ length xs + length ys → finding_numbers t xs ys ≡ kind_number (front_of t xs ys) ∷ rest (front_of t xs ys) xs ys
  unfolding finding_numbers findings front_of meet_of
  first_number [] [] h = absurd (none h)
    where
      none : 1 ≤ 0 → ⊥
      none g = omega arith
  first_number [] (y ∷ ys) h = refl
  first_number (x ∷ xs) [] h = ap (λ (l : List Finding). 3 ∷ map finding_number l) (sym (only_first t xs))
  first_number (x ∷ xs) (y ∷ ys) h =
      two x y xs ys (leb (apart x.second y.second) t) (ltb x.second y.second) (eqb x.bits y.bits) refl

  -- it takes no more than there is
  at_most : (k : FindingKind) → (taken1 k ≤ 1) × (taken2 k ≤ 1)
  at_most EqualPair = (omega arith, omega arith)
  at_most UnequalPair = (omega arith, omega arith)
  at_most Single1 = (omega arith, omega arith)
  at_most Single2 = (omega arith, omega arith)

  within_first : (xs ys : List Entry) → 1 ≤ length xs + length ys → taken1 (front_of t xs ys) ≤ length xs
  unfolding front_of
  within_first [] [] h = absurd (none h)
    where
      none : 1 ≤ 0 → ⊥
      none g = omega arith
  within_first [] (y ∷ ys) h = omega arith
  within_first (x ∷ xs) ys h = omega (arith, (at_most (front_of t (x ∷ xs) ys)).0)

  within_second : (xs ys : List Entry) → 1 ≤ length xs + length ys → taken2 (front_of t xs ys) ≤ length ys
  unfolding front_of
  within_second [] [] h = absurd (none h)
    where
      none : 1 ≤ 0 → ⊥
      none g = omega arith
  within_second (x ∷ xs) [] h = omega arith
  within_second xs (y ∷ ys) h = omega (arith, (at_most (front_of t xs (y ∷ ys))).1)

-- a finding takes an entry of one log at least
some_taken : (k : FindingKind) → 1 ≤ taken1 k + taken2 k
some_taken EqualPair = omega arith
some_taken UnequalPair = omega arith
some_taken Single1 = omega arith
some_taken Single2 = omega arith

drop_zeros : (m : ℕ) → drop 1 (replicate {A = ℕ} m 0) ≡ replicate (m - 1) 0
drop_zeros zero = refl
drop_zeros (suc m) = let e : m ≡ suc m - 1 = omega arith in ap (λ (n : ℕ). replicate n 0) e

-- the first n numbers are in the table, zeros behind them, and the logs from i and from j on give the others
abbrev pub Filled : ℕ → List Entry → List Entry → List ℕ → ℕ → ℕ → ℕ → Type 0
Filled t xs ys table n i j =
    (take n table ++ finding_numbers t (drop i xs) (drop j ys) ≡ finding_numbers t xs ys) × (drop n table ≡ replicate (512 - n) 0)

-- the loop's test: an entry is left, or both logs are used up
module _ (i j m n : ℕ) (v : Bool) (r : v ≡ (ltb i m || ltb j n)) where
  pub left_over : i ≤ m → j ≤ n → v ≡ true → i + j < m + n
  left_over g h e = go (ltb i m) (ltb j n) refl refl (sym r ∙ e)
    where
      go : (p q : Bool) → ltb i m ≡ p → ltb j n ≡ q → (p || q) ≡ true → i + j < m + n
      go true q u v w = omega (arith, ltb-true i m u)
      go false true u v w = omega (arith, ltb-true j n v)
      go false false u v w = absurd (false≢true w)

  pub both_used_up : v ≡ false → (m ≤ i) × (n ≤ j)
  both_used_up e = go (ltb i m) (ltb j n) refl refl (sym r ∙ e)
    where
      go : (p q : Bool) → ltb i m ≡ p → ltb j n ≡ q → (p || q) ≡ false → (m ≤ i) × (n ≤ j)
      go true q u v w = absurd (false≢true (sym w))
      go false true u v w = absurd (false≢true (sym w))
      go false false u v w = (ltb-false i m u, ltb-false j n v)

module _ (s₁ b₁ s₂ b₂ : List ℕ) (e : length s₁ ≡ length b₁) (f : length s₂ ≡ length b₂) (t i j : ℕ) where
  entries_left : i ≤ length s₁ → j ≤ length s₂ → i + j < length s₁ + length s₂
      → 1 ≤ length (drop i (entries_of s₁ b₁)) + length (drop j (entries_of s₂ b₂))
  entries_left g h w = simp length-drop (omega (arith, length_log s₁ b₁ e, length_log s₂ b₂ f))

  module _ (g : i ≤ length s₁) (h : j ≤ length s₂) (w : i + j < length s₁ + length s₂) (k : FindingKind) (p q : ℕ)
      (u : k ≡ front_of t (drop i (entries_of s₁ b₁)) (drop j (entries_of s₂ b₂))) (c : p ≡ taken1 k) (d : q ≡ taken2 k) where
    pub first_fits : i + p ≤ length s₁
    first_fits =
        let m : taken1 k ≤ length (drop i (entries_of s₁ b₁)) = rw u (within_first t (drop i (entries_of s₁ b₁)) (drop j (entries_of s₂ b₂)) (entries_left g h w)) in
        omega (arith, length-drop i (entries_of s₁ b₁), length_log s₁ b₁ e)

    pub second_fits : j + q ≤ length s₂
    second_fits =
        let m : taken2 k ≤ length (drop j (entries_of s₂ b₂)) = rw u (within_second t (drop i (entries_of s₁ b₁)) (drop j (entries_of s₂ b₂)) (entries_left g h w)) in
        omega (arith, length-drop j (entries_of s₂ b₂), length_log s₂ b₂ f)

    pub some_entry : 1 ≤ p + q
    some_entry = omega (arith, some_taken k)

    pub turn : (n m : ℕ) (table : List ℕ) → m ≡ kind_number k → n < 512 → length table ≡ 512
        → Filled t (entries_of s₁ b₁) (entries_of s₂ b₂) table n i j
        → Filled t (entries_of s₁ b₁) (entries_of s₂ b₂) (set table n m) (n + 1) (i + p) (j + q)
    turn n m table z o l r = (
      rw (z, add-one, take-suc-set table n (kind_number k) (omega arith), append_snoc, c, d, ← drop-drop (taken1 k) i (entries_of s₁ b₁), ← drop-drop (taken2 k) j (entries_of s₂ b₂), u, ← first_number t (drop i (entries_of s₁ b₁)) (drop j (entries_of s₂ b₂)) (entries_left g h w)) r.0,
      rw add-one (drop-set-lt (suc n) table n m (omega arith)) ∙ zeros,
    )
      where
        fewer : 512 - n - 1 ≡ 512 - (n + 1)
        fewer = omega arith

        zeros : drop (suc n) table ≡ replicate (512 - (n + 1)) 0
        zeros =
            rw (← add-one n, ← drop-drop 1 n table, r.1, drop_zeros) (ap (λ (z : ℕ). replicate z 0) fewer)

-- nothing is left
pub filled : (s₁ b₁ s₂ b₂ : List ℕ) → length s₁ ≡ length b₁ → length s₂ ≡ length b₂ → (t i j n : ℕ) (table : List ℕ) → n ≤ 512 → length table ≡ 512
    → length s₁ ≤ i → length s₂ ≤ j
    → Filled t (entries_of s₁ b₁) (entries_of s₂ b₂) table n i j
    → record { answer = Ok n; table = table } ≡ accepted_logs (finding_numbers t (entries_of s₁ b₁) (entries_of s₂ b₂))
unfolding finding_numbers findings
filled s₁ b₁ s₂ b₂ e f t i j n table m l g h r =
    let N = finding_numbers t (entries_of s₁ b₁) (entries_of s₂ b₂) in
    let whole : take n table ≡ N = sym (append-nil (take n table)) ∙ (rw (used_up s₁ b₁ i e g, used_up s₂ b₂ j f h) at r.0) in
    let count : n ≡ length N = sym (length-take-le n table (omega arith)) ∙ ap length whole in
    let both : table ≡ N ++ replicate (512 - length N) 0 =
    sym (take-append-drop n table) ∙ ap₂ (λ (a z : List ℕ). a ++ z) whole (r.1 ∙ ap (λ (k : ℕ). replicate (512 - k) 0) count) in
    ap₂ (λ (k : ℕ) (l : List ℕ). record { answer = Ok k; table = l }) count both

-- ---- rising seconds

pub begins : (s : List ℕ) → (length s ≡ 0 → ⊥) → seconds_rise_from 1 (get_or s 0 0) (drop 1 s) ≡ seconds_rise s
begins [] h = absurd (h refl)
begins (a ∷ s) h = refl

pub none_there : (s : List ℕ) → length s ≡ 0 → 0 ≡ seconds_rise s
none_there [] h = refl
none_there (a ∷ s) h = absurd (none h)
  where
    none : suc (length s) ≡ 0 → ⊥
    none g = omega arith

module _ (s : List ℕ) (last i : ℕ) where
  pub falls_here : i < length s → get_or s i 0 ≤ last → i ≡ seconds_rise_from i last (drop i s)
  unfolding seconds_rise_from
  falls_here h g = rw (drop-cons s i 0 h) (simp (le-ltb _ _ g))

  pub rises_here : i < length s → last < get_or s i 0 → seconds_rise_from (i + 1) (get_or s i 0) (drop (i + 1) s) ≡ seconds_rise_from i last (drop i s)
  unfolding seconds_rise_from
  rises_here h g = rw (drop-cons s i 0 h, add-one) (simp (lt-ltb _ _ g))

  pub all_rise : i ≡ length s → i ≡ seconds_rise_from i last (drop i s)
  unfolding seconds_rise_from
  all_rise h = rw (h, drop-length s)

-- ---- the call

module _ (s₁ b₁ s₂ b₂ : List ℕ) (t : ℕ) where
  pub unfit_first : unfit_log s₁ b₁ ≡ true → refusal (Unfit 1) ≡ report_of s₁ b₁ s₂ b₂ t
  unfolding report_of
  unfit_first e = simp e

  module _ (e : unfit_log s₁ b₁ ≡ false) where
    pub unfit_second : unfit_log s₂ b₂ ≡ true → refusal (Unfit 2) ≡ report_of s₁ b₁ s₂ b₂ t
    unfolding report_of
    unfit_second f = simp (e, f)

    module _ (f : unfit_log s₂ b₂ ≡ false) (p : ℕ) (i : p ≡ seconds_rise s₁) where
      pub first_falls : p < length s₁ → refusal (NotRising p) ≡ report_of s₁ b₁ s₂ b₂ t
      unfolding report_of
      first_falls g = let w : seconds_rise s₁ < length s₁ = rw i at g in rw i (simp (e, f, lt-ltb _ _ w))

      module _ (g : length s₁ ≤ p) (q : ℕ) (j : q ≡ seconds_rise s₂) where
        pub second_falls : q < length s₂ → refusal (NotRising (256 + q)) ≡ report_of s₁ b₁ s₂ b₂ t
        unfolding report_of
        second_falls h =
            let v : length s₁ ≤ seconds_rise s₁ = rw i at g in
            let w : seconds_rise s₂ < length s₂ = rw j at h in
            rw j (simp (e, f, le-ltb _ _ v, lt-ltb _ _ w))

        pub both_fit : length s₂ ≤ q → (r : Report) → r ≡ accepted_logs (finding_numbers t (entries_of s₁ b₁) (entries_of s₂ b₂)) → r ≡ report_of s₁ b₁ s₂ b₂ t
        unfolding report_of
        both_fit h r z =
            let v : length s₁ ≤ seconds_rise s₁ = rw i at g in
            let w : length s₂ ≤ seconds_rise s₂ = rw j at h in
            z ∙ simp (e, f, le-ltb _ _ v, le-ltb _ _ w)

-- ---- a lent slice

module _ (s₁ b₁ s₂ b₂ : List ℕ) (t : ℕ) (xs : List ℕ) where
  pub no_room : (length xs ≡ 512 → ⊥) → (Err (ReportLength 512) ≡ lent_answer s₁ b₁ s₂ b₂ t (length xs)) × (xs ≡ lent_after s₁ b₁ s₂ b₂ t xs)
  unfolding lent_answer lent_after
  no_room h = (simp (ne_eqb _ _ h), simp (ne_eqb _ _ h))

  module _ (h : length xs ≡ 512) (r : Report) (e : r ≡ report_of s₁ b₁ s₂ b₂ t) where
    answers : r.answer ≡ lent_answer s₁ b₁ s₂ b₂ t (length xs)
    unfolding lent_answer
    answers = simp (eq-eqb _ _ h, ← e)

    after : (a : Result ℕ LogsRefusal) → r.answer ≡ a → lent_after s₁ b₁ s₂ b₂ t xs ≡ cond (is_ok a) r.table xs
    unfolding lent_after
    after a f = simp (← answers, ← e, f)

    pub kept : (f : LogsRefusal) (a : Result ℕ LogsRefusal) → r.answer ≡ Err f → a ≡ Err f → (a ≡ lent_answer s₁ b₁ s₂ b₂ t (length xs)) × (xs ≡ lent_after s₁ b₁ s₂ b₂ t xs)
    kept f a g i = (i ∙ sym g ∙ answers, sym (after (Err f) g))

    pub written : (n : ℕ) → r.answer ≡ Ok n → (ys : List ℕ) → ys ≡ r.table
        → (Ok n ≡ lent_answer s₁ b₁ s₂ b₂ t (length xs)) × (ys ≡ lent_after s₁ b₁ s₂ b₂ t xs)
    written n g ys w = (sym g ∙ answers, w ∙ sym (after (Ok n) g))
