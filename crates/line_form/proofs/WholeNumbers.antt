-- A whole number's text is read as that number, and what is read as a number is its text.
use mathlib.Core.Path.{◌≡◌, refl, sym, ap, ◌∙◌}
use mathlib.Core.Bool.{Bool, true, false, cond, ◌&&◌}
use mathlib.Core.List.{List, [], ◌∷◌, ◌++◌, append-nil}
use Prim.Native.Nat.{ℕ, zero, suc, ◌+◌, ◌-◌, ◌*◌, ◌^◌, ◌/◌, ◌%◌, ◌<◌, ◌≤◌, zero-le}
use native.Mathlib.Omega.{arith}
use native.Mathlib.Nat.{pow-suc, le_refl}
use borrow.Author.Tests.{lt-ltb, ltb-true, ltb-false, le-leb, lt-leb, leb-true, ne_eqb, eqb-false}
use lib.Dec.{ltb, leb, eqb}
use lib.IntN.{ℤ, pos, negsuc}
use lib.ListN.{length, get_or, length-append}
use lib.Seq.{append_snoc}
use Rattle.line_text.proofs.Choice.{cond_true, cond_false}
use Rattle.line_text.specs.Text.{decimal_text}
use Rattle.line_text.proofs.DecimalDigits.{decimal_one, decimal_more}
use Rattle.std.proofs.Common.{Option, None, Some}
use Rattle.line_form.specs.declared.WholeNumber.{WholeNumber}
use Rattle.line_form.specs.Grammar.{here_of, starts_of, digit_of, more_of, with_sign, positive_of, read_number}
use Rattle.line_form.specs.Forms.{number_text, Nine}
use Rattle.line_form.proofs.Laws.{room_less, room_next}
use Rattle.line_form.proofs.Bytes.{and_first, and_second, and_both, here_below, here_byte, here_is, here_other}

-- ---- digits

mid_false : (x y z : Bool) → y ≡ false → (x && (y && z)) ≡ false
mid_false true y z h = rw h
mid_false false y z h = refl

module _ (s : List ℕ) (k : ℕ) where
  -- the byte of a digit
  pub digit_here : (d : ℕ) → digit_of s k ≡ Some d → (d ≤ 9) × (here_of s k (48 + d) ≡ true)
  unfolding digit_of
  digit_here d h = by _ refl h
    where
      by : (b : Bool) → (ltb k (length s) && (leb 48 (get_or s k 0) && leb (get_or s k 0) 57)) ≡ b → cond b (Some (get_or s k 0 - 48)) None ≡ Some d
          → (d ≤ 9) × (here_of s k (48 + d) ≡ true)
      by true e g =
          let f : get_or s k 0 - 48 ≡ d = cc in
          let l : 48 ≤ get_or s k 0 = leb-true _ _ (and_first _ (leb (get_or s k 0) 57) (and_second (ltb k (length s)) _ e)) in
          let u : get_or s k 0 ≤ 57 = leb-true _ _ (and_second (leb 48 (get_or s k 0)) _ (and_second (ltb k (length s)) _ e)) in
          (omega arith, here_is s k (48 + d) (ltb-true _ _ (and_first _ (leb 48 (get_or s k 0) && leb (get_or s k 0) 57) e)) (omega arith))
      by false e g = absurd (cc)

  pub digit_is : (d : ℕ) → d ≤ 9 → here_of s k (48 + d) ≡ true → digit_of s k ≡ Some d
  unfolding digit_of
  digit_is d g h =
      let e : get_or s k 0 ≡ 48 + d = here_byte s k (48 + d) h in
      let t : (ltb k (length s) && (leb 48 (get_or s k 0) && leb (get_or s k 0) 57)) ≡ true =
      and_both _ _ (lt-ltb _ _ (here_below s k (48 + d) h)) (and_both _ _ (le-leb 48 (get_or s k 0) (omega arith)) (le-leb (get_or s k 0) 57 (omega arith))) in
      let f : get_or s k 0 - 48 ≡ d = omega arith in
      sym (cond_true _ _ _ t) ∙ ap (λ (x : ℕ). Some x) f

  -- a byte before the digits is none
  pub no_digit : (c : ℕ) → c < 48 → here_of s k c ≡ true → digit_of s k ≡ None
  unfolding digit_of
  no_digit c g h =
      let e : get_or s k 0 ≡ c = here_byte s k c h in
      let t : leb 48 (get_or s k 0) ≡ false = lt-leb 48 (get_or s k 0) (omega arith) in
      sym (cond_false _ (Some (get_or s k 0 - 48)) None (mid_false (ltb k (length s)) (leb 48 (get_or s k 0)) (leb (get_or s k 0) 57) t))

-- digits as numbers below ten, their bytes, and the number that they make after v

AllDigits : List ℕ → Type 0
AllDigits [] = Unit {0}
AllDigits (d ∷ ds) = (d ≤ 9) × AllDigits ds

bytes_of : List ℕ → List ℕ
bytes_of [] = []
bytes_of (d ∷ ds) = (48 + d) ∷ bytes_of ds

value_of : ℕ → List ℕ → ℕ
value_of v [] = v
value_of v (d ∷ ds) = value_of (10 * v + d) ds

length_bytes : (ds : List ℕ) → length (bytes_of ds) ≡ length ds
unfolding bytes_of
length_bytes [] = refl
length_bytes (d ∷ ds) = ap suc (length_bytes ds)

bytes_snoc : (ds : List ℕ) (d : ℕ) → bytes_of (ds ++ (d ∷ [])) ≡ bytes_of ds ++ ((48 + d) ∷ [])
unfolding bytes_of
bytes_snoc [] d = refl
bytes_snoc (e ∷ ds) d = ap (λ (t : List ℕ). (48 + e) ∷ t) (bytes_snoc ds d)

value_snoc : (v : ℕ) (ds : List ℕ) (d : ℕ) → value_of v (ds ++ (d ∷ [])) ≡ 10 * value_of v ds + d
unfolding value_of
value_snoc v [] d = refl
value_snoc v (e ∷ ds) d = value_snoc (10 * v + e) ds d

digits_snoc : (ds : List ℕ) (d : ℕ) → AllDigits ds → d ≤ 9 → AllDigits (ds ++ (d ∷ []))
unfolding AllDigits
digits_snoc [] d a h = (h, tt)
digits_snoc (e ∷ ds) d a h = (a.0, digits_snoc ds d a.1 h)

value_positive : (v : ℕ) (ds : List ℕ) → 0 < v → 0 < value_of v ds
unfolding value_of
value_positive v [] h = h
value_positive v (d ∷ ds) h = value_positive (10 * v + d) ds (omega arith)

-- digits after a number make a number whose text ends with them
spelled : (v : ℕ) (ds : List ℕ) → 0 < v → AllDigits ds → decimal_text (value_of v ds) ≡ decimal_text v ++ bytes_of ds
unfolding value_of bytes_of AllDigits
spelled v [] g a = sym (append-nil (decimal_text v))
spelled v (d ∷ ds) g a =
    spelled (10 * v + d) ds (omega arith) a.1
    ∙ (ap (λ (t : List ℕ). t ++ bytes_of ds) (decimal_more v d g a.0) ∙ append_snoc (decimal_text v) (48 + d) (bytes_of ds))

-- a number's first digit, which is not 0, and the others
record Spelled (n : ℕ) : Type 0 where
  first : ℕ
  others : List ℕ
  positive : 0 < first
  small : first ≤ 9
  digits : AllDigits others
  text : decimal_text n ≡ (48 + first) ∷ bytes_of others
  value : value_of first others ≡ n
  few : (j : ℕ) → n < 10 ^ suc j → length others ≤ j

spell_more : (n : ℕ) → 10 ≤ n → Spelled (n / 10) → Spelled n
unfolding bytes_of
spell_more n g f =
    let d : ℕ = n % 10 in
    let h : d ≤ 9 = omega arith in
    let e : 10 * (n / 10) + d ≡ n = omega arith in
    record {
      first = f.first;
      others = f.others ++ (d ∷ []);
      positive = f.positive;
      small = f.small;
      digits = digits_snoc f.others d f.digits h;
      text =
          ap decimal_text (sym e)
          ∙ (decimal_more (n / 10) d (omega arith) h
          ∙ (ap (λ (t : List ℕ). t ++ ((48 + d) ∷ [])) f.text ∙ ap (λ (t : List ℕ). (48 + f.first) ∷ t) (sym (bytes_snoc f.others d))));
      value = value_snoc f.first f.others d ∙ (ap (λ (k : ℕ). 10 * k + d) f.value ∙ e);
      few = room;
    }
  where
    room : (j : ℕ) → n < 10 ^ suc j → length (f.others ++ (n % 10 ∷ [])) ≤ j
    room zero l = absurd (none l)
      where
        none : n < 10 → ⊥
        none i = omega arith
    room (suc j) l =
        let q : n / 10 < 10 ^ suc j = omega (arith, pow-suc 10 (suc j)) in
        simp length-append (omega (arith, f.few j q))

spell : (m n : ℕ) → n ≤ m → 0 < n → Spelled n
unfolding bytes_of value_of AllDigits
spell zero n h g = absurd (none h)
  where
    none : n ≤ 0 → ⊥
    none i = omega arith
spell (suc m) n h g = by (ltb n 10) refl (spell m (n / 10))
  where
    by : (b : Bool) → ltb n 10 ≡ b → (n / 10 ≤ m → 0 < n / 10 → Spelled (n / 10)) → Spelled n
    by true e f =
        let l : n < 10 = ltb-true _ _ e in
        record {
          first = n;
          others = [];
          positive = g;
          small = omega arith;
          digits = tt;
          text = decimal_one n (omega arith);
          value = refl;
          few = λ j i. zero-le;
        }
    by false e f =
        let l : 10 ≤ n = ltb-false _ _ e in
        spell_more n l (f (omega arith) (omega arith))

-- ---- digits in the line

module _ (s : List ℕ) where
  -- digits and then none: they are read, and make the number after v
  more_read : (m : ℕ) (ds : List ℕ) (k v : ℕ) → length ds ≤ m → AllDigits ds → starts_of s k (bytes_of ds) ≡ true → digit_of s (k + length ds) ≡ None
      → more_of m s k v ≡ record { size = value_of v ds; next = k + length ds }
  unfolding more_of bytes_of value_of AllDigits starts_of
  more_read zero [] k v l a t g = let e : k + 0 ≡ k = omega arith in rw e
  more_read (suc m) [] k v l a t g =
      let e : k + 0 ≡ k = omega arith in
      let h : digit_of s k ≡ None = rw e at g in
      rw (e, h) refl
  more_read zero (d ∷ ds) k v l a t g = absurd (none l)
    where
      none : suc (length ds) ≤ 0 → ⊥
      none i = omega arith
  more_read (suc m) (d ∷ ds) k v l a t g =
      let e : k + suc (length ds) ≡ k + 1 + length ds = omega arith in
      let f : digit_of s k ≡ Some d = digit_is s k d a.0 (and_first _ (starts_of s (k + 1) (bytes_of ds)) t) in
      rw (e, f) (more_read m ds (k + 1) (10 * v + d) (omega arith) a.1 (and_second (here_of s k (48 + d)) _ t) (rw e at g))

  -- what is read are digits that stand there
  record More (m k v : ℕ) : Type 0 where
    digits : List ℕ
    small : AllDigits digits
    there : starts_of s k (bytes_of digits) ≡ true
    is : more_of m s k v ≡ record { size = value_of v digits; next = k + length digits }
    nine : (v + 1) * 10 ^ m ≤ 1000000000 → value_of v digits < 1000000000

  none_more : (m k v : ℕ) → more_of m s k v ≡ record { size = v; next = k } → More m k v
  unfolding bytes_of value_of AllDigits starts_of
  none_more m k v h = let e : k + 0 ≡ k = omega arith in record { digits = []; small = tt; there = refl; is = rw e h; nine = room_less v m }

  one_more : (m k v d : ℕ) → digit_of s k ≡ Some d → More m (k + 1) (10 * v + d) → More (suc m) k v
  unfolding more_of bytes_of value_of AllDigits starts_of
  one_more m k v d h f =
      let e : k + suc (length f.digits) ≡ k + 1 + length f.digits = omega arith in
      let p : suc m - 1 ≡ m = omega arith in
      let g = digit_here s k d h in
      record {
        digits = d ∷ f.digits;
        small = (g.0, f.small);
        there = and_both _ _ g.1 f.there;
        is = rw (e, h) f.is;
        nine = λ r. f.nine (rw p at (room_next v d (suc m) (omega arith) g.0 r));
      }

  more_gives : (m k v : ℕ) → More m k v
  unfolding more_of
  more_gives zero k v = none_more zero k v refl
  more_gives (suc m) k v = by (digit_of s k) refl (λ d. more_gives m (k + 1) (10 * v + d))
    where
      by : (x : Option ℕ) → digit_of s k ≡ x → ((d : ℕ) → More m (k + 1) (10 * v + d)) → More (suc m) k v
      by None e f = none_more (suc m) k v (rw e refl)
      by (Some d) e f = one_more m k v d e (f d)

-- ---- whole numbers

module _ (minus : Bool) (s : List ℕ) where
  pub positive_read : (k n : ℕ) → 0 < n → n < 1000000000 → starts_of s k (decimal_text n) ≡ true → digit_of s (k + length (decimal_text n)) ≡ None
      → positive_of minus s k ≡ Some (record { value = with_sign minus n; next = k + length (decimal_text n) })
  unfolding positive_of bytes_of starts_of
  positive_read k n g l t a =
      let f : Spelled n = spell n n (le_refl n) g in
      let d : ℕ = f.first in
      let h : (here_of s k (48 + d) && starts_of s (k + 1) (bytes_of f.others)) ≡ true = rw f.text at t in
      let e : digit_of s k ≡ Some d = digit_is s k d f.small (and_first _ (starts_of s (k + 1) (bytes_of f.others)) h) in
      let z : d ≡ 0 → ⊥ = λ i. omega (arith, f.positive) in
      let len : k + length (decimal_text n) ≡ k + 1 + length f.others = rw f.text (omega (arith, length_bytes f.others)) in
      let m : more_of 8 s (k + 1) d ≡ record { size = n; next = k + 1 + length f.others } =
      more_read s 8 f.others (k + 1) d (f.few 8 l) f.digits (and_second (here_of s k (48 + d)) _ h) (rw len at a)
      ∙ rw f.value in
      rw (len, e) (sym (cond_false _ _ _ (ne_eqb d 0 z)) ∙ rw m)

  pub record Positive (k : ℕ) : Type 0 where
    pub size : ℕ
    pub positive : 0 < size
    pub nine : size < 1000000000
    pub there : starts_of s k (decimal_text size) ≡ true
    pub is : positive_of minus s k ≡ Some (record { value = with_sign minus size; next = k + length (decimal_text size) })

  from_digit : (k d : ℕ) → digit_of s k ≡ Some d → (d ≡ 0 → ⊥) → Positive k
  unfolding positive_of bytes_of starts_of
  from_digit k d e nought =
      let g = digit_here s k d e in
      let first : 0 < d = omega arith in
      let w : More s 8 (k + 1) d = more_gives s 8 (k + 1) d in
      let n : ℕ = value_of d w.digits in
      let text : decimal_text n ≡ (48 + d) ∷ bytes_of w.digits =
      spelled d w.digits first w.small ∙ ap (λ (t : List ℕ). t ++ bytes_of w.digits) (decimal_one d g.0) in
      let len : k + length (decimal_text n) ≡ k + 1 + length w.digits = rw text (omega (arith, length_bytes w.digits)) in
      record {
        size = n;
        positive = value_positive d w.digits first;
        nine = w.nine (omega (arith, g.0));
        there = rw text (and_both _ _ g.1 w.there);
        is = rw (len, e) (sym (cond_false _ _ _ (ne_eqb d 0 nought)) ∙ rw w.is);
      }

  pub positive_gives : (k : ℕ) (w : WholeNumber) → positive_of minus s k ≡ Some w → Positive k
  unfolding positive_of
  positive_gives k w h = by (digit_of s k) refl
    where
      by : (x : Option ℕ) → digit_of s k ≡ x → Positive k
      by None e = let g = rw e at h in absurd (cc)
      by (Some d) e = by_first (eqb d 0) refl
        where
          by_first : (b : Bool) → eqb d 0 ≡ b → Positive k
          by_first true f =
              let g = rw e at h in
              let i : None ≡ Some w = cond_true _ _ _ f ∙ g in
              absurd (cc)
          by_first false f = from_digit k d e (eqb-false d 0 f)

module _ (s : List ℕ) where
  -- a number's text, and then no digit: the number is read
  pub number_read : (z : ℤ) (k : ℕ) → Nine z → starts_of s k (number_text z) ≡ true → digit_of s (k + length (number_text z)) ≡ None
      → read_number s k ≡ Some (record { value = z; next = k + length (number_text z) })
  unfolding read_number number_text starts_of
  number_read (pos zero) k l t a =
      let h : (here_of s k 48 && true) ≡ true = rw (decimal_one 0 zero-le) at t in
      let c : here_of s k 48 ≡ true = and_first (here_of s k 48) true h in
      rw (decimal_one 0 zero-le) (sym (cond_true _ _ _ c))
  number_read (pos (suc n)) k l t a =
      let f : Spelled (suc n) = spell (suc n) (suc n) (le_refl (suc n)) (omega arith) in
      let h : starts_of s k ((48 + f.first) ∷ bytes_of f.others) ≡ true = rw f.text at t in
      let c : here_of s k (48 + f.first) ≡ true = and_first _ (starts_of s (k + 1) (bytes_of f.others)) h in
      sym (cond_false _ _ _ (here_other s k (48 + f.first) 48 (λ e. omega (arith, f.positive)) c))
      ∙ (sym (cond_false _ _ _ (here_other s k (48 + f.first) 45 (λ e. omega arith) c)) ∙ positive_read false s k (suc n) (omega arith) l t a)
  number_read (negsuc n) k l t a =
      let e : k + suc (length (decimal_text (suc n))) ≡ k + 1 + length (decimal_text (suc n)) = omega arith in
      let c : here_of s k 45 ≡ true = and_first _ (starts_of s (k + 1) (decimal_text (suc n))) t in
      rw e
      (sym (cond_false _ _ _ (here_other s k 45 48 (λ e. omega arith) c))
      ∙ (sym (cond_true _ _ _ c) ∙ positive_read true s (k + 1) (suc n) (omega arith) l (and_second (here_of s k 45) _ t) (rw e at a)))

  -- what is read as a number is its text
  pub record Number (k : ℕ) : Type 0 where
    pub number : ℤ
    pub nine : Nine number
    pub there : starts_of s k (number_text number) ≡ true
    pub is : read_number s k ≡ Some (record { value = number; next = k + length (number_text number) })

  above : (k : ℕ) → Positive false s k → read_number s k ≡ positive_of false s k → Number k
  unfolding number_text
  above k p e = record { number = pos p.size; nine = p.nine; there = p.there; is = e ∙ p.is }

  below : (k : ℕ) → here_of s k 45 ≡ true → Positive true s (k + 1) → read_number s k ≡ positive_of true s (k + 1) → Number k
  unfolding number_text starts_of
  below k h p e = by p.size p.positive p.nine p.there p.is
    where
      by : (n : ℕ) → 0 < n → n < 1000000000 → starts_of s (k + 1) (decimal_text n) ≡ true
          → positive_of true s (k + 1) ≡ Some (record { value = with_sign true n; next = k + 1 + length (decimal_text n) }) → Number k
      by zero g l t i = absurd (none g)
        where
          none : 0 < 0 → ⊥
          none j = omega arith
      by (suc n) g l t i =
          let f : k + suc (length (decimal_text (suc n))) ≡ k + 1 + length (decimal_text (suc n)) = omega arith in
          record { number = negsuc n; nine = l; there = and_both _ _ h t; is = e ∙ rw f i }

  pub number_gives : (k : ℕ) (w : WholeNumber) → read_number s k ≡ Some w → Number k
  unfolding read_number number_text starts_of
  number_gives k w h = by (here_of s k 48) (here_of s k 45) refl refl
    where
      by : (a b : Bool) → here_of s k 48 ≡ a → here_of s k 45 ≡ b → Number k
      by true b e f =
          record {
            number = pos 0;
            nine = omega arith;
            there = rw (decimal_one 0 zero-le) (and_both _ _ e refl);
            is = sym (cond_true _ _ _ e) ∙ rw (decimal_one 0 zero-le);
          }
      by false true e f =
          let i : read_number s k ≡ positive_of true s (k + 1) = sym (cond_true _ _ _ f ∙ cond_false _ _ _ e) in
          below k f (positive_gives true s (k + 1) w (sym i ∙ h)) i
      by false false e f =
          let i : read_number s k ≡ positive_of false s k = sym (cond_false _ _ _ f ∙ cond_false _ _ _ e) in
          above k (positive_gives false s k w (sym i ∙ h)) i
