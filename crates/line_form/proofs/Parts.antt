-- The parts of a form one after the other: their text is read as their numbers, and what is read is their text.
use mathlib.Core.Path.{◌≡◌, refl, sym, ap, ◌∙◌, subst}
use mathlib.Core.Bool.{Bool, true, false, cond, not, ◌&&◌, false≢true}
use mathlib.Core.List.{List, [], ◌∷◌, ◌++◌, append-nil}
use Prim.Native.Nat.{ℕ, zero, suc, ◌+◌, ◌<◌, ◌≤◌}
use native.Mathlib.Omega.{arith}
use native.Mathlib.Nat.{ne_of_lt}
use native.Mathlib.Numerals.{add-one}
use borrow.Author.Tests.{lt-ltb, ltb-true, eq-eqb, eqb-true}
use lib.Dec.{T, ltb, eqb, ltb→lt}
use lib.IntN.{ℤ, pos}
use lib.ListN.{length, get_or, set, replicate, length-append, length-set}
use lib.Seq.{sets, ext_get_or, get_or-set_same, get_or-set_other, get_or-append_seam, append_snoc}
use Rattle.line_text.proofs.Choice.{cond_true, cond_false}
use Rattle.std.proofs.Common.{Option, None, Some}
use Rattle.std.specs.Option.{unwrap_or, option_map}
use Rattle.line_form.specs.declared.WholeNumber.{WholeNumber}
use Rattle.line_form.specs.declared.Reading.{Reading}
use Rattle.line_form.specs.Grammar.{here_of, starts_of, digit_of, read_number, stopped_of, read_numbers, field_of, closed_of, start_of, values_from}
use Rattle.line_form.specs.Forms.{number_text, Nine, AllNine, numbers_text, Part, parts_text, NineIn}
use Rattle.line_form.proofs.Bytes.{and_first, and_second, and_both, here_byte, here_is, starts_first, starts_rest, starts_both}
use Rattle.line_form.proofs.Laws.{part_of_length}
use Rattle.line_form.proofs.WholeNumbers.{no_digit, number_read, Number, number_gives}

-- ---- a whole line

at_is : (s t : List ℕ) (k i : ℕ) → starts_of s k t ≡ true → i < length t → get_or s (k + i) 0 ≡ get_or t i 0
unfolding starts_of
at_is s [] k i h l = absurd (none l)
  where
    none : i < 0 → ⊥
    none j = omega arith
at_is s (c ∷ t) k zero h l = let e : k + 0 ≡ k = omega arith in rw e (here_byte s k c (and_first _ (starts_of s (k + 1) t) h))
at_is s (c ∷ t) k (suc i) h l =
    let e : k + suc i ≡ k + 1 + i = omega arith in
    rw e (at_is s t (k + 1) i (and_second (here_of s k c) _ h) (omega arith))

-- a line that has a text from its first byte to its last is that text
pub line_is : (s t : List ℕ) → starts_of s 0 t ≡ true → length t ≡ length s → s ≡ t
line_is s t h e = ext_get_or 0 s t (sym e) (λ i l. let f : 0 + i ≡ i = omega arith in rw f at (at_is s t 0 i h (rw e l)))

-- the end of a text stands where it was put
pub there : (a b c : List ℕ) → starts_of (a ++ (b ++ c)) (length a) b ≡ true
unfolding starts_of
there a [] c = refl
there a (x ∷ b) c =
    let e : length (a ++ (x ∷ [])) ≡ length a + 1 = length-append a (x ∷ []) in
    let f : a ++ (x ∷ []) ++ (b ++ c) ≡ a ++ (x ∷ (b ++ c)) = append_snoc a x (b ++ c) in
    let l : length a < length (a ++ (x ∷ (b ++ c))) = simp length-append (omega arith) in
    and_both _ _ (here_is (a ++ (x ∷ (b ++ c))) (length a) x l (get_or-append_seam a x (b ++ c) 0))
    (subst (λ (k : ℕ). starts_of (a ++ (x ∷ (b ++ c))) k b ≡ true) e (subst (λ (t : List ℕ). starts_of t (length (a ++ (x ∷ []))) b ≡ true) f (there (a ++ (x ∷ [])) b c)))

-- ---- numbers in a row

module _ (s : List ℕ) where
  first_space : (zs : List ℤ) (k : ℕ) → starts_of s k (numbers_text zs) ≡ true → digit_of s (k + length (numbers_text zs)) ≡ None → digit_of s k ≡ None
  unfolding numbers_text starts_of
  first_space [] k h g = let e : k + 0 ≡ k = omega arith in rw e at g
  first_space (z ∷ zs) k h g = no_digit s k 32 (omega arith) (and_first _ (starts_of s (k + 1) (number_text z ++ numbers_text zs)) h)

  pub numbers_read : (zs : List ℤ) (i k : ℕ) (v : List ℤ) → AllNine zs → starts_of s k (numbers_text zs) ≡ true → digit_of s (k + length (numbers_text zs)) ≡ None
      → read_numbers (length zs) s i (record { ok = true; next = k; values = v }) ≡ record { ok = true; next = k + length (numbers_text zs); values = sets v i zs }
  unfolding read_numbers numbers_text starts_of
  numbers_read [] i k v a h g = let e : k + 0 ≡ k = omega arith in rw e
  numbers_read (z ∷ zs) i k v a h g =
      let space : here_of s k 32 ≡ true = and_first _ (starts_of s (k + 1) (number_text z ++ numbers_text zs)) h in
      let rest : starts_of s (k + 1) (number_text z ++ numbers_text zs) ≡ true = and_second (here_of s k 32) _ h in
      let t : starts_of s (k + 1) (number_text z) ≡ true = starts_first s (k + 1) (number_text z) (numbers_text zs) rest in
      let u : starts_of s (k + 1 + length (number_text z)) (numbers_text zs) ≡ true = starts_rest s (k + 1) (number_text z) (numbers_text zs) rest in
      let e : k + suc (length (number_text z ++ numbers_text zs)) ≡ k + 1 + length (number_text z) + length (numbers_text zs) = simp length-append (omega arith) in
      let f : digit_of s (k + 1 + length (number_text z) + length (numbers_text zs)) ≡ None = rw e at g in
      let n : read_number s (k + 1) ≡ Some (record { value = z; next = k + 1 + length (number_text z) }) =
      number_read s z (k + 1) a.0 t (first_space zs (k + 1 + length (number_text z)) u f) in
      rw e (sym (cond_false _ _ _ (ap not space))
      ∙ rw n (rw (← add-one i) (numbers_read zs (i + 1) (k + 1 + length (number_text z)) (set v i z) a.1 u f)))

  -- what is read as numbers are their texts; the values before them are as they were
  pub record Numbers (m i k : ℕ) (v : List ℤ) (q : Reading) : Type 0 where
    pub there : starts_of s k (numbers_text (values_from q.values m i)) ≡ true
    pub next_is : q.next ≡ k + length (numbers_text (values_from q.values m i))
    pub before : (j : ℕ) → j < i → get_or q.values j (pos 0) ≡ get_or v j (pos 0)
    pub nine : AllNine (values_from q.values m i)

  numbers_more : (m i k : ℕ) (v : List ℤ) (z : ℤ) (q : Reading) → i < length v → Nine z → here_of s k 32 ≡ true → starts_of s (k + 1) (number_text z) ≡ true
      → Numbers m (i + 1) (k + 1 + length (number_text z)) (set v i z) q → Numbers (suc m) i k v q
  unfolding values_from numbers_text starts_of
  numbers_more m i k v z q l n h t f =
      let zs : List ℤ = values_from q.values m (i + 1) in
      let e : get_or q.values i (pos 0) ≡ z = f.before i (omega arith) ∙ get_or-set_same v i z (pos 0) l in
      record {
        there = rw e (and_both _ _ h (starts_both s (k + 1) (number_text z) (numbers_text zs) t f.there));
        next_is = rw e (f.next_is ∙ omega (arith, length-append (number_text z) (numbers_text zs)));
        before = λ j g. f.before j (omega arith) ∙ get_or-set_other v i j z (pos 0) (ne_of_lt g);
        nine = rw e (n, f.nine);
      }

  pub numbers_give : (m i k : ℕ) (v : List ℤ) → i + m ≤ length v → (read_numbers m s i (record { ok = true; next = k; values = v })).ok ≡ true
      → Numbers m i k v (read_numbers m s i (record { ok = true; next = k; values = v }))
  unfolding read_numbers stopped_of values_from numbers_text starts_of
  numbers_give zero i k v l h =
      let e : k ≡ k + 0 = omega arith in
      record { there = refl; next_is = e; before = λ j g. refl; nine = tt }
  numbers_give (suc m) i k v l h =
      by (here_of s k 32) (read_number s (k + 1)) refl refl
      (λ n. numbers_give m (i + 1) n.next (set v i n.value) (rw (length-set v i n.value) (omega arith)))
    where
      q : Reading
      q = read_numbers (suc m) s i (record { ok = true; next = k; values = v })

      r : WholeNumber → Reading
      r n = read_numbers m s (i + 1) (record { ok = true; next = n.next; values = set v i n.value })

      by : (a : Bool) (x : Option WholeNumber) → here_of s k 32 ≡ a → read_number s (k + 1) ≡ x
          → ((n : WholeNumber) → (r n).ok ≡ true → Numbers m (i + 1) n.next (set v i n.value) (r n)) → Numbers (suc m) i k v q
      by false x e f g = absurd (false≢true (ap (λ (t : Reading). t.ok) (cond_true _ _ _ (ap not e)) ∙ h))
      by true None e f g =
          let p : stopped_of (record { ok = true; next = k; values = v }) ≡ q = rw f (cond_false _ _ _ (ap not e)) in
          absurd (false≢true (ap (λ (t : Reading). t.ok) p ∙ h))
      by true (Some n) e f g =
          let p : r n ≡ q = rw f (cond_false _ _ _ (ap not e)) in
          let w : Number s (k + 1) = number_gives s (k + 1) n f in
          let same : n ≡ record { value = w.number; next = k + 1 + length (number_text w.number) } = (let z = sym f ∙ w.is in cc) in
          numbers_more m i k v w.number q (omega arith) w.nine e w.there
          (subst (λ (x : WholeNumber). Numbers m (i + 1) x.next (set v i x.value) q) same
          (subst (λ (t : Reading). Numbers m (i + 1) n.next (set v i n.value) t) p (g n (ap (λ (t : Reading). t.ok) p ∙ h))))

-- ---- parts

-- the parts read from left to right
unfoldable pub read_of : List ℕ → List Part → Reading → Reading
read_of s [] r = r
read_of s (p ∷ ps) r = read_of s ps (field_of s p.text p.at p.count r)

-- the parts' numbers put in their places
unfoldable pub filled : List Part → List ℤ → List ℤ → List ℤ
filled [] v w = w
filled (p ∷ ps) v w = filled ps v (sets w p.at (values_from v p.count p.at))

-- a text that begins with a byte before the digits
abbrev pub plain : List ℕ → Bool
plain [] = false
plain (c ∷ t) = ltb c 48

abbrev pub AllPlain : List Part → Type 0
AllPlain [] = Unit {0}
AllPlain (p ∷ ps) = T (plain p.text) × AllPlain ps

-- the parts' places follow each other, from lo on and below len
abbrev pub Rising : ℕ → ℕ → List Part → Type 0
Rising lo len [] = Unit {0}
Rising lo len (p ∷ ps) = (lo ≤ p.at) × (p.at + p.count ≤ len) × Rising (p.at + p.count) len ps

part_same : (a b : List ℤ) (m i : ℕ) → ((j : ℕ) → j < i + m → get_or a j (pos 0) ≡ get_or b j (pos 0)) → values_from a m i ≡ values_from b m i
unfolding values_from
part_same a b zero i f = refl
part_same a b (suc m) i f = rw (f i (omega arith), part_same a b m (i + 1) (λ j g. f j (omega arith)))

module _ (s : List ℕ) where
  plain_first : (t : List ℕ) (k : ℕ) → T (plain t) → starts_of s k t ≡ true → digit_of s k ≡ None
  unfolding starts_of
  plain_first [] k a h = elim a [ ]
  plain_first (c ∷ t) k a h = no_digit s k c (ltb→lt c 48 a) (and_first _ (starts_of s (k + 1) t) h)

  field_read : (text : List ℕ) (i m k : ℕ) (v w : List ℤ) → AllNine (values_from v m i) → starts_of s k (text ++ numbers_text (values_from v m i)) ≡ true
      → digit_of s (k + length (text ++ numbers_text (values_from v m i))) ≡ None
      → field_of s text i m (record { ok = true; next = k; values = w })
      ≡ record { ok = true; next = k + length (text ++ numbers_text (values_from v m i)); values = sets w i (values_from v m i) }
  unfolding field_of
  field_read text i m k v w a h g =
      let zs : List ℤ = values_from v m i in
      let e : k + length (text ++ numbers_text zs) ≡ k + length text + length (numbers_text zs) = omega (arith, length-append text (numbers_text zs)) in
      rw e
      (sym (cond_false _ _ _ (ap not (starts_first s k text (numbers_text zs) h)))
      ∙ (ap (λ (j : ℕ). read_numbers j s i (record { ok = true; next = k + length text; values = w })) (sym (part_of_length v m i))
      ∙ numbers_read s zs i (k + length text) w a (starts_rest s k text (numbers_text zs) h) (rw e at g)))

  pub parts_read : (ps : List Part) (k : ℕ) (v w : List ℤ) → AllPlain ps → NineIn ps v → starts_of s k (parts_text ps v) ≡ true
      → digit_of s (k + length (parts_text ps v)) ≡ None
      → read_of s ps (record { ok = true; next = k; values = w }) ≡ record { ok = true; next = k + length (parts_text ps v); values = filled ps v w }
  unfolding read_of filled parts_text
  parts_read [] k v w a n h g = let e : k + 0 ≡ k = omega arith in rw e
  parts_read (p ∷ ps) k v w a n h g =
      let t : List ℕ = p.text ++ numbers_text (values_from v p.count p.at) in
      let e : k + length (t ++ parts_text ps v) ≡ k + length t + length (parts_text ps v) = omega (arith, length-append t (parts_text ps v)) in
      let rest : starts_of s (k + length t) (parts_text ps v) ≡ true = starts_rest s k t (parts_text ps v) h in
      let f : digit_of s (k + length t + length (parts_text ps v)) ≡ None = rw e at g in
      rw e
      (ap (read_of s ps) (field_read p.text p.at p.count k v w n.0 (starts_first s k t (parts_text ps v) h) (next ps (k + length t) a.1 rest f))
      ∙ parts_read ps (k + length t) v (sets w p.at (values_from v p.count p.at)) a.1 n.1 rest f)
    where
      next : (qs : List Part) (j : ℕ) → AllPlain qs → starts_of s j (parts_text qs v) ≡ true → digit_of s (j + length (parts_text qs v)) ≡ None → digit_of s j ≡ None
      next [] j b i d = let e : j + 0 ≡ j = omega arith in rw e at d
      next (q ∷ qs) j b i d =
          let t : List ℕ = numbers_text (values_from v q.count q.at) in
          plain_first q.text j b.0 (starts_first s j q.text t (starts_first s j (q.text ++ t) (parts_text qs v) i))

-- ---- what is read

module _ (s : List ℕ) where
  either_length : (b : Bool) (x y : Reading) (n : ℕ) → length x.values ≡ n → length y.values ≡ n → length (cond b x y).values ≡ n
  either_length true x y n g h = g
  either_length false x y n g h = h

  numbers_length : (m i : ℕ) (r : Reading) → length (read_numbers m s i r).values ≡ length r.values
  unfolding read_numbers stopped_of
  numbers_length zero i r = refl
  numbers_length (suc m) i r = either_length (not (here_of s r.next 32)) (stopped_of r) _ (length r.values) refl (by (read_number s (r.next + 1)) (λ n. numbers_length m (i + 1) (q n)))
    where
      q : WholeNumber → Reading
      q n = record { ok = true; next = n.next; values = set r.values i n.value }

      by : (x : Option WholeNumber) → ((n : WholeNumber) → length (read_numbers m s (i + 1) (q n)).values ≡ length (q n).values)
          → length (unwrap_or (option_map (λ (n : WholeNumber). read_numbers m s (i + 1) (q n)) x) (stopped_of r)).values ≡ length r.values
      by None f = refl
      by (Some n) f = f n ∙ length-set r.values i n.value

  field_length : (text : List ℕ) (i m : ℕ) (r : Reading) → length (field_of s text i m r).values ≡ length r.values
  unfolding field_of stopped_of
  field_length text i m r =
      let q : Reading = record { ok = true; next = r.next + length text; values = r.values } in
      either_length (not r.ok) r _ (length r.values) refl
      (either_length (not (starts_of s r.next text)) (stopped_of r) (read_numbers m s i q) (length r.values) refl (numbers_length m i q))

  pub read_length : (ps : List Part) (r : Reading) → length (read_of s ps r).values ≡ length r.values
  unfolding read_of
  read_length [] r = refl
  read_length (p ∷ ps) r = read_length ps (field_of s p.text p.at p.count r) ∙ field_length p.text p.at p.count r

  pub record Field (text : List ℕ) (i m : ℕ) (r q : Reading) : Type 0 where
    pub so_far : r.ok ≡ true
    pub there : starts_of s r.next text ≡ true
    pub numbers : Numbers s m i (r.next + length text) r.values q

  pub field_gives : (text : List ℕ) (i m : ℕ) (r : Reading) → i + m ≤ length r.values → (field_of s text i m r).ok ≡ true → Field text i m r (field_of s text i m r)
  unfolding field_of stopped_of
  field_gives text i m r l h = by r.ok (starts_of s r.next text) refl refl h
    where
      q : Reading
      q = read_numbers m s i (record { ok = true; next = r.next + length text; values = r.values })

      by : (a b : Bool) → r.ok ≡ a → starts_of s r.next text ≡ b → (field_of s text i m r).ok ≡ true → Field text i m r (field_of s text i m r)
      by false b e f g = absurd (false≢true (sym e ∙ (ap (λ (t : Reading). t.ok) (cond_true _ r _ (ap not e)) ∙ g)))
      by true false e f g = absurd (false≢true (ap (λ (t : Reading). t.ok) (cond_true _ _ _ (ap not f) ∙ cond_false _ _ _ (ap not e)) ∙ g))
      by true true e f g =
          let p : q ≡ field_of s text i m r = cond_false _ _ _ (ap not f) ∙ cond_false _ _ _ (ap not e) in
          record {
            so_far = e;
            there = f;
            numbers =
                subst (λ (t : Reading). Numbers s m i (r.next + length text) r.values t) p
                (numbers_give s m i (r.next + length text) r.values l (ap (λ (t : Reading). t.ok) p ∙ g));
          }

  pub record Parts (lo : ℕ) (ps : List Part) (r q : Reading) : Type 0 where
    pub so_far : r.ok ≡ true
    pub there : starts_of s r.next (parts_text ps q.values) ≡ true
    pub next_is : q.next ≡ r.next + length (parts_text ps q.values)
    pub before : (j : ℕ) → j < lo → get_or q.values j (pos 0) ≡ get_or r.values j (pos 0)
    pub nine : NineIn ps q.values

  part_more : (lo : ℕ) (p : Part) (ps : List Part) (r t q : Reading) → lo ≤ p.at → Field p.text p.at p.count r t → Parts (p.at + p.count) ps t q
      → Parts lo (p ∷ ps) r q
  unfolding parts_text
  part_more lo p ps r t q l f g =
      let zs : List ℤ = values_from t.values p.count p.at in
      let e : values_from q.values p.count p.at ≡ zs = part_same q.values t.values p.count p.at g.before in
      let text : List ℕ = p.text ++ numbers_text zs in
      let n : t.next ≡ r.next + length text = f.numbers.next_is ∙ omega (arith, length-append p.text (numbers_text zs)) in
      record {
        so_far = f.so_far;
        there =
            rw e
            (starts_both s r.next text (parts_text ps q.values) (starts_both s r.next p.text (numbers_text zs) f.there f.numbers.there)
            (rw n at g.there));
        next_is = rw e (g.next_is ∙ omega (arith, length-append text (parts_text ps q.values)));
        before = λ j h. g.before j (omega arith) ∙ f.numbers.before j (omega arith);
        nine = (rw e f.numbers.nine, g.nine);
      }

  pub parts_give : (ps : List Part) (lo : ℕ) (r : Reading) → Rising lo (length r.values) ps → (read_of s ps r).ok ≡ true → Parts lo ps r (read_of s ps r)
  unfolding read_of parts_text starts_of
  parts_give [] lo r a h = let e : r.next ≡ r.next + 0 = omega arith in record { so_far = h; there = refl; next_is = e; before = λ j g. refl; nine = tt }
  parts_give (p ∷ ps) lo r a h =
      let t : Reading = field_of s p.text p.at p.count r in
      let b : Rising (p.at + p.count) (length t.values) ps = rw (field_length p.text p.at p.count r) a.2 in
      let g : Parts (p.at + p.count) ps t (read_of s ps t) = parts_give ps (p.at + p.count) t b h in
      part_more lo p ps r t (read_of s ps t) a.0 (field_gives p.text p.at p.count r a.1 g.so_far) g

-- ---- a form: parts, and a text that ends the line

-- the line s is the text of the numbers v, of at most 511 bytes, each number of at most nine digits
abbrev pub IsForm : List Part → List ℕ → List ℕ → List ℤ → Type 0
IsForm ps end s v = (s ≡ parts_text ps v ++ end) × NineIn ps v × (length s < 512)

text_read : (ps : List Part) (end : List ℕ) (v : List ℤ) → AllPlain ps → T (plain end) → NineIn ps v → length (parts_text ps v ++ end) < 512
    → closed_of (parts_text ps v ++ end) end (read_of (parts_text ps v ++ end) ps start_of)
    ≡ record { ok = true; next = length (parts_text ps v); values = filled ps v (replicate 41 (pos 0)) }
unfolding closed_of start_of
text_read ps end v a b n l =
    let p : List ℕ = parts_text ps v in
    let s : List ℕ = p ++ end in
    let e : 0 + length p ≡ length p = omega arith in
    let t : starts_of s (length p) end ≡ true = rw (append-nil end) at (there p end []) in
    let r : read_of s ps (record { ok = true; next = 0; values = replicate 41 (pos 0) }) ≡ record { ok = true; next = length p; values = filled ps v (replicate 41 (pos 0)) } =
    parts_read s ps 0 v (replicate 41 (pos 0)) a n (there [] p end) (rw e (plain_first s end (length p) b t)) ∙ rw e in
    rw r (rw (and_both _ _ (lt-ltb (length s) 512 l) (and_both _ _ t (eq-eqb (length p + length end) (length s) (sym (length-append p end))))))

pub form_read : (ps : List Part) (end s : List ℕ) (v : List ℤ) → AllPlain ps → T (plain end) → IsForm ps end s v
    → closed_of s end (read_of s ps start_of) ≡ record { ok = true; next = length (parts_text ps v); values = filled ps v (replicate 41 (pos 0)) }
form_read ps end s v a b h =
    subst (λ (t : List ℕ). closed_of t end (read_of t ps start_of) ≡ record { ok = true; next = length (parts_text ps v); values = filled ps v (replicate 41 (pos 0)) }) (sym h.0)
    (text_read ps end v a b h.1 (subst (λ (t : List ℕ). length t < 512) h.0 h.2))

pub form_gives : (ps : List Part) (end s : List ℕ) → Rising 0 41 ps → (closed_of s end (read_of s ps start_of)).ok ≡ true
    → IsForm ps end s (closed_of s end (read_of s ps start_of)).values
unfolding closed_of start_of
form_gives ps end s a h =
    let start : Reading = record { ok = true; next = 0; values = replicate 41 (pos 0) } in
    let q : Reading = read_of s ps start in
    let text : List ℕ = parts_text ps q.values in
    let more : (q.ok && (starts_of s q.next end && eqb (q.next + length end) (length s))) ≡ true = and_second (ltb (length s) 512) _ h in
    let ends : (starts_of s q.next end && eqb (q.next + length end) (length s)) ≡ true = and_second q.ok _ more in
    let g : Parts s 0 ps start q = parts_give s ps 0 start a (and_first _ (starts_of s q.next end && eqb (q.next + length end) (length s)) more) in
    let last : starts_of s q.next end ≡ true = and_first _ (eqb (q.next + length end) (length s)) ends in
    let len : q.next + length end ≡ length s = eqb-true _ _ (and_second (starts_of s q.next end) _ ends) in (
      line_is s (text ++ end) (starts_both s 0 text end g.there (rw (← g.next_is) last)) (omega (arith, length-append text end, g.next_is)),
      g.nine,
      ltb-true (length s) 512 (and_first _ (q.ok && (starts_of s q.next end && eqb (q.next + length end) (length s))) h),
    )
