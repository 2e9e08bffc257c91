-- The grammar both ways: every form's text is read with just its numbers, and whatever is read is the text of its numbers.
use mathlib.Core.Path.{◌≡◌, refl, sym, ap, ◌∙◌, subst}
use mathlib.Core.Bool.{Bool, true, false, not}
use mathlib.Core.List.{List, [], ◌∷◌, ◌++◌}
use Prim.Native.Nat.{ℕ, ◌+◌, ◌≤◌}
use native.Mathlib.Omega.{arith}
use lib.Dec.{ltb}
use lib.IntN.{ℤ, pos}
use lib.ListN.{length, replicate}
use Rattle.line_text.proofs.Choice.{cond_true, cond_false}
use Rattle.line_form.specs.declared.Reading.{Reading}
use Rattle.line_form.specs.Grammar.{here_of, starts_of, stopped_of, field_of, closed_of, start_of, dnet_form_of, ccor_form_of, date_fields, place_fields, activity_fields, later_of, last_fields, run_form_of, values_from}
use Rattle.line_form.specs.Forms.{Part, parts_text, dnet_parts, IsDnet, ccor_parts, IsCcor, field_parts, array_part, switches_part, run_parts, IsRun, run_values}
use Rattle.line_form.proofs.Bytes.{and_first, and_second, here_other}
use Rattle.line_form.proofs.Parts.{read_of, filled, AllPlain, Rising, form_read, form_gives, field_gives, read_length}

-- ---- dnet and ccor

-- the form of five numbers is read with just these
pub dnet_read : (s : List ℕ) (v : List ℤ) → IsDnet s v
    → dnet_form_of s ≡ record { ok = true; next = length (parts_text dnet_parts v); values = values_from v 5 0 ++ replicate 36 (pos 0) }
unfolding dnet_form_of read_of filled values_from
dnet_read s v h = form_read dnet_parts (41 ∷ []) s v (tt, tt) tt (h.0, (h.1, tt), h.2)

-- a line that is read as one is the form of the numbers read
pub dnet_gives : (s : List ℕ) → (dnet_form_of s).ok ≡ true → IsDnet s (dnet_form_of s).values
unfolding dnet_form_of read_of
dnet_gives s h = let g = form_gives dnet_parts (41 ∷ []) s (omega arith, omega arith, tt) h in (g.0, g.1.0, g.2)

-- the form of four numbers is read with just these
pub ccor_read : (s : List ℕ) (v : List ℤ) → IsCcor s v
    → ccor_form_of s ≡ record { ok = true; next = length (parts_text ccor_parts v); values = values_from v 4 0 ++ replicate 37 (pos 0) }
unfolding ccor_form_of read_of filled values_from
ccor_read s v h = form_read ccor_parts (41 ∷ []) s v (tt, tt) tt (h.0, (h.1, tt), h.2)

-- a line that is read as one is the form of the numbers read
pub ccor_gives : (s : List ℕ) → (ccor_form_of s).ok ≡ true → IsCcor s (ccor_form_of s).values
unfolding ccor_form_of read_of
ccor_gives s h = let g = form_gives ccor_parts (41 ∷ []) s (omega arith, omega arith, tt) h in (g.0, g.1.0, g.2)

-- ---- run

module _ (s : List ℕ) where
  -- the ten fields read, and the array after them
  fields : Reading
  fields = read_of s field_parts start_of

  array : Reading
  array = field_of s array_part.text 10 7 fields

  -- the array and the switches begin differently
  no_array : (k : ℕ) → starts_of s k switches_part.text ≡ true → starts_of s k array_part.text ≡ false
  unfolding starts_of
  no_array k h =
      let h1 = and_second (here_of s k 41) _ h in
      let h2 = and_second (here_of s (k + 1) 32) _ h1 in
      let h3 = and_second (here_of s (k + 1 + 1) 40) _ h2 in
      let c : here_of s (k + 1 + 1 + 1) 97 ≡ false = here_other s (k + 1 + 1 + 1) 115 97 (λ e. omega arith) (and_first (here_of s (k + 1 + 1 + 1) 115) _ h3) in
      rw (c, and_first (here_of s k 41) _ h, and_first (here_of s (k + 1) 32) _ h1, and_first (here_of s (k + 1 + 1) 40) _ h2)

  -- the run form by whether the array is read
  with_array : array.ok ≡ true → (run_form_of s).reading ≡ closed_of s (41 ∷ 41 ∷ []) (read_of s (run_parts true) start_of)
  unfolding run_form_of last_fields later_of date_fields place_fields activity_fields read_of fields array
  with_array e = ap (λ (r : Reading). closed_of s (41 ∷ 41 ∷ []) (field_of s switches_part.text 17 24 r)) (sym (cond_true _ array _ e))

  without_array : array.ok ≡ false → (run_form_of s).reading ≡ closed_of s (41 ∷ 41 ∷ []) (read_of s (run_parts false) start_of)
  unfolding run_form_of last_fields later_of date_fields place_fields activity_fields read_of fields array
  without_array e = ap (λ (r : Reading). closed_of s (41 ∷ 41 ∷ []) (field_of s switches_part.text 17 24 r)) (sym (cond_false _ _ fields e))

  -- a form that is read has been read up to its switches
  read_all : (b : Bool) → (closed_of s (41 ∷ 41 ∷ []) (read_of s (run_parts b) start_of)).ok ≡ true → (read_of s (run_parts b) start_of).ok ≡ true
  unfolding closed_of
  read_all b h = and_first _ _ (and_second (ltb (length s) 512) _ h)

  fields_length : 41 ≤ length fields.values
  unfolding fields start_of
  fields_length = rw (read_length s field_parts start_of) (omega arith)

  -- the array has been read where the switches after it have
  array_read : (read_of s (run_parts true) start_of).ok ≡ true → array.ok ≡ true
  unfolding read_of fields array start_of
  array_read h =
      let l : 41 ≤ length array.values = rw (read_length s (field_parts ++ (array_part ∷ [])) start_of) (omega arith) in
      (field_gives s switches_part.text 17 24 array (omega arith) h).so_far

  array_there : array.ok ≡ true → starts_of s fields.next array_part.text ≡ true
  unfolding array
  array_there h = (field_gives s array_part.text 10 7 fields (omega (arith, fields_length)) h).there

  switches_there : (read_of s (run_parts false) start_of).ok ≡ true → starts_of s fields.next switches_part.text ≡ true
  unfolding read_of fields
  switches_there h = (field_gives s switches_part.text 17 24 fields (omega (arith, fields_length)) h).there

  -- where the array does not begin it is not read
  not_read : starts_of s fields.next array_part.text ≡ false → array.ok ≡ false
  unfolding field_of stopped_of array
  not_read e = by fields.ok refl
    where
      by : (b : Bool) → fields.ok ≡ b → array.ok ≡ false
      by true f = sym (ap (λ (r : Reading). r.ok) (cond_true _ (stopped_of fields) _ (ap not e) ∙ cond_false _ fields _ (ap not f)))
      by false f = sym (ap (λ (r : Reading). r.ok) (cond_true _ fields _ (ap not f))) ∙ f

  mark_is : (b : Bool) → starts_of s fields.next array_part.text ≡ b → (run_form_of s).array ≡ b
  unfolding run_form_of date_fields place_fields activity_fields read_of fields
  mark_is b e = e

plain_fields : (qs : List Part) → AllPlain qs → AllPlain (field_parts ++ qs)
plain_fields qs a = (tt, (tt, (tt, (tt, (tt, (tt, (tt, (tt, (tt, (tt, a))))))))))

rising_fields : (qs : List Part) → Rising 10 41 qs → Rising 0 41 (field_parts ++ qs)
rising_fields qs a = (omega arith, omega arith, (omega arith, omega arith, (omega arith, omega arith, (omega arith, omega arith, (omega arith, omega arith, (omega arith, omega arith, (omega arith, omega arith, (omega arith, omega arith, (omega arith, omega arith, (omega arith, omega arith, a))))))))))

run_is : (s : List ℕ) (b : Bool) (r : Reading) → (run_form_of s).array ≡ b → (run_form_of s).reading ≡ r → run_form_of s ≡ record { array = b; reading = r }
run_is s b r e f = ap (λ (a : Bool). record { array = a; reading = (run_form_of s).reading }) e ∙ ap (λ (q : Reading). record { array = b; reading = q }) f

-- the run form of numbers, with or without the array, is read with just these
pub run_read : (b : Bool) (s : List ℕ) (v : List ℤ) → IsRun b s v
    → run_form_of s ≡ record { array = b; reading = record { ok = true; next = length (parts_text (run_parts b) v); values = run_values b v } }
unfolding filled values_from
run_read true s v h =
    let q = form_read (run_parts true) (41 ∷ 41 ∷ []) s v (plain_fields (array_part ∷ switches_part ∷ []) (tt, (tt, tt))) tt h in
    let a : (array s).ok ≡ true = array_read s (read_all s true (ap (λ (r : Reading). r.ok) q)) in
    run_is s true _ (mark_is s true (array_there s a)) (with_array s a ∙ q)
run_read false s v h =
    let q = form_read (run_parts false) (41 ∷ 41 ∷ []) s v (plain_fields (switches_part ∷ []) (tt, tt)) tt h in
    let e : starts_of s (fields s).next array_part.text ≡ false = no_array s _ (switches_there s (read_all s false (ap (λ (r : Reading). r.ok) q))) in
    run_is s false _ (mark_is s false e) (without_array s (not_read s e) ∙ q)

-- a line that is read as one is the run form of the numbers read
pub run_gives : (s : List ℕ) → (run_form_of s).reading.ok ≡ true → IsRun (run_form_of s).array s (run_form_of s).reading.values
run_gives s h = by (array s).ok refl
  where
    same : (b : Bool) (r : Reading) → (run_form_of s).array ≡ b → (run_form_of s).reading ≡ r → IsRun b s r.values → IsRun (run_form_of s).array s (run_form_of s).reading.values
    same b r e f g = subst (λ (a : Bool). IsRun a s (run_form_of s).reading.values) (sym e) (subst (λ (q : Reading). IsRun b s q.values) (sym f) g)

    by : (b : Bool) → (array s).ok ≡ b → IsRun (run_form_of s).array s (run_form_of s).reading.values
    by true e =
        let p = with_array s e in
        let k = ap (λ (r : Reading). r.ok) (sym p) ∙ h in
        same true _ (mark_is s true (array_there s e)) p
        (form_gives (run_parts true) (41 ∷ 41 ∷ []) s (rising_fields (array_part ∷ switches_part ∷ []) (omega arith, omega arith, (omega arith, omega arith, tt))) k)
    by false e =
        let p = without_array s e in
        let k = ap (λ (r : Reading). r.ok) (sym p) ∙ h in
        same false _ (mark_is s false (no_array s _ (switches_there s (read_all s false k)))) p
        (form_gives (run_parts false) (41 ∷ 41 ∷ []) s (rising_fields (switches_part ∷ []) (omega arith, omega arith, tt)) k)
