-- A line's answer by the form that it is; and however the input is cut into chunks, the program writes the answers to the lines of the whole.
use mathlib.Core.Path.{◌≡◌, refl, sym, ap, ◌∙◌}
use mathlib.Core.Bool.{Bool, true, false, cond}
use mathlib.Core.List.{List, [], ◌∷◌, ◌++◌, append_assoc, append-nil}
use Prim.Native.Nat.{ℕ, suc, ◌<◌, ◌≤◌}
use native.Mathlib.Nat.{le_of_lt, le_refl}
use native.Mathlib.Omega.{arith}
use borrow.Author.Tests.{ltb-true, ltb-false, ne_eqb}
use lib.Dec.{ltb, eqb}
use lib.IntN.{ℤ, pos}
use lib.ListN.{length, take, get_or, length-append}
use lib.Seq.{length-take-le, take_all, take-append-le}
use lib.Ieee.{Float}
use Rattle.mixing.specs.Mixing.{ccor_of, dnet_of}
use Rattle.line_form.specs.declared.Reading.{Reading}
use Rattle.line_form.specs.declared.Run.{Run}
use Rattle.line_form.specs.Grammar.{dnet_form_of, ccor_form_of, run_form_of, thousandths_of, thousandths_at, values_from}
use Rattle.line_form.specs.Forms.{parts_text, run_parts, run_values, IsDnet, IsCcor, IsRun}
use Rattle.line_form.proofs.Theorems.{dnet_read, dnet_gives, ccor_read, ccor_gives, run_read, run_gives}
use Rattle.line_text.specs.Text.{value_text, refused_text}
use Rattle.line_text.proofs.Choice.{cond_true, cond_false}
use Rattle.line_answer.specs.Answer.{dnet_value, ccor_value, run_answer, answer_text}
use Rattle.line_cut.specs.Lines.{lines_from, next_number, kept_of}
use Rattle.line_answer.specs.Lines.{answers_from, answers_to, Progress, step_of, fed_of, last_printed, begin, written_for, joined_chunks}

-- ---- a line by its form

false_is : (b : Bool) → (b ≡ true → ⊥) → b ≡ false
false_is true f = absurd (f refl)
false_is false f = refl

-- the forms differ in their second byte
module _ (s : List ℕ) where
  second : (c : ℕ) (t : List ℕ) → s ≡ t → get_or t 1 0 ≡ c → (get_or s 1 0 ≡ c)
  second c t e h = ap (λ (l : List ℕ). get_or l 1 0) e ∙ h

  no_dnet : (get_or s 1 0 ≡ 100 → ⊥) → (dnet_form_of s).ok ≡ false
  unfolding parts_text
  no_dnet f = false_is _ (λ h. f (second 100 _ (dnet_gives s h).0 refl))

  no_ccor : (get_or s 1 0 ≡ 99 → ⊥) → (ccor_form_of s).ok ≡ false
  unfolding parts_text
  no_ccor f = false_is _ (λ h. f (second 99 _ (ccor_gives s h).0 refl))

-- the number at an index, as thousandths
abbrev pub thousandth : List ℤ → ℕ → Float
thousandth v i = thousandths_of (get_or v i (pos 0))

-- a dnet form is answered with the value of dnet
pub dnet_answer : (s : List ℕ) (v : List ℤ) (number : ℕ) → IsDnet s v
    → answer_text s number ≡ value_text (dnet_of (thousandth v 0) (thousandth v 1) (thousandth v 2) (thousandth v 3) (thousandth v 4))
unfolding answer_text dnet_value thousandths_at values_from
dnet_answer s v number h =
    let e = dnet_read s v h in
    sym (cond_true _ _ _ (ap (λ (r : Reading). r.ok) e)) ∙ ap (λ (r : Reading). value_text (dnet_value r)) e

-- a ccor form is answered with the value of ccor
pub ccor_answer : (s : List ℕ) (v : List ℤ) (number : ℕ) → IsCcor s v
    → answer_text s number ≡ value_text (ccor_of (thousandth v 0) (thousandth v 1) (thousandth v 2) (thousandth v 3))
unfolding answer_text ccor_value thousandths_at values_from parts_text
ccor_answer s v number h =
    let e = ccor_read s v h in
    let c : get_or s 1 0 ≡ 99 = second s 99 _ h.0 refl in
    sym (cond_false _ _ _ (no_dnet s (λ d. omega arith)))
    ∙ (sym (cond_true _ _ _ (ap (λ (r : Reading). r.ok) e)) ∙ ap (λ (r : Reading). value_text (ccor_value r)) e)

-- a run form is answered with the row, or the refusal, of its record under its switches
pub run_answer_lem : (array : Bool) (s : List ℕ) (v : List ℤ) (number : ℕ) → IsRun array s v
    → answer_text s number
    ≡ run_answer (record { array = array; reading = record { ok = true; next = length (parts_text (run_parts array) v); values = run_values array v } })
unfolding answer_text parts_text
run_answer_lem array s v number h =
    let e = run_read array s v h in
    let c : get_or s 1 0 ≡ 114 = second s 114 _ h.0 refl in
    sym (cond_false _ _ _ (no_dnet s (λ d. omega arith)))
    ∙ (sym (cond_false _ _ _ (no_ccor s (λ d. omega arith))) ∙ (sym (cond_true _ _ _ (ap (λ (f : Run). f.reading.ok) e)) ∙ ap run_answer e))

-- a line that is no form is refused with 7 and its number
pub no_form : (s : List ℕ) (number : ℕ) → ((v : List ℤ) → IsDnet s v → ⊥) → ((v : List ℤ) → IsCcor s v → ⊥) → ((array : Bool) (v : List ℤ) → IsRun array s v → ⊥)
    → answer_text s number ≡ refused_text 7 number
unfolding answer_text
no_form s number f g h =
    sym (cond_false _ _ _ (false_is _ (λ e. f _ (dnet_gives s e))))
    ∙ (sym (cond_false _ _ _ (false_is _ (λ e. g _ (ccor_gives s e)))) ∙ sym (cond_false _ _ _ (false_is _ (λ e. h (run_form_of s).array (run_form_of s).reading.values (run_gives s e)))))

-- ---- long lines

-- a line of more than 511 bytes is refused with 7
pub long_line : (s : List ℕ) (number : ℕ) → 512 ≤ length s → answer_text s number ≡ refused_text 7 number
long_line s number h =
    no_form s number (λ v f. short f.2) (λ v f. short f.2) (λ array v f. short f.2)
  where
    short : length s < 512 → ⊥
    short l = omega arith

-- so the first 512 bytes of a line decide its answer
pub cut_line : (s : List ℕ) (number : ℕ) → answer_text (take 512 s) number ≡ answer_text s number
cut_line s number = by (ltb (length s) 512) refl
  where
    by : (b : Bool) → ltb (length s) 512 ≡ b → answer_text (take 512 s) number ≡ answer_text s number
    by true e = ap (λ (t : List ℕ). answer_text t number) (take_all 512 s (le_of_lt (ltb-true _ _ e)))
    by false e =
        let h : 512 ≤ length s = ltb-false _ _ e in
        let g : 512 ≤ length (take 512 s) = rw (length-take-le 512 s h) (le_refl 512) in
        long_line (take 512 s) number g ∙ sym (long_line s number h)

kept_cut : (l : List ℕ) (b : ℕ) → kept_of (take 512 l) b ≡ take 512 (l ++ (b ∷ []))
unfolding kept_of
kept_cut l b = by (ltb (length l) 512) refl
  where
    by : (q : Bool) → ltb (length l) 512 ≡ q → cond (ltb (length (take 512 l)) 512) (take 512 l ++ (b ∷ [])) (take 512 l) ≡ take 512 (l ++ (b ∷ []))
    by true e =
        let h : length l < 512 = ltb-true _ _ e in
        let g : length (l ++ (b ∷ [])) ≤ 512 = simp length-append (omega arith) in
        rw (take_all 512 l (le_of_lt h), take_all 512 (l ++ (b ∷ [])) g) (sym (cond_true _ _ _ e))
    by false e =
        let h : 512 ≤ length l = ltb-false _ _ e in
        rw (take-append-le 512 l (b ∷ []) h) (sym (cond_false _ _ _ (ap (λ (k : ℕ). ltb k 512) (length-take-le 512 l h))))

-- ---- answers before

after : List ℕ → Progress → Progress
after t s = record { kept = s.kept; number = s.number; printed = t ++ s.printed }

step_after : (t : List ℕ) (b : ℕ) (s : Progress) → step_of b (after t s) ≡ after t (step_of b s)
unfolding step_of after
step_after t b s = by (eqb b 10)
  where
    by : (q : Bool)
        → cond q (record { kept = []; number = next_number s.number; printed = t ++ s.printed ++ answer_text s.kept s.number })
        (record { kept = kept_of s.kept b; number = s.number; printed = t ++ s.printed })
        ≡ after t (cond q (record { kept = []; number = next_number s.number; printed = s.printed ++ answer_text s.kept s.number })
        (record { kept = kept_of s.kept b; number = s.number; printed = s.printed }))
    by true = rw (append_assoc t s.printed (answer_text s.kept s.number))
    by false = refl

fed_after : (t bytes : List ℕ) (s : Progress) → fed_of bytes (after t s) ≡ after t (fed_of bytes s)
unfolding fed_of
fed_after t [] s = refl
fed_after t (b ∷ bytes) s = ap (fed_of bytes) (step_after t b s) ∙ fed_after t bytes (step_of b s)

-- ---- a chunk

-- the line begun after a chunk, and the answers to all that follows
record Fed (bytes rest l : List ℕ) (n : ℕ) : Type 0 where
  begun : List ℕ
  kept_is : (fed_of bytes (begin (take 512 l) n)).kept ≡ take 512 begun
  answers : (fed_of bytes (begin (take 512 l) n)).printed ++ answers_from (fed_of bytes (begin (take 512 l) n)).number (lines_from rest begun)
      ≡ answers_from n (lines_from (bytes ++ rest) l)

newline : (l : List ℕ) (n b : ℕ) → eqb b 10 ≡ true → step_of b (begin (take 512 l) n) ≡ after (answer_text l n) (begin [] (next_number n))
unfolding step_of after
newline l n b e = sym (cond_true _ _ _ e) ∙ rw (cut_line l n, append-nil (answer_text l n))

no_newline : (l : List ℕ) (n b : ℕ) → eqb b 10 ≡ false → step_of b (begin (take 512 l) n) ≡ begin (take 512 (l ++ (b ∷ []))) n
unfolding step_of
no_newline l n b e = sym (cond_false _ _ _ e) ∙ rw (kept_cut l b)

fed_more : (b : ℕ) (bytes rest l : List ℕ) (n : ℕ) → Fed bytes rest [] (next_number n) → Fed bytes rest (l ++ (b ∷ [])) n → Fed (b ∷ bytes) rest l n
unfolding fed_of lines_from answers_from after
fed_more b bytes rest l n f g = by (eqb b 10) refl
  where
    by : (q : Bool) → eqb b 10 ≡ q → Fed (b ∷ bytes) rest l n
    by true e =
        let t : List ℕ = answer_text l n in
        let s : Progress = fed_of bytes (begin [] (next_number n)) in
        let p : fed_of bytes (step_of b (begin (take 512 l) n)) ≡ after t s = ap (fed_of bytes) (newline l n b e) ∙ fed_after t bytes (begin [] (next_number n)) in
        record {
          begun = f.begun;
          kept_is = ap (λ (q : Progress). q.kept) p ∙ f.kept_is;
          answers =
              ap (λ (q : Progress). q.printed ++ answers_from q.number (lines_from rest f.begun)) p
              ∙ (append_assoc t s.printed (answers_from s.number (lines_from rest f.begun))
              ∙ (ap (λ (r : List ℕ). t ++ r) f.answers ∙ ap (answers_from n) (cond_true _ (l ∷ lines_from (bytes ++ rest) []) _ e)));
        }
    by false e =
        let p : fed_of bytes (step_of b (begin (take 512 l) n)) ≡ fed_of bytes (begin (take 512 (l ++ (b ∷ []))) n) = ap (fed_of bytes) (no_newline l n b e) in
        record {
          begun = g.begun;
          kept_is = ap (λ (q : Progress). q.kept) p ∙ g.kept_is;
          answers =
              ap (λ (q : Progress). q.printed ++ answers_from q.number (lines_from rest g.begun)) p
              ∙ (g.answers ∙ ap (answers_from n) (cond_false _ _ (lines_from (bytes ++ rest) (l ++ (b ∷ []))) e));
        }

fed : (bytes rest l : List ℕ) (n : ℕ) → Fed bytes rest l n
unfolding fed_of
fed [] rest l n = record { begun = l; kept_is = refl; answers = refl }
fed (b ∷ bytes) rest l n = fed_more b bytes rest l n (fed bytes rest [] (next_number n)) (fed bytes rest (l ++ (b ∷ [])) n)

-- ---- the whole input

ended : (l : List ℕ) (n : ℕ) → last_printed (begin (take 512 l) n) ≡ answers_from n (lines_from [] l)
unfolding last_printed lines_from answers_from
ended [] n = refl
ended (c ∷ l) n = sym (cond_false _ _ _ (ne_eqb _ 0 some)) ∙ (cut_line (c ∷ l) n ∙ sym (append-nil (answer_text (c ∷ l) n)))
  where
    some : suc (length (take 511 l)) ≡ 0 → ⊥
    some e = omega arith

written : (chunks : List (List ℕ)) (l : List ℕ) (n : ℕ) → written_for chunks (take 512 l) n ≡ answers_from n (lines_from (joined_chunks chunks) l)
unfolding written_for joined_chunks
written [] l n = ended l n
written (c ∷ chunks) l n =
    let f = fed c (joined_chunks chunks) l n in
    let s : Progress = fed_of c (begin (take 512 l) n) in
    ap (λ (k : List ℕ). s.printed ++ written_for chunks k s.number) f.kept_is
    ∙ (ap (λ (t : List ℕ). s.printed ++ t) (written chunks f.begun s.number) ∙ f.answers)

-- whatever the chunks, what is written are the answers to the lines of the whole input
pub lines_answered : (chunks : List (List ℕ)) → written_for chunks [] 1 ≡ answers_to (joined_chunks chunks)
unfolding answers_to
lines_answered chunks = written chunks [] 1
