-- The input cut into lines: a byte taken, a chunk, and the end of the input.
use mathlib.Core.Path.{◌≡◌, refl, sym, ap, ◌∙◌}
use mathlib.Core.Bool.{false}
use mathlib.Core.List.{List, [], ◌++◌}
use Prim.Native.Nat.{ℕ, ◌+◌, ◌-◌, ◌<◌, ◌≤◌, zero-le}
use native.Mathlib.Numerals.{add-one}
use borrow.Author.Tests.{eq-eqb, ne_eqb}
use lib.Dec.{eqb}
use lib.ListN.{length, take, drop, get_or, length-append}
use native.Mathlib.Omega.{arith}
use lib.Seq.{length-take-le, take_at, drop_at, drop-drop, drop-cons, drop-length}
use Rattle.line_text.proofs.Choice.{cond_true, cond_false}
use Rattle.line_text.specs.Text.{written, Writes}
use Rattle.line_cut.specs.Lines.{next_number, kept_of, len_kept, line_kept}
use Rattle.line_answer.specs.declared.Place.{Place}
use Rattle.line_answer.specs.Answer.{answer_text}
use Rattle.line_answer.specs.Lines.{Progress, progress_of, step_of, fed_of, len_after, line_step, line_after, KeptBehind, last_printed, begin}

take_written : (b c t : List ℕ) (at r : ℕ) → at ≤ length b → Writes b at t c r → take r c ≡ take at b ++ t
unfolding written
take_written b c t at r h w =
    rw (w.1, w.0) (take_at (take at b ++ t) (drop (at + length t) b) (at + length t) (length-append (take at b) t ∙ ap (λ (k : ℕ). k + length t) (length-take-le at b h)))

-- ---- behind the used part

pub behind_written : (b c t : List ℕ) (at r : ℕ) → at ≤ length b → Writes b at t c r → KeptBehind b c r
unfolding written
behind_written b c t at r h w =
    rw (w.1, w.0) (drop_at (take at b ++ t) (drop (at + length t) b) (at + length t) (length-append (take at b) t ∙ ap (λ (k : ℕ). k + length t) (length-take-le at b h)))

-- what lies behind a part lies behind a longer one
pub behind_more : (b c d : List ℕ) (m n : ℕ) → m ≤ n → KeptBehind b c m → KeptBehind c d n → KeptBehind b d n
behind_more b c d m n h f g =
    g ∙ (further c ∙ ap (drop (n - m)) f ∙ sym (further b))
  where
    further : (l : List ℕ) → drop n l ≡ drop (n - m) (drop m l)
    further l =
        let k : n ≡ m + (n - m) = omega arith in
        ap (λ (i : ℕ). drop i l) k ∙ sym (drop-drop (n - m) m l)

-- ---- a byte

module _ (line out : List ℕ) (p : Place) (b : ℕ) where
  pub line_ended : (c : List ℕ) (r m : ℕ) → b ≡ 10 → p.used ≤ length out → Writes out p.used (answer_text (take p.len line) p.number) c r
      → m ≡ next_number p.number → progress_of line c (record { len = 0; number = m; used = r }) ≡ step_of b (progress_of line out p)
  unfolding progress_of step_of
  line_ended c r m e h w f =
      rw (f, take_written out c (answer_text (take p.len line) p.number) p.used r h w) (cond_true _ _ _ (eq-eqb b 10 e))

  pub line_kept_lem : (l : List ℕ) (m : ℕ) → (b ≡ 10 → ⊥) → take m l ≡ kept_of (take p.len line) b
      → progress_of l out (record { len = m; number = p.number; used = p.used }) ≡ step_of b (progress_of line out p)
  unfolding progress_of step_of
  line_kept_lem l m ne e = rw e (cond_false _ _ _ (ne_eqb b 10 ne))

-- the bytes kept and the line's buffer
module _ (line : List ℕ) (len b : ℕ) where
  pub begun_anew : b ≡ 10 → (0 ≡ len_after b len) × (line ≡ line_step b len line)
  unfolding len_after line_step
  begun_anew e = (cond_true _ _ _ (eq-eqb b 10 e), cond_true _ _ _ (eq-eqb b 10 e))

  pub one_kept : (l : List ℕ) (m : ℕ) → (b ≡ 10 → ⊥) → m ≡ len_kept len → l ≡ line_kept b len line → (m ≡ len_after b len) × (l ≡ line_step b len line)
  unfolding len_after line_step
  one_kept l m ne e f = (e ∙ cond_false _ _ _ (ne_eqb b 10 ne), f ∙ cond_false _ _ _ (ne_eqb b 10 ne))

-- ---- a chunk

pub line_more : (chunk : List ℕ) (i len m : ℕ) (line l : List ℕ) → i < length chunk → m ≡ len_after (get_or chunk i 0) len → l ≡ line_step (get_or chunk i 0) len line
    → line_after (drop (i + 1) chunk) m l ≡ line_after (drop i chunk) len line
unfolding line_after
line_more chunk i len m line l h e g = rw (e, g, add-one, drop-cons chunk i 0 h)

pub line_last : (chunk : List ℕ) (i len : ℕ) (line : List ℕ) → i ≡ length chunk → line ≡ line_after (drop i chunk) len line
unfolding line_after
line_last chunk i len line e = rw (e, drop-length chunk)

pub fed_first : (chunk line out : List ℕ) (len number : ℕ)
    → fed_of (drop 0 chunk) (progress_of line out (record { len = len; number = number; used = 0 })) ≡ fed_of chunk (begin (take len line) number)
unfolding progress_of
fed_first chunk line out len number = refl

pub fed_more : (chunk : List ℕ) (i : ℕ) (s t : Progress) → i < length chunk → t ≡ step_of (get_or chunk i 0) s → fed_of (drop (i + 1) chunk) t ≡ fed_of (drop i chunk) s
unfolding fed_of
fed_more chunk i s t h e = rw (e, add-one, drop-cons chunk i 0 h)

pub fed_last : (chunk : List ℕ) (i : ℕ) (s : Progress) → i ≡ length chunk → s ≡ fed_of (drop i chunk) s
unfolding fed_of
fed_last chunk i s e = rw (e, drop-length chunk)

-- ---- the end of the input

module _ (line : List ℕ) (len number : ℕ) where
  pub no_last : len ≡ 0 → [] ≡ last_printed (begin (take len line) number)
  unfolding last_printed
  no_last e = cond_true _ _ _ (ap (λ (k : ℕ). eqb (length (take k line)) 0) e)

  pub last_line : (len ≡ 0 → ⊥) → len ≤ length line → (out c : List ℕ) (r : ℕ) → Writes out 0 (answer_text (take len line) number) c r
      → take r c ≡ last_printed (begin (take len line) number)
  unfolding last_printed
  last_line n h out c r w =
      let some : eqb (length (take len line)) 0 ≡ false = rw (length-take-le len line h) (ne_eqb _ _ n) in
      take_written out c (answer_text (take len line) number) 0 r zero-le w ∙ cond_false _ _ _ some
