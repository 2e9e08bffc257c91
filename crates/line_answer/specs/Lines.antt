-- The answers to the lines of a text; and the same byte by byte, as the program reads them.
use Rattle.std.specs.Prelude.{ℕ, ◌≡◌, cond, List, [], ◌∷◌, ◌++◌, eqb, length, take, drop}
use Rattle.line_cut.specs.Lines.{lines_from, next_number, kept_of, len_kept, line_kept}
use Rattle.line_answer.specs.declared.Place.{Place}
use Rattle.line_answer.specs.Answer.{answer_text}

-- ---- a whole text

-- the answers to lines, the first of which has the number given
unfoldable pub answers_from : ℕ → List (List ℕ) → List ℕ
answers_from number [] = []
answers_from number (s ∷ lines) = answer_text s number ++ answers_from (next_number number) lines

-- what the program prints for a text
unfoldable pub answers_to : List ℕ → List ℕ
answers_to text = answers_from 1 (lines_from text [])

-- ---- byte by byte

-- where the reading stands: the bytes kept of the line begun, its number, and the answers so far
pub record Progress : Type 0 where
  pub kept : List ℕ
  pub number : ℕ
  pub printed : List ℕ

-- where it stands before a chunk: nothing printed yet
abbrev pub begin : List ℕ → ℕ → Progress
begin kept number = record { kept = kept; number = number; printed = [] }

-- as it is held in the buffers of the line and of the answers
unfoldable pub progress_of : List ℕ → List ℕ → Place → Progress
progress_of line out p = record { kept = take p.len line; number = p.number; printed = take p.used out }

-- a newline has the line answered; any other byte is one more of it
unfoldable pub step_of : ℕ → Progress → Progress
step_of b s =
    cond (eqb b 10) (record { kept = []; number = next_number s.number; printed = s.printed ++ answer_text s.kept s.number })
    (record { kept = kept_of s.kept b; number = s.number; printed = s.printed })

unfoldable pub fed_of : List ℕ → Progress → Progress
fed_of [] s = s
fed_of (b ∷ bytes) s = fed_of bytes (step_of b s)

-- how many bytes of the line begun are kept after a byte, and the line's buffer after it: behind them lies what lay there
unfoldable pub len_after : ℕ → ℕ → ℕ
len_after b len = cond (eqb b 10) 0 (len_kept len)

unfoldable pub line_step : ℕ → ℕ → List ℕ → List ℕ
line_step b len line = cond (eqb b 10) line (line_kept b len line)

-- the line's buffer after the bytes of a chunk
unfoldable pub line_after : List ℕ → ℕ → List ℕ → List ℕ
line_after [] len line = line
line_after (b ∷ bytes) len line = line_after bytes (len_after b len) (line_step b len line)

-- a buffer of answers became c: behind its used part it holds what it held
abbrev pub KeptBehind : List ℕ → List ℕ → ℕ → Type 0
KeptBehind out c used = drop used c ≡ drop used out

-- the answers once the input has ended: the last line may lack its newline
unfoldable pub last_printed : Progress → List ℕ
last_printed s = cond (eqb (length s.kept) 0) s.printed (s.printed ++ answer_text s.kept s.number)

-- ---- chunk by chunk

-- what is written for the chunks that the input comes in: the answers of each, and of a last line without newline
unfoldable pub written_for : List (List ℕ) → List ℕ → ℕ → List ℕ
written_for [] kept number = last_printed (begin kept number)
written_for (chunk ∷ chunks) kept number =
    let s = fed_of chunk (begin kept number) in
    s.printed ++ written_for chunks s.kept s.number

-- the chunks one after the other
unfoldable pub joined_chunks : List (List ℕ) → List ℕ
joined_chunks [] = []
joined_chunks (chunk ∷ chunks) = chunk ++ joined_chunks chunks
