-- Document 02, W-209: the two boards' logs held against each other.
use Rattle.std.specs.Prelude.{ℕ, ◌+◌, ◌-◌, Bool, cond, not, ◌||◌, Ok, Err, List, [], ◌∷◌, ◌++◌, map, leb, ltb, eqb, length, replicate}
use Rattle.logs.specs.declared.LogsRefusal.{LogsRefusal}
use Rattle.logs.specs.declared.LogsRefusal.TheVariants.{Unfit, NotRising, ReportLength}
use Rattle.logs.specs.declared.Report.{Report}

-- an entry of a log: its second and the bits of its density
pub record Entry : Type 0 where
  pub second : ℕ
  pub bits : ℕ

-- a board's log, from its seconds and its densities
unfoldable pub entries_of : List ℕ → List ℕ → List Entry
entries_of [] bs = []
entries_of (s ∷ ss) [] = []
entries_of (s ∷ ss) (b ∷ bs) = record { second = s; bits = b } ∷ entries_of ss bs

-- what holding two logs against each other finds: a pair, a single of board 1, a single of board 2
pub data Finding : Type 0 where
  pair : Entry → Entry → Finding
  single1 : Entry → Finding
  single2 : Entry → Finding

-- how far apart two seconds are
abbrev pub apart : ℕ → ℕ → ℕ
apart a b = (a - b) + (b - a)

-- in the order they arise: of the two front entries, those no further apart than the tolerance t pair up, else the earlier stands alone; once
-- a log is used up, the rest of the other stand alone
unfoldable pub findings : ℕ → List Entry → List Entry → List Finding
findings t [] ys = map single2 ys
findings t (x ∷ xs) [] = map single1 (x ∷ xs)
findings t (x ∷ xs) (y ∷ ys) =
    cond (leb (apart x.second y.second) t) (pair x y ∷ findings t xs ys)
    (cond (ltb x.second y.second) (single1 x ∷ findings t xs (y ∷ ys))
    (single2 y ∷ findings t (x ∷ xs) ys))

-- 1 a pair whose density bits agree, 2 a pair whose bits don't, 3 a single of board 1, 4 of board 2
abbrev pub finding_number : Finding → ℕ
finding_number (pair x y) = cond (eqb x.bits y.bits) 1 2
finding_number (single1 x) = 3
finding_number (single2 y) = 4

unfoldable pub finding_numbers : ℕ → List Entry → List Entry → List ℕ
finding_numbers t xs ys = map finding_number (findings t xs ys)

-- 14: a log over 256 entries or whose seconds and densities differ in number
abbrev pub unfit_log : List ℕ → List ℕ → Bool
unfit_log s b = ltb 256 (length s) || not (eqb (length s) (length b))

-- the index of the first number that is not above the one before it, or how many there are where they rise strictly; the last of the i passed
-- ones is a
unfoldable pub seconds_rise_from : ℕ → ℕ → List ℕ → ℕ
seconds_rise_from i a [] = i
seconds_rise_from i a (b ∷ s) = cond (ltb a b) (seconds_rise_from (i + 1) b s) i

abbrev pub seconds_rise : List ℕ → ℕ
seconds_rise [] = 0
seconds_rise (a ∷ s) = seconds_rise_from 1 a s

-- accepted: the count, and a table of 512 numbers, those found and 0 past the count
abbrev pub accepted_logs : List ℕ → Report
accepted_logs ns = record { answer = Ok (length ns); table = ns ++ replicate (512 - length ns) 0 }

-- refused
abbrev pub refusal : LogsRefusal → Report
refusal e = record { answer = Err e; table = replicate 512 0 }

-- document 02's number of a refusal, and its place
abbrev pub refusal_number : LogsRefusal → ℕ
refusal_number (Unfit board) = 14
refusal_number (NotRising index) = 15
refusal_number (ReportLength n) = 4

abbrev pub refusal_place : LogsRefusal → ℕ
refusal_place (Unfit board) = board
refusal_place (NotRising index) = index
refusal_place (ReportLength n) = n

-- 14 at the board, board 1 first; then 15 at the first later entry's index in board 1, else at 256 plus that in board 2
unfoldable pub report_of : List ℕ → List ℕ → List ℕ → List ℕ → ℕ → Report
report_of s₁ b₁ s₂ b₂ t =
    cond (unfit_log s₁ b₁) (refusal (Unfit 1))
    (cond (unfit_log s₂ b₂) (refusal (Unfit 2))
    (cond (ltb (seconds_rise s₁) (length s₁)) (refusal (NotRising (seconds_rise s₁)))
    (cond (ltb (seconds_rise s₂) (length s₂)) (refusal (NotRising (256 + seconds_rise s₂)))
    (accepted_logs (finding_numbers t (entries_of s₁ b₁) (entries_of s₂ b₂))))))
