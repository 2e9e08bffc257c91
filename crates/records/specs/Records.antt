-- Many records under one switch row: their answers and rows, one behind the other.
use Rattle.std.specs.Prelude.{IfSome, ℕ, zero, suc, ◌*◌, ◌≡◌, Bool, cond, not, ◌&&◌, Option, List, ◌++◌, ℤ, length, take, drop, set, Float}
use Rattle.std.specs.Float.{binary64}
use Rattle.std.specs.Float.Ieee.{of_int}
use Rattle.needed_sets.specs.declared.Need.{Need}
use Rattle.season.specs.Season.{Seasoned}
use Rattle.expansion_values.specs.InSeason.{longitude_in}
use Rattle.acceptance.specs.Acceptance.{record_answer}
use Rattle.atmosphere.specs.Atmosphere.{row_after}
use Rattle.host_record.specs.Record.{code_of}
use Rattle.record_list.specs.RecordList.{record_at}
use Rattle.records.specs.declared.KeptSeason.{KeptSeason}

-- the answers behind the first k records: each as the one-altitude call answers the record, in its own place; the others as they were
unfoldable pub answers_to : List ℤ → List ℤ → List Float → List Float → ℕ → List ℕ → List ℕ
answers_to w days f l zero xs = xs
answers_to w days f l (suc k) xs = set (answers_to w days f l k xs) k (code_of (record_answer w (record_at days f l k)))

-- the k-th eleven numbers, and others in their place
abbrev pub row_at : ℕ → List Float → List Float
row_at k xs = take 11 (drop (11 * k) xs)

abbrev pub with_row : ℕ → List Float → List Float → List Float
with_row k xs row = take (11 * k) xs ++ (row ++ drop 11 (drop (11 * k) xs))

-- the rows behind the first k records: the one-altitude call's, each in its own part; a refused record's part as it was
unfoldable pub rows_to : List ℤ → List ℤ → List Float → List Float → ℕ → List Float → List Float
rows_to w days f l zero xs = xs
rows_to w days f l (suc k) xs = let rows = rows_to w days f l k xs in with_row k rows (row_after w (record_at days f l k) (row_at k rows))

-- ---- the season that is kept

abbrev agreed : Bool → Bool → Bool
agreed a b = cond a b (not b)

abbrev pub same_need : Need → Need → Bool
same_need a b = agreed a.high b.high && agreed a.pt b.pt && agreed a.ps b.ps && agreed a.nodes b.nodes && agreed a.meso b.meso && agreed a.tropo b.tropo

-- a season that is kept is the one of its day, for its sets
abbrev pub KeptRight : List ℤ → Option KeptSeason → List Float → Type 0
KeptRight w kept s = (length s ≡ 156) × IfSome kept (λ k. Seasoned (of_int binary64 k.doy) k.need (longitude_in w) s)
