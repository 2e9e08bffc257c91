-- The line program's forms as texts of their numbers. A form has its numbers where a Reading has them: v holds the fields 0 to 9, the
-- array's values from 10, the switches from 17; of dnet and ccor the first numbers.
use Rattle.std.specs.Prelude.{ℕ, suc, ◌<◌, ◌≡◌, Bool, true, false, cond, List, [], ◌∷◌, ◌++◌, ℤ, pos, negsuc, length, replicate}
use Rattle.line_text.specs.Text.{decimal_text}
use Rattle.line_form.specs.Grammar.{values_from}

-- a whole number in decimal digits without leading zeros, after a minus where it is below 0
unfoldable pub number_text : ℤ → List ℕ
number_text (pos n) = decimal_text n
number_text (negsuc n) = 45 ∷ decimal_text (suc n)

-- a number of at most nine digits
abbrev pub Nine : ℤ → Type 0
Nine (pos n) = n < 1000000000
Nine (negsuc n) = suc n < 1000000000

abbrev pub AllNine : List ℤ → Type 0
AllNine [] = Unit {0}
AllNine (z ∷ zs) = Nine z × AllNine zs

-- each number after a space
unfoldable pub numbers_text : List ℤ → List ℕ
numbers_text [] = []
numbers_text (z ∷ zs) = (32 ∷ number_text z) ++ numbers_text zs

-- a part of a form: a text, and how many numbers follow it, the first of them at an index
pub record Part : Type 0 where
  pub text : List ℕ
  pub at : ℕ
  pub count : ℕ

unfoldable pub parts_text : List Part → List ℤ → List ℕ
parts_text [] v = []
parts_text (p ∷ ps) v = (p.text ++ numbers_text (values_from v p.count p.at)) ++ parts_text ps v

-- the parts' numbers have at most nine digits
abbrev pub NineIn : List Part → List ℤ → Type 0
NineIn [] v = Unit {0}
NineIn (p ∷ ps) v = AllNine (values_from v p.count p.at) × NineIn ps v

-- (dnet dd dm zhm xmm xm)
abbrev pub dnet_parts : List Part
dnet_parts = record { text = 40 ∷ 100 ∷ 110 ∷ 101 ∷ 116 ∷ []; at = 0; count = 5 } ∷ []

abbrev pub dnet_text : List ℤ → List ℕ
dnet_text v = parts_text dnet_parts v ++ (41 ∷ [])

abbrev pub IsDnet : List ℕ → List ℤ → Type 0
IsDnet s v = (s ≡ dnet_text v) × AllNine (values_from v 5 0) × (length s < 512)

-- (ccor alt r h1 zh)
abbrev pub ccor_parts : List Part
ccor_parts = record { text = 40 ∷ 99 ∷ 99 ∷ 111 ∷ 114 ∷ []; at = 0; count = 4 } ∷ []

abbrev pub ccor_text : List ℤ → List ℕ
ccor_text v = parts_text ccor_parts v ++ (41 ∷ [])

abbrev pub IsCcor : List ℕ → List ℤ → Type 0
IsCcor s v = (s ≡ ccor_text v) × AllNine (values_from v 4 0) × (length s < 512)

-- the ten fields of a record, one nested form each
abbrev pub field_parts : List Part
field_parts =
    -- "(run (year"
    record { text = 40 ∷ 114 ∷ 117 ∷ 110 ∷ 32 ∷ 40 ∷ 121 ∷ 101 ∷ 97 ∷ 114 ∷ []; at = 0; count = 1 } ∷
    -- ") (doy"
    record { text = 41 ∷ 32 ∷ 40 ∷ 100 ∷ 111 ∷ 121 ∷ []; at = 1; count = 1 } ∷
    -- ") (sec"
    record { text = 41 ∷ 32 ∷ 40 ∷ 115 ∷ 101 ∷ 99 ∷ []; at = 2; count = 1 } ∷
    -- ") (alt"
    record { text = 41 ∷ 32 ∷ 40 ∷ 97 ∷ 108 ∷ 116 ∷ []; at = 3; count = 1 } ∷
    -- ") (g_lat"
    record { text = 41 ∷ 32 ∷ 40 ∷ 103 ∷ 95 ∷ 108 ∷ 97 ∷ 116 ∷ []; at = 4; count = 1 } ∷
    -- ") (g_long"
    record { text = 41 ∷ 32 ∷ 40 ∷ 103 ∷ 95 ∷ 108 ∷ 111 ∷ 110 ∷ 103 ∷ []; at = 5; count = 1 } ∷
    -- ") (lst"
    record { text = 41 ∷ 32 ∷ 40 ∷ 108 ∷ 115 ∷ 116 ∷ []; at = 6; count = 1 } ∷
    -- ") (f107a"
    record { text = 41 ∷ 32 ∷ 40 ∷ 102 ∷ 49 ∷ 48 ∷ 55 ∷ 97 ∷ []; at = 7; count = 1 } ∷
    -- ") (f107"
    record { text = 41 ∷ 32 ∷ 40 ∷ 102 ∷ 49 ∷ 48 ∷ 55 ∷ []; at = 8; count = 1 } ∷
    -- ") (ap"
    record { text = 41 ∷ 32 ∷ 40 ∷ 97 ∷ 112 ∷ []; at = 9; count = 1 } ∷ []

-- ") (ap_array" and seven numbers
abbrev pub array_part : Part
array_part = record { text = 41 ∷ 32 ∷ 40 ∷ 97 ∷ 112 ∷ 95 ∷ 97 ∷ 114 ∷ 114 ∷ 97 ∷ 121 ∷ []; at = 10; count = 7 }

-- ") (switches" and 24 numbers
abbrev pub switches_part : Part
switches_part = record { text = 41 ∷ 32 ∷ 40 ∷ 115 ∷ 119 ∷ 105 ∷ 116 ∷ 99 ∷ 104 ∷ 101 ∷ 115 ∷ []; at = 17; count = 24 }

-- the array may be left out
abbrev pub run_parts : Bool → List Part
run_parts array = field_parts ++ cond array (array_part ∷ switches_part ∷ []) (switches_part ∷ [])

-- (run (year ..) .. (switches ..))
abbrev pub run_text : Bool → List ℤ → List ℕ
run_text array v = parts_text (run_parts array) v ++ (41 ∷ 41 ∷ [])

abbrev pub IsRun : Bool → List ℕ → List ℤ → Type 0
IsRun array s v = (s ≡ run_text array v) × NineIn (run_parts array) v × (length s < 512)

-- the numbers that a run form has: all 41, or all but the array's
abbrev pub run_values : Bool → List ℤ → List ℤ
run_values true v = values_from v 41 0
run_values false v = values_from v 10 0 ++ replicate 7 (pos 0) ++ values_from v 24 17
