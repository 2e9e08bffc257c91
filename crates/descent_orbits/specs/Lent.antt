-- A descent's answer, and the lent memory after it.
use Rattle.std.specs.Prelude.{ℕ, List, [], ◌∷◌, ◌++◌, map, ℤ, pos, length, drop}
use Rattle.descent_orbits.specs.declared.Ending.{Ending}
use Rattle.descent_orbits.specs.declared.Ending.TheVariants.{NoDensity, Reached, Spent}
use Rattle.descent_orbits.specs.declared.Descended.{Descended}
use Rattle.descent_orbits.specs.DescentOrbits.{Descent}

abbrev pub Ended : Ending → ℕ → ℕ → Descended
Ended e last taken = record { ending = e; last = last; taken = taken }

-- 'the ending, the last altitude and how many losses were taken'
unfoldable pub end_of_descent : Descent → Descended
end_of_descent r = Ended r.ending r.last (length r.losses)

-- 'these losses fill the start of a lent list, the rest untouched'
unfoldable pub losses_after : Descent → List ℤ → List ℤ
losses_after r xs = map pos r.losses ++ drop (length r.losses) xs

-- ---- the C call

-- the endings' numbers
abbrev pub ending_number : Ending → ℕ
ending_number NoDensity = 1
ending_number Reached = 2
ending_number Spent = 3

-- the ending, the last altitude and the count as three numbers
unfoldable pub end_numbers : Ending → ℕ → ℕ → List ℤ
end_numbers e last count = pos (ending_number e) ∷ pos last ∷ pos count ∷ []
