-- The phases of the season's cosines, place by place.
use Rattle.std.specs.Prelude.{List, [], ◌∷◌, ◌++◌, set, Float}
use Rattle.numbers.specs.Arithmetic.{◌‼◌}
use Rattle.numbers.specs.Literals.{0·0}
use Rattle.needed_sets.specs.Sets.{globe7_sets, glob7s_sets}

-- the phases of a set's four cosines of the day, and of the four that the longitude's term of glob7s reads besides
abbrev pub day_phases : List Float → List Float
day_phases p = p ‼ 31 ∷ p ‼ 17 ∷ p ‼ 13 ∷ p ‼ 38 ∷ []

abbrev pub longitude_phases : List Float → List Float
longitude_phases p = p ‼ 81 ∷ p ‼ 86 ∷ p ‼ 84 ∷ p ‼ 88 ∷ []

unfoldable pub phases_of : (List Float → List Float) → List (List Float) → List Float
phases_of f [] = []
phases_of f (p ∷ ps) = f p ++ phases_of f ps

-- globe7's sets, four places each; glob7s' sets; and these again for the longitude's term
unfoldable pub season_phases : List Float
season_phases = phases_of day_phases globe7_sets ++ (phases_of day_phases glob7s_sets ++ phases_of longitude_phases glob7s_sets)

-- 0 at the three places that take another place's cosine: the phase of PD[3] and PS there is PD[2]'s, that of PD[8] is PT's
unfoldable pub place_phases : List Float
place_phases = set (set (set season_phases 18 0·0) 38 0·0) 42 0·0
