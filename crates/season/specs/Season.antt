-- The season: 156 cosines of a day, four places for each set of globe7, four for each of glob7s, and four more for each of glob7s, which its longitude's
-- term reads.
use Rattle.std.specs.Prelude.{ℕ, ◌+◌, ◌-◌, ◌*◌, ◌%◌, ◌<◌, ◌≡◌, Bool, true, cond, ◌||◌, List, eqb, length, set, Float}
use Rattle.numbers.specs.Arithmetic.{◌‼◌}
use Rattle.tables.specs.Tables.{pt_t}
use Rattle.needed_sets.specs.declared.Need.{Need}
use Rattle.needed_sets.specs.NeededSets.{globe7_needed, glob7s_needed, glob7s_end}
use Rattle.needed_sets.specs.Sets.{globe7_set, glob7s_set}
use Rattle.setting.specs.Switches.{filled}
use Rattle.views.specs.Phases.{annual_cos_of, semiannual_cos_of}
use Rattle.expansion_parts.specs.declared.Seasons.{Seasons}
use Rattle.expansion_parts.specs.declared.LongitudeSeasons.{LongitudeSeasons}
use Rattle.expansion_parts.specs.ExpansionParts.{day_cosines_of, longitude_cosines_of}
use Rattle.season_phases.specs.Phases.{place_phases}

-- the four cosines from a place on
abbrev pub seasons_at : List Float → ℕ → Seasons
seasons_at s i = record { cd32 = s ‼ i; cd18 = s ‼ (i + 1); cd14 = s ‼ (i + 2); cd39 = s ‼ (i + 3) }

abbrev pub longitude_seasons_at : List Float → ℕ → LongitudeSeasons
longitude_seasons_at s i = record { cd82 = s ‼ i; cd87 = s ‼ (i + 1); cd85 = s ‼ (i + 2); cd89 = s ‼ (i + 3) }

-- A season of the day doy holds what the sets that n names read; long: for the longitude's term too. PT's third cosine is always there, for zhf.
pub record Seasoned (doy : Float) (n : Need) (long : Bool) (s : List Float) : Type 0 where
  pub places : length s ≡ 156
  pub third : s ‼ 2 ≡ annual_cos_of doy (pt_t ‼ 13)
  pub wide : (k : ℕ) → k < 11 → globe7_needed n k ≡ true → seasons_at s (4 * k) ≡ day_cosines_of doy (globe7_set k)
  pub lower : (k : ℕ) → k < 14 → glob7s_needed n k ≡ true → seasons_at s (44 + 4 * k) ≡ day_cosines_of doy (glob7s_set k)
  pub longitude : long ≡ true → (k : ℕ) → k < 14 → glob7s_needed n k ≡ true → longitude_seasons_at s (100 + 4 * k) ≡ longitude_cosines_of doy (glob7s_set k)

-- ---- how it is filled

-- over the year at an even place, over half the year at an odd one
unfoldable pub place_cosine : Float → ℕ → Float
place_cosine doy i = cond (eqb (i % 2) 0) (annual_cos_of doy (place_phases ‼ i)) (semiannual_cos_of doy (place_phases ‼ i))

unfoldable pub globe7_season : Float → Need → List Float → List Float
globe7_season doy n s =
    let f = place_cosine doy in
    cond n.pt (filled 44 f 0 s) (
    let t = filled 1 f 2 s in
    cond (n.high || n.ps) (filled 40 f 4 t) (
    filled 16 f 12 (filled 4 f 4 t)))

-- the phase of PD[8] is PT's, that of PD[3] and of PS is PD[2]'s
unfoldable pub copied_places : List Float → List Float
copied_places s = set (set (set s 18 (s ‼ 14)) 38 (s ‼ 2)) 42 (s ‼ 14)

abbrev pub first_set : Need → ℕ
first_set n = cond n.nodes 0 5

-- glob7s' sets from first up to end, in the block that begins at start
abbrev pub filled_sets : Float → ℕ → ℕ → ℕ → List Float → List Float
filled_sets doy start first end s = filled (start + 4 * end - (start + 4 * first)) (place_cosine doy) (start + 4 * first) s

unfoldable pub glob7s_season : Float → Need → Bool → List Float → List Float
glob7s_season doy n long s =
    let first = first_set n in
    let end = glob7s_end n in
    cond (eqb end 0) s (
    let t = filled_sets doy 44 first end s in
    cond long (filled_sets doy 100 first end t) (
    t))

unfoldable pub season_into : Float → Need → Bool → List Float → List Float
season_into doy n long s = glob7s_season doy n long (copied_places (globe7_season doy n s))

-- every set is needed
abbrev pub all_needed : Need
all_needed = record { high = true; pt = true; ps = true; nodes = true; meso = true; tropo = true }
