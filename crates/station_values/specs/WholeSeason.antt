-- The whole season of a day: what every set reads, under every row. Filled anew it is the same, whatever its places held.
use Rattle.std.specs.Prelude.{ℕ, ◌+◌, ◌<◌, ◌≤◌, ◌≡◌, refl, Bool, true, false, List, eqb, ltb, ℤ, length, set, replicate, Float}
use Rattle.std.proofs.Common.{sym, ◌∙◌, arith, not-suc-le-zero, ltb-true, ltb-false, eqb-true, lit≤, lit<, length-set, get_or-set_same, get_or-set_other, ext_get_or}
use Rattle.std.proofs.lemmas.Bool.{eqb-false}
use Rattle.std.proofs.lemmas.List.{length-replicate}
use Rattle.std.specs.Float.{nan, binary64}
use Rattle.std.specs.Float.Ieee.{of_int}
use Rattle.numbers.specs.Arithmetic.{◌‼◌}
use Rattle.numbers.specs.Literals.{0·0}
use Rattle.setting.specs.declared.Input.{Input}
use Rattle.setting.specs.Switches.{filled}
use Rattle.setting.specs.Entries.{filled_before, filled_at, length_filled}
use Rattle.needed_sets.specs.declared.Need.{Need}
use Rattle.views.specs.View.{view_of}
use Rattle.season.specs.Season.{Seasoned, place_cosine, globe7_season, copied_places, glob7s_season, season_into}
use Rattle.season.specs.Season.{all_needed}
use Rattle.season.proofs.Filled.{seasoned, whole_serves}
use Rattle.expansion_values.specs.ExpansionValues.{expansion_values_of}
use Rattle.expansion_values.specs.Sets.{expansion_values_given}
use Rattle.expansion_values.specs.InSeason.{longitude_on, in_season}

-- for all sets, with the longitude's term
unfoldable pub season_of : Float → List Float
season_of doy = season_into doy all_needed true (replicate 156 0·0)

-- ---- what the places held does not count

-- two seasons with the same numbers at the first m places
record SamePlaces (m : ℕ) (a b : List Float) : Type 0 where
  pub one : length a ≡ 156
  pub other : length b ≡ 156
  pub places : (i : ℕ) → i < m → a ‼ i ≡ b ‼ i

filled_places : (n : ℕ) (f : ℕ → Float) (i : ℕ) (a b : List Float) → i + n ≤ 156 → SamePlaces i a b → SamePlaces (i + n) (filled n f i a) (filled n f i b)
filled_places n f i a b room g = record { one = length_filled n f i a ∙ g.one; other = length_filled n f i b ∙ g.other; places = λ j h. go j h (ltb j i) refl }
  where
    go : (j : ℕ) → j < i + n → (c : Bool) → ltb j i ≡ c → filled n f i a ‼ j ≡ filled n f i b ‼ j
    go j h true t = let l = ltb-true j i t in filled_before n f i a j l ∙ g.places j l ∙ sym (filled_before n f i b j l)
    go j h false t =
        let l = ltb-false j i t in
        filled_at n f i a j (omega (arith, l)) h (rw g.one room) ∙ sym (filled_at n f i b j (omega (arith, l)) h (rw g.other room))

set_places : (m : ℕ) (a b : List Float) (k : ℕ) (x y : Float) → k < 156 → x ≡ y → SamePlaces m a b → SamePlaces m (set a k x) (set b k y)
set_places m a b k x y room e g = record { one = length-set a k x ∙ g.one; other = length-set b k y ∙ g.other; places = λ i h. go i h (eqb i k) refl }
  where
    go : (i : ℕ) → i < m → (c : Bool) → eqb i k ≡ c → set a k x ‼ i ≡ set b k y ‼ i
    go i h true t =
        let s : i ≡ k = eqb-true i k t in
        rw s (get_or-set_same a k x nan (rw g.one room) ∙ e ∙ sym (get_or-set_same b k y nan (rw g.other room)))
    go i h false t = let s = eqb-false i k t in get_or-set_other a k i x nan s ∙ g.places i h ∙ sym (get_or-set_other b k i y nan s)

copied_places_lem : (a b : List Float) → SamePlaces 44 a b → SamePlaces 44 (copied_places a) (copied_places b)
unfolding copied_places
copied_places_lem a b g =
    set_places 44 _ _ 42 _ _ (lit< tt) (g.places 14 (lit< tt))
    (set_places 44 _ _ 38 _ _ (lit< tt) (g.places 2 (lit< tt))
    (set_places 44 a b 18 _ _ (lit< tt) (g.places 14 (lit< tt)) g))

whole_places : (doy : Float) (a b : List Float) → SamePlaces 0 a b → SamePlaces 156 (season_into doy all_needed true a) (season_into doy all_needed true b)
unfolding season_into globe7_season glob7s_season
whole_places doy a b g =
    let f = place_cosine doy in
    filled_places 56 f 100 _ _ (lit≤ tt) (filled_places 56 f 44 _ _ (lit≤ tt) (copied_places_lem _ _ (filled_places 44 f 0 a b (lit≤ tt) g)))

-- the whole season of a day is filled into any places alike
pub season_again : (doy : Float) (s : List Float) → length s ≡ 156 → season_into doy all_needed true s ≡ season_of doy
unfolding season_of
season_again doy s len =
    let none : (i : ℕ) → i < 0 → s ‼ i ≡ replicate 156 0·0 ‼ i = λ i h. absurd (not-suc-le-zero h) in
    let g = whole_places doy s (replicate 156 0·0) (record { one = len; other = length-replicate 156 0·0; places = none }) in
    ext_get_or nan _ _ (g.one ∙ sym g.other) (λ i h. g.places i (rw g.one at h))

-- ---- every set finds in it what it reads

season_whole : (doy : Float) → Seasoned doy all_needed true (season_of doy)
unfolding season_of
season_whole doy = seasoned doy all_needed true (replicate 156 0·0) (length-replicate 156 0·0)

pub season_long : (doy : Float) → length (season_of doy) ≡ 156
season_long doy = (season_whole doy).places

pub in_whole_season : (w : List ℤ) (n : Input) (a : Need) → expansion_values_given (view_of w n) a (season_of (of_int binary64 n.doy)) ≡ expansion_values_of (view_of w n) a
unfolding view_of
in_whole_season w n a =
    let doy = of_int binary64 n.doy in
    in_season (view_of w n) a (season_of doy) (whole_serves doy a (longitude_on (view_of w n)) (season_of doy) (season_whole doy))
