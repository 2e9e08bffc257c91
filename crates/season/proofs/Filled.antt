-- A season that is filled holds what the sets that are needed read of it.
use Rattle.std.specs.Prelude.{ℕ, ◌+◌, ◌-◌, ◌*◌, ◌<◌, ◌≤◌, ◌≡◌, Bool, ◌||◌, eqb, ltb, length, set, Float}
use Rattle.std.proofs.Math.Path.{refl, ap}
use Rattle.std.proofs.Common.{sym, ◌∙◌, arith, ne_eqb, lit≤, lit<}
use Rattle.std.proofs.Math.Bool.{true, false, cond}
use Rattle.std.proofs.lemmas.Bool.{false≢true, eqb-false}
use mathlib.Core.List.{List}
use borrow.Author.Count.{below_more, below_none}
use Rattle.std.proofs.Math.ListN.{length-set}
use Rattle.std.proofs.Math.Seq.{get_or-set_same, get_or-set_other}
use Rattle.std.specs.Float.Ieee.{nan}
use Rattle.numbers.specs.Arithmetic.{◌‼◌}
use Rattle.tables.specs.Tables.{pt_t, ps_t, pd_t0, pd_t1, pd_t2, pd_t3, pd_t4, pd_t5, pd_t6, pd_t7, pd_t8}
use Rattle.needed_sets.specs.declared.Need.{Need}
use Rattle.needed_sets.specs.NeededSets.{globe7_needed, glob7s_needed, glob7s_end}
use Rattle.needed_sets.specs.Sets.{globe7_sets, globe7_set, glob7s_sets, glob7s_set}
use Rattle.setting.specs.Switches.{filled}
use Rattle.setting.specs.Entries.{filled_before, filled_at, filled_keeps, length_filled}
use Rattle.expansion_parts.specs.declared.Seasons.{Seasons}
use Rattle.expansion_parts.specs.declared.LongitudeSeasons.{LongitudeSeasons}
use Rattle.expansion_parts.specs.ExpansionParts.{day_cosines_of, longitude_cosines_of}
use Rattle.views.specs.Phases.{annual_cos_of}
use Rattle.season_phases.specs.Phases.{phases_of, season_phases, place_phases}
use Rattle.season.specs.Season.{seasons_at, longitude_seasons_at, Seasoned, place_cosine, globe7_season, copied_places, first_set, glob7s_season, season_into, all_needed}

-- a place holds its cosine
abbrev Good : Float → List Float → ℕ → Type 0
Good doy s i = s ‼ i ≡ place_cosine doy i

either : (doy : Float) (i : ℕ) (b : Bool) (x y : List Float) → Good doy x i → Good doy y i → Good doy (cond b x y) i
either doy i true x y g h = g
either doy i false x y g h = h

length_cond : (b : Bool) (x y : List Float) (m : ℕ) → length x ≡ m → length y ≡ m → length (cond b x y) ≡ m
length_cond true x y m g h = g
length_cond false x y m g h = h

-- ---- globe7's places

module _ (doy : Float) (n : Need) (s : List Float) (len : length s ≡ 156) where
  abbrev after : ℕ → ℕ → List Float → List Float
  after count first xs = filled count (place_cosine doy) first xs

  length_after : (count first : ℕ) (xs : List Float) → length xs ≡ 156 → length (after count first xs) ≡ 156
  length_after count first xs e = length_filled count (place_cosine doy) first xs ∙ e

  made : (count first : ℕ) (xs : List Float) (i : ℕ) → length xs ≡ 156 → first + count ≤ 156 → first ≤ i → i < first + count → Good doy (after count first xs) i
  made count first xs i e room g h = filled_at count (place_cosine doy) first xs i g h (rw e room)

  kept : (count first : ℕ) (xs : List Float) (i : ℕ) → length xs ≡ 156 → first + count ≤ 156 → Good doy xs i → Good doy (after count first xs) i
  kept count first xs i e room g = filled_keeps count (place_cosine doy) first xs i (rw e room) g

  pub globe7_length : length (globe7_season doy n s) ≡ 156
  unfolding globe7_season
  globe7_length =
      length_cond n.pt _ _ 156 (length_after 44 0 s len)
      (length_cond (n.high || n.ps) _ _ 156 (length_after 40 4 _ (length_after 1 2 s len)) (length_after 16 12 _ (length_after 4 4 _ (length_after 1 2 s len))))

  -- the places that every altitude reads
  pub third : Good doy (globe7_season doy n s) 2
  unfolding globe7_season
  third =
      let t = made 1 2 s 2 len (lit≤ tt) (lit≤ tt) (lit< tt) in
      let l = length_after 1 2 s len in
      either doy 2 n.pt _ _ (made 44 0 s 2 len (lit≤ tt) (lit≤ tt) (lit< tt))
      (either doy 2 (n.high || n.ps) _ _ (kept 40 4 _ 2 l (lit≤ tt) t) (kept 16 12 _ 2 (length_after 4 4 _ l) (lit≤ tt) (kept 4 4 _ 2 l (lit≤ tt) t)))

  pub always_4 : (i : ℕ) → 4 ≤ i → i < 8 → Good doy (globe7_season doy n s) i
  unfolding globe7_season
  always_4 i g h =
      let l = length_after 1 2 s len in
      either doy i n.pt _ _ (made 44 0 s i len (lit≤ tt) (omega arith) (omega arith))
      (either doy i (n.high || n.ps) _ _ (made 40 4 _ i l (lit≤ tt) (omega arith) (omega arith))
      (kept 16 12 _ i (length_after 4 4 _ l) (lit≤ tt) (made 4 4 _ i l (lit≤ tt) (omega arith) (omega arith))))

  pub always_12 : (i : ℕ) → 12 ≤ i → i < 28 → Good doy (globe7_season doy n s) i
  unfolding globe7_season
  always_12 i g h =
      let l = length_after 1 2 s len in
      either doy i n.pt _ _ (made 44 0 s i len (lit≤ tt) (omega arith) (omega arith))
      (either doy i (n.high || n.ps) _ _ (made 40 4 _ i l (lit≤ tt) (omega arith) (omega arith))
      (made 16 12 _ i (length_after 4 4 _ l) (lit≤ tt) (omega arith) (omega arith)))

  -- those of PT, and those that gts7 reads above 72.5 km
  pub with_pt : n.pt ≡ true → (i : ℕ) → i < 44 → Good doy (globe7_season doy n s) i
  unfolding globe7_season
  with_pt e i h = rw e (made 44 0 s i len (lit≤ tt) (omega arith) (omega arith))

  pub with_high_lem : (n.high || n.ps) ≡ true → (i : ℕ) → 4 ≤ i → i < 44 → Good doy (globe7_season doy n s) i
  unfolding globe7_season
  with_high_lem e i g h =
      rw e (either doy i n.pt _ _ (made 44 0 s i len (lit≤ tt) (omega arith) (omega arith)) (made 40 4 _ i (length_after 1 2 s len) (lit≤ tt) (omega arith) (omega arith)))

-- ---- the three that are copied

abbrev one : List Float → List Float
one s = set s 18 (s ‼ 14)

abbrev two : List Float → List Float
two s = set (one s) 38 (s ‼ 2)

copied_length : (s : List Float) → length (copied_places s) ≡ length s
unfolding copied_places
copied_length s = length-set (two s) 42 (s ‼ 14) ∙ length-set (one s) 38 (s ‼ 2) ∙ length-set s 18 (s ‼ 14)

or_first : (a b : Bool) → (a || b) ≡ false → a ≡ false
or_first true b e = e
or_first false b e = refl

or_second : (a b : Bool) → (a || b) ≡ false → b ≡ false
or_second true b e = absurd (false≢true (sym e))
or_second false b e = e

abbrev copied : ℕ → Bool
copied i = eqb i 18 || (eqb i 38 || eqb i 42)

copied_other : (s : List Float) (i : ℕ) → copied i ≡ false → copied_places s ‼ i ≡ s ‼ i
unfolding copied_places
copied_other s i e =
    let f = or_second (eqb i 18) (eqb i 38 || eqb i 42) e in
    get_or-set_other (two s) 42 i (s ‼ 14) nan (eqb-false i 42 (or_second (eqb i 38) (eqb i 42) f))
    ∙ get_or-set_other (one s) 38 i (s ‼ 2) nan (eqb-false i 38 (or_first (eqb i 38) (eqb i 42) f))
    ∙ get_or-set_other s 18 i (s ‼ 14) nan (eqb-false i 18 (or_first (eqb i 18) (eqb i 38 || eqb i 42) e))

module _ (s : List Float) (len : length s ≡ 156) where
  copied_18 : copied_places s ‼ 18 ≡ s ‼ 14
  unfolding copied_places
  copied_18 =
      get_or-set_other (two s) 42 18 (s ‼ 14) nan (eqb-false 18 42 refl) ∙ get_or-set_other (one s) 38 18 (s ‼ 2) nan (eqb-false 18 38 refl)
      ∙ get_or-set_same s 18 (s ‼ 14) nan (rw len (lit< tt))

  copied_38 : copied_places s ‼ 38 ≡ s ‼ 2
  unfolding copied_places
  copied_38 = get_or-set_other (two s) 42 38 (s ‼ 14) nan (eqb-false 38 42 refl) ∙ get_or-set_same (one s) 38 (s ‼ 2) nan (rw (length-set s 18 (s ‼ 14), len) (lit< tt))

  copied_42 : copied_places s ‼ 42 ≡ s ‼ 14
  unfolding copied_places
  copied_42 = get_or-set_same (two s) 42 (s ‼ 14) nan (rw (length-set (one s) 38 (s ‼ 2), length-set s 18 (s ‼ 14), len) (lit< tt))

-- ---- glob7s' places

first_most : (n : Need) → first_set n ≤ 5
first_most n = go n.nodes
  where
    go : (b : Bool) → cond b 0 5 ≤ 5
    go true = lit≤ tt
    go false = lit≤ tt

pub end_most : (n : Need) → glob7s_end n ≤ 14
end_most n = go n.tropo n.meso n.nodes
  where
    go : (t m o : Bool) → cond t 14 (cond m 9 (cond o 5 0)) ≤ 14
    go true m o = lit≤ tt
    go false true o = lit≤ tt
    go false false true = lit≤ tt
    go false false false = lit≤ tt

end_nodes : (n : Need) → n.nodes ≡ true → 5 ≤ glob7s_end n
end_nodes n e = rw e (go n.tropo n.meso)
  where
    go : (t m : Bool) → 5 ≤ cond t 14 (cond m 9 (cond true 5 0))
    go true m = lit≤ tt
    go false true = lit≤ tt
    go false false = lit≤ tt

end_meso : (n : Need) → n.meso ≡ true → 9 ≤ glob7s_end n
end_meso n e = rw e (go n.tropo)
  where
    go : (t : Bool) → 9 ≤ cond t 14 (cond true 9 (cond n.nodes 5 0))
    go true = lit≤ tt
    go false = lit≤ tt

end_tropo : (n : Need) → n.tropo ≡ true → 14 ≤ glob7s_end n
end_tropo n e = rw e (lit≤ tt)

module _ (doy : Float) (n : Need) (s : List Float) (len : length s ≡ 156) where
  abbrev lower_places : List Float
  lower_places = filled (44 + 4 * glob7s_end n - (44 + 4 * first_set n)) (place_cosine doy) (44 + 4 * first_set n) s

  lower_length : length lower_places ≡ 156
  lower_length = length_filled _ (place_cosine doy) _ s ∙ len

  -- globe7's places stay
  pub lower_before : (b : Bool) (i : ℕ) → i < 44 → glob7s_season doy n b s ‼ i ≡ s ‼ i
  unfolding glob7s_season
  lower_before b i h =
      let t = filled_before (44 + 4 * glob7s_end n - (44 + 4 * first_set n)) (place_cosine doy) (44 + 4 * first_set n) s i (omega (arith, h)) in
      one (eqb (glob7s_end n) 0) _ _ refl (one b _ _ (filled_before (100 + 4 * glob7s_end n - (100 + 4 * first_set n)) (place_cosine doy) (100 + 4 * first_set n) lower_places i (omega (arith, h)) ∙ t) t)
    where
      one : (c : Bool) (x y : List Float) → x ‼ i ≡ s ‼ i → y ‼ i ≡ s ‼ i → cond c x y ‼ i ≡ s ‼ i
      one true x y g k = g
      one false x y g k = k

  pub lower_made : (b : Bool) (k i : ℕ) → first_set n ≤ k → k < glob7s_end n → 44 + 4 * k ≤ i → i < 48 + 4 * k → Good doy (glob7s_season doy n b s) i
  unfolding glob7s_season
  lower_made b k i g h u l =
      let e = end_most n in
      let t = made doy n s len (44 + 4 * glob7s_end n - (44 + 4 * first_set n)) (44 + 4 * first_set n) s i len (omega (arith, e, g, h)) (omega (arith, g, u)) (omega (arith, g, h, l)) in
      rw (ne_eqb (glob7s_end n) 0 (λ z. omega (arith, h, z)))
      (either doy i b _ _
      (kept doy n s len (100 + 4 * glob7s_end n - (100 + 4 * first_set n)) (100 + 4 * first_set n) lower_places i lower_length (omega (arith, e, g, h)) t) t)

  pub longitude_made : (b : Bool) → b ≡ true → (k i : ℕ) → first_set n ≤ k → k < glob7s_end n → 100 + 4 * k ≤ i → i < 104 + 4 * k → Good doy (glob7s_season doy n b s) i
  unfolding glob7s_season
  longitude_made b y k i g h u l =
      let e = end_most n in
      rw (ne_eqb (glob7s_end n) 0 (λ z. omega (arith, h, z)), y)
      (made doy n s len (100 + 4 * glob7s_end n - (100 + 4 * first_set n)) (100 + 4 * first_set n) lower_places i lower_length (omega (arith, e, g, h)) (omega (arith, g, u)) (omega (arith, g, h, l)))

-- ---- the whole

-- the four cosines of a place's phases
abbrev four_of : Float → ℕ → Seasons
four_of doy i = record { cd32 = place_cosine doy i; cd18 = place_cosine doy (i + 1); cd14 = place_cosine doy (i + 2); cd39 = place_cosine doy (i + 3) }

abbrev longitude_four_of : Float → ℕ → LongitudeSeasons
longitude_four_of doy i = record { cd82 = place_cosine doy i; cd87 = place_cosine doy (i + 1); cd85 = place_cosine doy (i + 2); cd89 = place_cosine doy (i + 3) }

or_true_left : (a b : Bool) → a ≡ true → (a || b) ≡ true
or_true_left a b e = rw e

or_true_right : (a b : Bool) → b ≡ true → (a || b) ≡ true
or_true_right true b e = refl
or_true_right false b e = e

-- the phases that two sets share
same_pd3 : pd_t2 ‼ 13 ≡ pd_t3 ‼ 13
unfolding pd_t2 pd_t3
same_pd3 = refl

same_ps : pd_t2 ‼ 13 ≡ ps_t ‼ 13
unfolding pd_t2 ps_t
same_ps = refl

same_pd8 : pt_t ‼ 13 ≡ pd_t8 ‼ 13
unfolding pt_t pd_t8
same_pd8 = refl

module _ (doy : Float) (n : Need) (b : Bool) (s : List Float) (len : length s ≡ 156) where
  abbrev base : List Float
  base = globe7_season doy n s

  abbrev whole : List Float
  whole = season_into doy n b s

  base_length : length base ≡ 156
  base_length = globe7_length doy n s len

  middle_length : length (copied_places base) ≡ 156
  middle_length = copied_length base ∙ base_length

  whole_length : length whole ≡ 156
  unfolding season_into glob7s_season
  whole_length =
      let t = length_filled _ (place_cosine doy) _ (copied_places base) ∙ middle_length in
      length_cond (eqb (glob7s_end n) 0) _ _ 156 middle_length (length_cond b _ _ 156 (length_filled _ (place_cosine doy) _ _ ∙ t) t)

  early : (i : ℕ) → i < 44 → whole ‼ i ≡ copied_places base ‼ i
  unfolding season_into
  early i h = lower_before doy n (copied_places base) middle_length b i h

  plain : (i : ℕ) → i < 44 → copied i ≡ false → Good doy base i → Good doy whole i
  plain i h e g = early i h ∙ copied_other base i e ∙ g

  four : (i : ℕ) → Good doy whole i → Good doy whole (i + 1) → Good doy whole (i + 2) → Good doy whole (i + 3) → seasons_at whole i ≡ four_of doy i
  four i p q r t = cc (p, q, r, t)

  -- a set whose third cosine is another set's
  shared : (i : ℕ) (x : Float) → Good doy whole i → Good doy whole (i + 1) → whole ‼ (i + 2) ≡ x → Good doy whole (i + 3)
      → seasons_at whole i ≡ record { cd32 = place_cosine doy i; cd18 = place_cosine doy (i + 1); cd14 = x; cd39 = place_cosine doy (i + 3) }
  shared i x p q r t = cc (p, q, r, t)

  -- globe7's sets, one by one
  at_pt : n.pt ≡ true → seasons_at whole 0 ≡ day_cosines_of doy pt_t
  unfolding place_cosine place_phases season_phases phases_of globe7_sets day_cosines_of
  at_pt e =
      four 0
      (plain 0 (lit< tt) refl (with_pt doy n s len e 0 (lit< tt)))
      (plain 1 (lit< tt) refl (with_pt doy n s len e 1 (lit< tt)))
      (plain 2 (lit< tt) refl (with_pt doy n s len e 2 (lit< tt)))
      (plain 3 (lit< tt) refl (with_pt doy n s len e 3 (lit< tt)))

  at_pd0 : seasons_at whole 4 ≡ day_cosines_of doy pd_t0
  unfolding place_cosine place_phases season_phases phases_of globe7_sets day_cosines_of
  at_pd0 =
      four 4
      (plain 4 (lit< tt) refl (always_4 doy n s len 4 (lit≤ tt) (lit< tt)))
      (plain 5 (lit< tt) refl (always_4 doy n s len 5 (lit≤ tt) (lit< tt)))
      (plain 6 (lit< tt) refl (always_4 doy n s len 6 (lit≤ tt) (lit< tt)))
      (plain 7 (lit< tt) refl (always_4 doy n s len 7 (lit≤ tt) (lit< tt)))

  at_pd1 : (n.high || n.ps) ≡ true → seasons_at whole 8 ≡ day_cosines_of doy pd_t1
  unfolding place_cosine place_phases season_phases phases_of globe7_sets day_cosines_of
  at_pd1 e =
      four 8
      (plain 8 (lit< tt) refl (with_high_lem doy n s len e 8 (lit≤ tt) (lit< tt)))
      (plain 9 (lit< tt) refl (with_high_lem doy n s len e 9 (lit≤ tt) (lit< tt)))
      (plain 10 (lit< tt) refl (with_high_lem doy n s len e 10 (lit≤ tt) (lit< tt)))
      (plain 11 (lit< tt) refl (with_high_lem doy n s len e 11 (lit≤ tt) (lit< tt)))

  at_pd2 : seasons_at whole 12 ≡ day_cosines_of doy pd_t2
  unfolding place_cosine place_phases season_phases phases_of globe7_sets day_cosines_of
  at_pd2 =
      four 12
      (plain 12 (lit< tt) refl (always_12 doy n s len 12 (lit≤ tt) (lit< tt)))
      (plain 13 (lit< tt) refl (always_12 doy n s len 13 (lit≤ tt) (lit< tt)))
      (plain 14 (lit< tt) refl (always_12 doy n s len 14 (lit≤ tt) (lit< tt)))
      (plain 15 (lit< tt) refl (always_12 doy n s len 15 (lit≤ tt) (lit< tt)))

  at_pd3 : seasons_at whole 16 ≡ day_cosines_of doy pd_t3
  unfolding place_cosine place_phases season_phases phases_of globe7_sets day_cosines_of
  at_pd3 =
      shared 16 _
      (plain 16 (lit< tt) refl (always_12 doy n s len 16 (lit≤ tt) (lit< tt)))
      (plain 17 (lit< tt) refl (always_12 doy n s len 17 (lit≤ tt) (lit< tt)))
      (early 18 (lit< tt) ∙ copied_18 base base_length ∙ always_12 doy n s len 14 (lit≤ tt) (lit< tt) ∙ ap (annual_cos_of doy) same_pd3)
      (plain 19 (lit< tt) refl (always_12 doy n s len 19 (lit≤ tt) (lit< tt)))

  at_pd4 : seasons_at whole 20 ≡ day_cosines_of doy pd_t4
  unfolding place_cosine place_phases season_phases phases_of globe7_sets day_cosines_of
  at_pd4 =
      four 20
      (plain 20 (lit< tt) refl (always_12 doy n s len 20 (lit≤ tt) (lit< tt)))
      (plain 21 (lit< tt) refl (always_12 doy n s len 21 (lit≤ tt) (lit< tt)))
      (plain 22 (lit< tt) refl (always_12 doy n s len 22 (lit≤ tt) (lit< tt)))
      (plain 23 (lit< tt) refl (always_12 doy n s len 23 (lit≤ tt) (lit< tt)))

  at_pd5 : seasons_at whole 24 ≡ day_cosines_of doy pd_t5
  unfolding place_cosine place_phases season_phases phases_of globe7_sets day_cosines_of
  at_pd5 =
      four 24
      (plain 24 (lit< tt) refl (always_12 doy n s len 24 (lit≤ tt) (lit< tt)))
      (plain 25 (lit< tt) refl (always_12 doy n s len 25 (lit≤ tt) (lit< tt)))
      (plain 26 (lit< tt) refl (always_12 doy n s len 26 (lit≤ tt) (lit< tt)))
      (plain 27 (lit< tt) refl (always_12 doy n s len 27 (lit≤ tt) (lit< tt)))

  at_pd6 : (n.high || n.ps) ≡ true → seasons_at whole 28 ≡ day_cosines_of doy pd_t6
  unfolding place_cosine place_phases season_phases phases_of globe7_sets day_cosines_of
  at_pd6 e =
      four 28
      (plain 28 (lit< tt) refl (with_high_lem doy n s len e 28 (lit≤ tt) (lit< tt)))
      (plain 29 (lit< tt) refl (with_high_lem doy n s len e 29 (lit≤ tt) (lit< tt)))
      (plain 30 (lit< tt) refl (with_high_lem doy n s len e 30 (lit≤ tt) (lit< tt)))
      (plain 31 (lit< tt) refl (with_high_lem doy n s len e 31 (lit≤ tt) (lit< tt)))

  at_pd7 : (n.high || n.ps) ≡ true → seasons_at whole 32 ≡ day_cosines_of doy pd_t7
  unfolding place_cosine place_phases season_phases phases_of globe7_sets day_cosines_of
  at_pd7 e =
      four 32
      (plain 32 (lit< tt) refl (with_high_lem doy n s len e 32 (lit≤ tt) (lit< tt)))
      (plain 33 (lit< tt) refl (with_high_lem doy n s len e 33 (lit≤ tt) (lit< tt)))
      (plain 34 (lit< tt) refl (with_high_lem doy n s len e 34 (lit≤ tt) (lit< tt)))
      (plain 35 (lit< tt) refl (with_high_lem doy n s len e 35 (lit≤ tt) (lit< tt)))

  at_pd8 : (n.high || n.ps) ≡ true → seasons_at whole 36 ≡ day_cosines_of doy pd_t8
  unfolding place_cosine place_phases season_phases phases_of globe7_sets day_cosines_of
  at_pd8 e =
      shared 36 _
      (plain 36 (lit< tt) refl (with_high_lem doy n s len e 36 (lit≤ tt) (lit< tt)))
      (plain 37 (lit< tt) refl (with_high_lem doy n s len e 37 (lit≤ tt) (lit< tt)))
      (early 38 (lit< tt) ∙ copied_38 base base_length ∙ third doy n s len ∙ ap (annual_cos_of doy) same_pd8)
      (plain 39 (lit< tt) refl (with_high_lem doy n s len e 39 (lit≤ tt) (lit< tt)))

  at_ps : (n.high || n.ps) ≡ true → seasons_at whole 40 ≡ day_cosines_of doy ps_t
  unfolding place_cosine place_phases season_phases phases_of globe7_sets day_cosines_of
  at_ps e =
      shared 40 _
      (plain 40 (lit< tt) refl (with_high_lem doy n s len e 40 (lit≤ tt) (lit< tt)))
      (plain 41 (lit< tt) refl (with_high_lem doy n s len e 41 (lit≤ tt) (lit< tt)))
      (early 42 (lit< tt) ∙ copied_42 base base_length ∙ always_12 doy n s len 14 (lit≤ tt) (lit< tt) ∙ ap (annual_cos_of doy) same_ps)
      (plain 43 (lit< tt) refl (with_high_lem doy n s len e 43 (lit≤ tt) (lit< tt)))

  abbrev Wide : ℕ → Type 0
  Wide k = globe7_needed n k ≡ true → seasons_at whole (4 * k) ≡ day_cosines_of doy (globe7_set k)

  all_wide : (k : ℕ) → k < 11 → Wide k
  unfolding globe7_sets
  all_wide =
      let high : n.high ≡ true → (n.high || n.ps) ≡ true = or_true_left n.high n.ps in
      let a = below_more Wide 1 (below_more Wide 0 (below_none Wide) at_pt) (λ _. at_pd0) in
      let c = below_more Wide 4 (below_more Wide 3 (below_more Wide 2 a (λ e. at_pd1 (high e))) (λ _. at_pd2)) (λ _. at_pd3) in
      let d = below_more Wide 7 (below_more Wide 6 (below_more Wide 5 c (λ _. at_pd4)) (λ _. at_pd5)) (λ e. at_pd6 (high e)) in
      below_more Wide 10 (below_more Wide 9 (below_more Wide 8 d (λ e. at_pd7 (high e))) (λ e. at_pd8 (high e))) (λ e. at_ps (or_true_right n.high n.ps e))

  -- ---- glob7s' sets

  lower_four : (k : ℕ) → first_set n ≤ k → k < glob7s_end n → seasons_at whole (44 + 4 * k) ≡ four_of doy (44 + 4 * k)
  unfolding season_into
  lower_four k g h =
      let at : (i : ℕ) → 44 + 4 * k ≤ i → i < 48 + 4 * k → Good doy whole i = λ i u l. lower_made doy n (copied_places base) middle_length b k i g h u l in
      four (44 + 4 * k) (at _ (omega arith) (omega arith)) (at _ (omega arith) (omega arith)) (at _ (omega arith) (omega arith)) (at _ (omega arith) (omega arith))

  longitude_four : b ≡ true → (k : ℕ) → first_set n ≤ k → k < glob7s_end n → longitude_seasons_at whole (100 + 4 * k) ≡ longitude_four_of doy (100 + 4 * k)
  unfolding season_into
  longitude_four e k g h =
      let at : (i : ℕ) → 100 + 4 * k ≤ i → i < 104 + 4 * k → Good doy whole i = λ i u l. longitude_made doy n (copied_places base) middle_length b e k i g h u l in
      let i = 100 + 4 * k in
      cc (at i (omega arith) (omega arith), at (i + 1) (omega arith) (omega arith), at (i + 2) (omega arith) (omega arith), at (i + 3) (omega arith) (omega arith))

  -- a set that is needed lies between the first and the end
  abbrev Between : ℕ → Type 0
  Between k = (first_set n ≤ k) × (k < glob7s_end n)

  in_nodes : (k : ℕ) → k < 5 → n.nodes ≡ true → Between k
  in_nodes k h e = let g = end_nodes n e in (rw e (omega arith), omega (arith, g, h))

  in_meso : (k : ℕ) → 5 ≤ k → k < 9 → n.meso ≡ true → Between k
  in_meso k g h e = let f = first_most n in let l = end_meso n e in (omega (arith, f, g), omega (arith, l, h))

  in_tropo : (k : ℕ) → 9 ≤ k → k < 14 → n.tropo ≡ true → Between k
  in_tropo k g h e = let f = first_most n in let l = end_tropo n e in (omega (arith, f, g), omega (arith, l, h))

  abbrev Lower : ℕ → Type 0
  Lower k = glob7s_needed n k ≡ true → seasons_at whole (44 + 4 * k) ≡ day_cosines_of doy (glob7s_set k)

  all_lower : (k : ℕ) → k < 14 → Lower k
  unfolding place_cosine place_phases season_phases phases_of globe7_sets glob7s_sets day_cosines_of
  all_lower =
      let a0 = below_more Lower 0 (below_none Lower) (λ e. let i = in_nodes 0 (lit< tt) e in lower_four 0 i.0 i.1) in
      let a1 = below_more Lower 1 (a0) (λ e. let i = in_nodes 1 (lit< tt) e in lower_four 1 i.0 i.1) in
      let a2 = below_more Lower 2 (a1) (λ e. let i = in_nodes 2 (lit< tt) e in lower_four 2 i.0 i.1) in
      let a3 = below_more Lower 3 (a2) (λ e. let i = in_nodes 3 (lit< tt) e in lower_four 3 i.0 i.1) in
      let a4 = below_more Lower 4 (a3) (λ e. let i = in_nodes 4 (lit< tt) e in lower_four 4 i.0 i.1) in
      let a5 = below_more Lower 5 (a4) (λ e. let i = in_meso 5 (lit≤ tt) (lit< tt) e in lower_four 5 i.0 i.1) in
      let a6 = below_more Lower 6 (a5) (λ e. let i = in_meso 6 (lit≤ tt) (lit< tt) e in lower_four 6 i.0 i.1) in
      let a7 = below_more Lower 7 (a6) (λ e. let i = in_meso 7 (lit≤ tt) (lit< tt) e in lower_four 7 i.0 i.1) in
      let a8 = below_more Lower 8 (a7) (λ e. let i = in_meso 8 (lit≤ tt) (lit< tt) e in lower_four 8 i.0 i.1) in
      let a9 = below_more Lower 9 (a8) (λ e. let i = in_tropo 9 (lit≤ tt) (lit< tt) e in lower_four 9 i.0 i.1) in
      let a10 = below_more Lower 10 (a9) (λ e. let i = in_tropo 10 (lit≤ tt) (lit< tt) e in lower_four 10 i.0 i.1) in
      let a11 = below_more Lower 11 (a10) (λ e. let i = in_tropo 11 (lit≤ tt) (lit< tt) e in lower_four 11 i.0 i.1) in
      let a12 = below_more Lower 12 (a11) (λ e. let i = in_tropo 12 (lit≤ tt) (lit< tt) e in lower_four 12 i.0 i.1) in
      below_more Lower 13 (a12) (λ e. let i = in_tropo 13 (lit≤ tt) (lit< tt) e in lower_four 13 i.0 i.1)

  abbrev Longitude : ℕ → Type 0
  Longitude k = glob7s_needed n k ≡ true → longitude_seasons_at whole (100 + 4 * k) ≡ longitude_cosines_of doy (glob7s_set k)

  all_longitude : b ≡ true → (k : ℕ) → k < 14 → Longitude k
  unfolding place_cosine place_phases season_phases phases_of globe7_sets glob7s_sets longitude_cosines_of
  all_longitude t =
      let a0 = below_more Longitude 0 (below_none Longitude) (λ e. let i = in_nodes 0 (lit< tt) e in longitude_four t 0 i.0 i.1) in
      let a1 = below_more Longitude 1 (a0) (λ e. let i = in_nodes 1 (lit< tt) e in longitude_four t 1 i.0 i.1) in
      let a2 = below_more Longitude 2 (a1) (λ e. let i = in_nodes 2 (lit< tt) e in longitude_four t 2 i.0 i.1) in
      let a3 = below_more Longitude 3 (a2) (λ e. let i = in_nodes 3 (lit< tt) e in longitude_four t 3 i.0 i.1) in
      let a4 = below_more Longitude 4 (a3) (λ e. let i = in_nodes 4 (lit< tt) e in longitude_four t 4 i.0 i.1) in
      let a5 = below_more Longitude 5 (a4) (λ e. let i = in_meso 5 (lit≤ tt) (lit< tt) e in longitude_four t 5 i.0 i.1) in
      let a6 = below_more Longitude 6 (a5) (λ e. let i = in_meso 6 (lit≤ tt) (lit< tt) e in longitude_four t 6 i.0 i.1) in
      let a7 = below_more Longitude 7 (a6) (λ e. let i = in_meso 7 (lit≤ tt) (lit< tt) e in longitude_four t 7 i.0 i.1) in
      let a8 = below_more Longitude 8 (a7) (λ e. let i = in_meso 8 (lit≤ tt) (lit< tt) e in longitude_four t 8 i.0 i.1) in
      let a9 = below_more Longitude 9 (a8) (λ e. let i = in_tropo 9 (lit≤ tt) (lit< tt) e in longitude_four t 9 i.0 i.1) in
      let a10 = below_more Longitude 10 (a9) (λ e. let i = in_tropo 10 (lit≤ tt) (lit< tt) e in longitude_four t 10 i.0 i.1) in
      let a11 = below_more Longitude 11 (a10) (λ e. let i = in_tropo 11 (lit≤ tt) (lit< tt) e in longitude_four t 11 i.0 i.1) in
      let a12 = below_more Longitude 12 (a11) (λ e. let i = in_tropo 12 (lit≤ tt) (lit< tt) e in longitude_four t 12 i.0 i.1) in
      below_more Longitude 13 (a12) (λ e. let i = in_tropo 13 (lit≤ tt) (lit< tt) e in longitude_four t 13 i.0 i.1)

  -- the filled season holds what the sets that n names read, whatever the places held
  pub seasoned : Seasoned doy n b (season_into doy n b s)
  unfolding place_cosine place_phases season_phases phases_of globe7_sets
  seasoned =
      record {
        places = whole_length;
        third = plain 2 (lit< tt) refl (third doy n s len);
        wide = all_wide;
        lower = all_lower;
        longitude = all_longitude;
      }

-- ---- a season for more serves for less

pub serves : (doy : Float) (n m : Need) (b : Bool) (s : List Float)
    → ((k : ℕ) → globe7_needed m k ≡ true → globe7_needed n k ≡ true)
    → ((k : ℕ) → glob7s_needed m k ≡ true → glob7s_needed n k ≡ true)
    → Seasoned doy n true s
    → Seasoned doy m b s
serves doy n m b s f g q =
    record {
      places = q.places;
      third = q.third;
      wide = λ k h e. q.wide k h (f k e);
      lower = λ k h e. q.lower k h (g k e);
      longitude = λ _ k h e. q.longitude refl k h (g k e);
    }

same : (b : Bool) → cond b true true ≡ true
same true = refl
same false = refl

all_globe7 : (k : ℕ) → globe7_needed all_needed k ≡ true
all_globe7 k = ap (λ (x : Bool). cond (eqb k 0) true (cond (eqb k 10) true x)) (same (eqb k 2 || ltb 6 k)) ∙ ap (λ (x : Bool). cond (eqb k 0) true x) (same (eqb k 10)) ∙ same (eqb k 0)

all_glob7s : (k : ℕ) → glob7s_needed all_needed k ≡ true
all_glob7s k = ap (λ (x : Bool). cond (ltb k 5) true x) (same (ltb k 9)) ∙ same (ltb k 5)

pub whole_serves : (doy : Float) (m : Need) (b : Bool) (s : List Float) → Seasoned doy all_needed true s → Seasoned doy m b s
whole_serves doy m b s q = serves doy all_needed m b s (λ k _. all_globe7 k) (λ k _. all_glob7s k) q
