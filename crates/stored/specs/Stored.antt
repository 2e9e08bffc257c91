-- What a station stores of a record and a switch row, as a list of numbers, and the row of an altitude out of that list. The nine constants are the
-- present ones and are not stored.
use Rattle.std.specs.Prelude.{ℕ, ◌+◌, Bool, true, cond, not, ◌||◌, List, [], ◌∷◌, ◌++◌, take, drop, replicate, Float}
use Rattle.numbers.specs.Arithmetic.{◌‼◌}
use Rattle.numbers.specs.Literals.{0·0, 72·5, 100·0, 200·0, 300·0}
use Rattle.parameters.specs.Parameters.{present_of}
use Rattle.elementary.specs.Log.{log_of}
use Rattle.layers.specs.declared.Span.{Span}
use Rattle.places.specs.declared.place.Spine.{Spine}
use Rattle.needed_sets.specs.declared.Need.{Need}
use Rattle.plan.specs.declared.ExpansionValues.{ExpansionValues}
use Rattle.plan.specs.Plan.{told, answer_to}
use Rattle.profile.specs.declared.unchecked.Shape.{Shape}
use Rattle.species.specs.declared.Root.{Root}
use Rattle.species.specs.Places.{spine_at}
use Rattle.gts7_arithmetic.specs.declared.Site.{Site}
use Rattle.gts7_arithmetic.specs.Gts7Arithmetic.{anomalous_of}
use Rattle.stages.specs.Stages.{shape_plan}
use Rattle.region.specs.declared.Bases.{Bases}
use Rattle.region.specs.declared.Roots.{Roots}
use Rattle.region.specs.Region.{bases_of, roots_of, row_over, row_under}
use Rattle.footing.specs.declared.Footing.{Footing}
use Rattle.footing.specs.Footing.{footing_of, row_below_of}
use Rattle.atmosphere.specs.Atmosphere.{eleven_from}
use Rattle.stored_parts.specs.declared.Parts.{Parts}
use Rattle.stored_parts.specs.Parts.{above_summit, from_summit, above_za, below_za, below300}

-- ---- the parts

-- the coefficient sets that the parts read
unfoldable pub need_of : Parts → Need
need_of p =
    record {
      high = p.summit || (p.low || (p.mid || p.top));
      pt = p.mid || p.top;
      ps = p.low || (p.mid || p.top);
      nodes = p.summit || (p.below || (p.low || p.mid));
      meso = p.below;
      tropo = p.tropo;
    }

-- ---- the numbers of each part

unfoldable pub region_numbers : Shape → Roots → List Float
region_numbers h q =
    h.gsurf ∷ h.re ∷ h.tinf ∷ h.tlb ∷ h.s ∷
    (h.tn ‼ 0) ∷ (h.tn ‼ 1) ∷ (h.tn ‼ 2) ∷ (h.tn ‼ 3) ∷ (h.tn ‼ 4) ∷ (h.tgn ‼ 0) ∷ (h.tgn ‼ 1) ∷
    q.n2.db ∷ q.n2.b ∷ q.n2.r ∷ q.he.db ∷ q.he.b ∷ q.he.r ∷ q.o.db ∷ q.o.b ∷ q.o.r ∷ q.o2.db ∷ q.o2.b ∷ q.o2.r ∷
    q.ar.db ∷ q.ar.b ∷ q.ar.r ∷ q.h.db ∷ q.h.b ∷ q.h.r ∷ q.n.db ∷ q.n.b ∷ q.n.r ∷ q.rate ∷ q.hot ∷ q.factor ∷ []

unfoldable pub spine_numbers : Spine → List Float
spine_numbers s =
    s.base ∷ s.k ∷ s.s ∷ s.zg2 ∷ s.tt ∷ s.rt ∷ s.glb ∷ s.t1 ∷ s.zgdif ∷
    (s.xs ‼ 0) ∷ (s.xs ‼ 1) ∷ (s.xs ‼ 2) ∷ (s.xs ‼ 3) ∷ (s.xs ‼ 4) ∷ (s.ys ‼ 0) ∷ (s.ys ‼ 1) ∷ (s.ys ‼ 2) ∷ (s.ys ‼ 3) ∷ (s.ys ‼ 4) ∷
    (s.y2 ‼ 0) ∷ (s.y2 ‼ 1) ∷ (s.y2 ‼ 2) ∷ (s.y2 ‼ 3) ∷ (s.y2 ‼ 4) ∷ []

unfoldable pub span_numbers : Span → List Float
span_numbers s =
    s.t1 ∷ s.zgdif ∷ s.gamm ∷
    (s.xs ‼ 0) ∷ (s.xs ‼ 1) ∷ (s.xs ‼ 2) ∷ (s.xs ‼ 3) ∷ (s.xs ‼ 4) ∷ (s.ys ‼ 0) ∷ (s.ys ‼ 1) ∷ (s.ys ‼ 2) ∷ (s.ys ‼ 3) ∷ (s.ys ‼ 4) ∷
    (s.y2 ‼ 0) ∷ (s.y2 ‼ 1) ∷ (s.y2 ‼ 2) ∷ (s.y2 ‼ 3) ∷ (s.y2 ‼ 4) ∷ []

unfoldable pub ground_numbers : Footing → List Float
ground_numbers f =
    f.x.gsurf ∷ f.x.re ∷ f.x.zhf ∷ f.x.flux ∷ f.tinf ∷ f.dm28m ∷ f.he ∷ f.n2 ∷ f.o2 ∷ f.ar ∷
    (f.meso.tn2 ‼ 0) ∷ (f.meso.tn2 ‼ 1) ∷ (f.meso.tn2 ‼ 2) ∷ (f.meso.tn2 ‼ 3) ∷ (f.meso.tgn2 ‼ 0) ∷ (f.meso.tgn2 ‼ 1) ∷ f.curves.d32 ∷ []

unfoldable pub footing_numbers : Footing → List Float
footing_numbers f = ground_numbers f ++ (span_numbers f.curves.upper ++ span_numbers f.curves.lower)

-- ---- what is stored, zeros where a part is not asked for; a region is made at one of its altitudes

unfoldable pub region_stored : Bool → List Float → Site → ExpansionValues → Bases → Float → List Float
region_stored on sw x l d z =
    cond (not on) (replicate 36 0·0)
    (let h = told (answer_to l) (shape_plan sw x z) in region_numbers h (roots_of h x d))

-- up to za, with the spines of its shape and of anomalous oxygen's
unfoldable pub low_stored : Bool → List Float → Site → ExpansionValues → Bases → List Float
low_stored on sw x l d =
    cond (not on) (replicate 84 0·0)
    (let h = told (answer_to l) (shape_plan sw x 100·0) in
    region_numbers h (roots_of h x d) ++ (spine_numbers (spine_at h) ++ spine_numbers (spine_at (anomalous_of h))))

unfoldable pub footing_stored : Bool → List Float → Site → ExpansionValues → Bool → List Float
footing_stored on sw x l tropo = cond (not on) (replicate 53 0·0) (footing_numbers (footing_of sw x l tropo))

-- the row at 72.5 km
unfoldable pub summit_stored : Bool → List Float → Site → ExpansionValues → List Float
summit_stored on sw x l = cond (not on) (replicate 11 0·0) (eleven_from sw x l 72·5)

unfoldable pub stored_of : Parts → List Float → Site → ExpansionValues → List Float
stored_of p sw x l =
    let d = bases_of (sw ‼ 21) l in
    footing_stored p.below sw x l p.tropo
    ++ (low_stored p.low sw x l d
    ++ (region_stored p.mid sw x l d 200·0
    ++ (region_stored p.top sw x l d 300·0
    ++ summit_stored p.summit sw x l)))

-- n numbers from the a-th on
abbrev pub part : ℕ → ℕ → List Float → List Float
part a n xs = take n (drop a xs)

-- the same among numbers xs that are there: each part of p in its own place, all else as it was
unfoldable pub stored_in : Parts → List Float → Site → ExpansionValues → List Float → List Float
stored_in p sw x l xs =
    let d = bases_of (sw ‼ 21) l in
    take 14 xs
    ++ (cond p.below (footing_stored true sw x l p.tropo) (part 14 53 xs)
    ++ (cond p.low (low_stored true sw x l d) (part 67 84 xs)
    ++ (cond p.mid (region_stored true sw x l d 200·0) (part 151 36 xs)
    ++ (cond p.top (region_stored true sw x l d 300·0) (part 187 36 xs)
    ++ cond p.summit (summit_stored true sw x l) (part 223 11 xs)))))

-- ---- read again

unfoldable pub five_in : List Float → ℕ → List Float
five_in xs at = (xs ‼ at) ∷ (xs ‼ (at + 1)) ∷ (xs ‼ (at + 2)) ∷ (xs ‼ (at + 3)) ∷ (xs ‼ (at + 4)) ∷ []

unfoldable pub shape_in : List Float → Shape
shape_in xs =
    record { rgas = present_of.rgas; gsurf = xs ‼ 0; re = xs ‼ 1; tinf = xs ‼ 2; tlb = xs ‼ 3; s = xs ‼ 4; tn = five_in xs 5; tgn = (xs ‼ 10) ∷ (xs ‼ 11) ∷ [] }

unfoldable pub root_in : List Float → ℕ → Root
root_in xs at = record { db = xs ‼ at; b = xs ‼ (at + 1); r = xs ‼ (at + 2) }

unfoldable pub roots_in : List Float → Roots
roots_in xs =
    record {
      n2 = root_in xs 12;
      he = root_in xs 15;
      o = root_in xs 18;
      o2 = root_in xs 21;
      ar = root_in xs 24;
      h = root_in xs 27;
      n = root_in xs 30;
      rate = xs ‼ 33;
      hot = xs ‼ 34;
      factor = xs ‼ 35;
    }

unfoldable pub spine_in : List Float → Spine
spine_in xs =
    record {
      base = xs ‼ 0;
      k = xs ‼ 1;
      rgas = present_of.rgas;
      s = xs ‼ 2;
      zg2 = xs ‼ 3;
      tt = xs ‼ 4;
      rt = xs ‼ 5;
      lt = log_of (xs ‼ 5);
      glb = xs ‼ 6;
      t1 = xs ‼ 7;
      zgdif = xs ‼ 8;
      xs = five_in xs 9;
      ys = five_in xs 14;
      y2 = five_in xs 19;
    }

unfoldable pub span_in : List Float → Span
span_in xs = record { t1 = xs ‼ 0; zgdif = xs ‼ 1; gamm = xs ‼ 2; xs = five_in xs 3; ys = five_in xs 8; y2 = five_in xs 13 }

unfoldable pub footing_in : List Float → Footing
footing_in xs =
    record {
      x = record { gsurf = xs ‼ 0; re = xs ‼ 1; zhf = xs ‼ 2; flux = xs ‼ 3; nine = present_of };
      tinf = xs ‼ 4;
      dm28m = xs ‼ 5;
      he = xs ‼ 6;
      n2 = xs ‼ 7;
      o2 = xs ‼ 8;
      ar = xs ‼ 9;
      meso = record { tn2 = (xs ‼ 10) ∷ (xs ‼ 11) ∷ (xs ‼ 12) ∷ (xs ‼ 13) ∷ []; tgn2 = (xs ‼ 14) ∷ (xs ‼ 15) ∷ [] };
      curves = record { upper = span_in (part 17 18 xs); d32 = xs ‼ 16; lower = span_in (part 35 18 xs) };
    }

-- ---- the row of an altitude

-- at or above za, out of a region's numbers
abbrev pub over_in : Float → Float → List Float → Float → List Float
over_in sw0 sw15 xs alt = row_over present_of sw0 sw15 (shape_in xs) (roots_in xs) alt

-- above 72.5 km and below za
abbrev pub under_in : Float → Float → List Float → Float → List Float
under_in sw0 sw15 xs alt =
    row_under present_of sw0 sw15 (shape_in (part 0 36 xs)) (spine_in (part 36 24 xs)) (spine_in (part 60 24 xs)) (roots_in (part 0 36 xs)) alt

-- above 72.5 km up to za
unfoldable pub low_row : Float → Float → List Float → Float → List Float
low_row sw0 sw15 xs alt = cond (not (below_za alt)) (over_in sw0 sw15 (part 0 36 xs) alt) (under_in sw0 sw15 xs alt)

-- xs has the record's fourteen numbers first
unfoldable pub row_stored : Float → Float → List Float → Float → List Float
row_stored sw0 sw15 xs alt =
    cond (not (above_summit alt))
    (cond (from_summit alt) (part 223 11 xs) (row_below_of sw0 (footing_in (part 14 53 xs)) alt))
    (cond (not (above_za alt)) (low_row sw0 sw15 (part 67 84 xs) alt)
    (cond (below300 alt) (over_in sw0 sw15 (part 151 36 xs) alt) (over_in sw0 sw15 (part 187 36 xs) alt)))
