-- The altitudes that the species read over gts7's nodes, each worked out once: the one that is asked for, and the turbopauses.
use Rattle.std.specs.Prelude.{◌≡◌, Bool, true, Float}
use Rattle.numbers.specs.Arithmetic.{◌‼◌}
use Rattle.numbers.specs.Literals.{0·0}
use Rattle.places.specs.Place.{spine_of, place_of}
use Rattle.places.specs.Thinning.{thinning_of}
use Rattle.places.specs.declared.place.Spine.{Spine}
use Rattle.places.specs.declared.place.Place.{Place}
use Rattle.places.specs.declared.thinning.Thinning.{Thinning}
use Rattle.profile.specs.declared.unchecked.Shape.{Shape}
use Rattle.tables.specs.Tables.{ptm_t}
use Rattle.species.specs.Species.{nodes}

-- what a shape fixes, and what an altitude gives, for every species
abbrev pub spine_at : Shape → Spine
spine_at h = spine_of h (ptm_t ‼ 5) nodes

abbrev pub place_at : Shape → Float → Place
place_at h z = place_of h z (ptm_t ‼ 5) nodes

-- w is the place of the turbopause zh where a species is mixed, and anything elsewhere
abbrev pub Turbopause : Shape → Bool → Float → Place → Type 0
Turbopause h on zh w = on ≡ true → w ≡ place_at h zh

-- t thins out what is mixed where a species is mixed, and is anything elsewhere
abbrev pub Mixes : Bool → Place → Float → Thinning → Type 0
Mixes on p xmm t = on ≡ true → t ≡ thinning_of p xmm 0·0
