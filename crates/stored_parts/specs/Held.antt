-- Which parts hold which others.
use Rattle.std.specs.Prelude.{◌≡◌, refl, true, List, [], ◌∷◌, Float}
use Rattle.numbers.specs.Booleans.{or_left, or_right}
use Rattle.stored_parts.specs.declared.Parts.{Parts}
use Rattle.stored_parts.specs.Parts.{parts_at, all_parts, either_parts, parts_from}

-- the parts that are stored hold those that an altitude reads
pub record PartsHold (p a : Parts) : Type 0 where
  pub summit : a.summit ≡ true → p.summit ≡ true
  pub below : a.below ≡ true → p.below ≡ true
  pub tropo : a.tropo ≡ true → p.tropo ≡ true
  pub low : a.low ≡ true → p.low ≡ true
  pub mid : a.mid ≡ true → p.mid ≡ true
  pub top : a.top ≡ true → p.top ≡ true

-- all parts hold those of every altitude
pub all_hold : (a : Parts) → PartsHold all_parts a
unfolding all_parts
all_hold a = record { summit = λ e. refl; below = λ e. refl; tropo = λ e. refl; low = λ e. refl; mid = λ e. refl; top = λ e. refl }

hold_themselves : (p : Parts) → PartsHold p p
hold_themselves p = record { summit = λ e. e; below = λ e. e; tropo = λ e. e; low = λ e. e; mid = λ e. e; top = λ e. e }

-- what holds the parts of two holds those of each
first_of : (p a b : Parts) → PartsHold p (either_parts a b) → PartsHold p a
unfolding either_parts
first_of p a b h =
    record {
      summit = λ e. h.summit (or_left a.summit b.summit e);
      below = λ e. h.below (or_left a.below b.below e);
      tropo = λ e. h.tropo (or_left a.tropo b.tropo e);
      low = λ e. h.low (or_left a.low b.low e);
      mid = λ e. h.mid (or_left a.mid b.mid e);
      top = λ e. h.top (or_left a.top b.top e);
    }

pub second_of : (p a b : Parts) → PartsHold p (either_parts a b) → PartsHold p b
unfolding either_parts
second_of p a b h =
    record {
      summit = λ e. h.summit (or_right a.summit b.summit e);
      below = λ e. h.below (or_right a.below b.below e);
      tropo = λ e. h.tropo (or_right a.tropo b.tropo e);
      low = λ e. h.low (or_right a.low b.low e);
      mid = λ e. h.mid (or_right a.mid b.mid e);
      top = λ e. h.top (or_right a.top b.top e);
    }

-- the parts that the altitudes read hold those that were read before
pub before_held : (m : Parts) (alts : List Float) → PartsHold (parts_from m alts) m
unfolding parts_from
before_held m [] = hold_themselves m
before_held m (z ∷ zs) = first_of _ m (parts_at z) (before_held (either_parts m (parts_at z)) zs)
