-- The altitudes met one by one.
use mathlib.Core.Path.{◌≡◌, ap}
use mathlib.Core.List.{List}
use Prim.Native.Nat.{ℕ, ◌+◌, ◌<◌}
use native.Mathlib.Numerals.{add-one}
use lib.ListN.{length, drop, get_or}
use lib.Seq.{drop-cons, drop-length}
use lib.Ieee.{Float, nan}
use Rattle.stored_parts.specs.declared.Parts.{Parts}
use Rattle.stored_parts.specs.Parts.{parts_at, no_parts, either_parts, parts_from}

pub not_begun : (alts : List Float) (p : Parts) → p ≡ no_parts → parts_from p (drop 0 alts) ≡ parts_from no_parts alts
not_begun alts p e = ap (λ (q : Parts). parts_from q alts) e

pub one_more : (alts : List Float) (k : ℕ) (p a q : Parts) → k < length alts → a ≡ parts_at (get_or alts k nan) → q ≡ either_parts p a
    → parts_from q (drop (k + 1) alts) ≡ parts_from p (drop k alts)
unfolding parts_from
one_more alts k p a q h e f = rw (f, e, add-one, drop-cons alts k nan h)

pub all_met : (alts : List Float) (k : ℕ) (p : Parts) → k ≡ length alts → p ≡ parts_from p (drop k alts)
unfolding parts_from
all_met alts k p e = rw (e, drop-length alts)
