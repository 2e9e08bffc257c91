-- All altitudes in range: how the code sees in one loop that none of them is refused.
use Rattle.std.specs.Prelude.{ℕ, ◌+◌, ◌≡◌, refl, Bool, true, false, ◌&&◌, List, [], ◌∷◌, Float}
use Rattle.std.proofs.Common.{◌∙◌}
use Rattle.std.proofs.lemmas.Bool.{false≢true}
use Rattle.std.specs.Float.{nan, inf, fin}
use Rattle.std.specs.Float.Ieee.{le, lt, eq, of_bits}
use Rattle.numbers.specs.Literals.{0·0, 2500·0}
use Rattle.numbers.specs.Tests.{finite_of}
use Rattle.numbers.specs.Booleans.{both}
use Rattle.refusals.specs.Refusals.{Accepted}
use Rattle.acceptance.specs.Acceptance.{within_of, unmixed_of}
use Rattle.altitudes.specs.Altitudes.{altitudes_from, unmixed_from}

unfoldable pub all_within : List Float → Bool
all_within [] = true
all_within (z ∷ zs) = within_of 0·0 2500·0 z && all_within zs

-- an altitude in range is finite
within_finite : (z : Float) → within_of 0·0 2500·0 z ≡ true → finite_of z ≡ true
unfolding within_of finite_of le lt eq of_bits
within_finite nan h = absurd (false≢true h)
within_finite (inf true) h = absurd (false≢true h)
within_finite (inf false) h = absurd (false≢true h)
within_finite (fin s m e) h = refl

pub none_refused : (k : ℕ) (zs : List Float) → all_within zs ≡ true → altitudes_from k zs ≡ Accepted
unfolding all_within altitudes_from
none_refused k [] h = refl
none_refused k (z ∷ zs) h =
    let each = both (within_of 0·0 2500·0 z) (all_within zs) h in
    rw (within_finite z each.0, each.0) (none_refused (k + 1) zs each.1)

-- where N2 is mixed no altitude is too low
pub none_unmixed : (on : Bool) (k : ℕ) (zs : List Float) → on ≡ true → unmixed_from on k zs ≡ Accepted
unfolding unmixed_from unmixed_of
none_unmixed true k [] e = refl
none_unmixed true k (z ∷ zs) e = none_unmixed true (k + 1) zs e
none_unmixed false k zs e = absurd (false≢true e)
