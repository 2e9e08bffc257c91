-- Which fields count under a switch row: those that demand 3's list does not shut off.
use Rattle.std.specs.Prelude.{◌≡◌, Bool, true, false, not, List, map, ℕ, ℤ, get_or}
use Rattle.std.proofs.Math.ListN.{get_or-map}
use Rattle.shutoff.specs.Shut.{shut}

unfoldable pub counts_of : List ℤ → List Bool
counts_of w = map not (shut w)

-- field by field
pub counts_at : (w : List ℤ) (k : ℕ) → get_or (counts_of w) k false ≡ not (get_or (shut w) k true)
unfolding counts_of
counts_at w k = get_or-map not (shut w) k true
