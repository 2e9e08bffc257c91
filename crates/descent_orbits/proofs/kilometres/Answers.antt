-- `kilometres` meets its contract.
use mathlib.Core.Path.{refl}
use Prim.Native.Nat.{ℕ, ◌≤◌}
use native.Mathlib.Omega.{arith}
use lib.Dec.{T, le→leb}
use lib.IntN.{pos}
use lib.Ieee.{binary64, in_float}
use Rattle.descent_orbits.specs.DescentOrbits.{kilometres_of_millimetres}
use Rattle.descent_orbits.proofs.kilometres.Goals as goal

-- whole millimetres up to 1,000 km are a float
exact : (a : ℕ) → a ≤ 1000000000 → T (in_float binary64 (pos a))
unfolding in_float
exact a h = le→leb a 9007199254740992 (omega arith)

pub int_to_float-result : goal.int_to_float-result
int_to_float-result c = exact c.args.a c.requires

pub returns : goal.returns
unfolding kilometres_of_millimetres
returns c = refl
