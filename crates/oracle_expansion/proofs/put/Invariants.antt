-- `put` meets its contract: the entries below i are written.
use mathlib.Core.Path.{◌≡◌}
use Prim.Native.Nat.{ℕ, ◌<◌}
use lib.ListN.{get_or}
use lib.Ieee.{nan}
use Rattle.oracle_expansion.specs.OracleExpansion.{entry_of}
use Rattle.oracle_expansion.proofs.put.Given as goal

abbrev pub invariant-loop-i : goal.invariant-loop-i
invariant-loop-i l = (k : ℕ) → k < l.i → get_or l.numbers k nan ≡ entry_of l.e k
