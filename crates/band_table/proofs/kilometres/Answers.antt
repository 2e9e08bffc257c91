-- `kilometres` meets its contract.
use mathlib.Core.Path.{◌≡◌, sym, subst}
use mathlib.Core.Bool.{false}
use Prim.Native.Nat.{ℕ, ◌≤◌}
use native.Mathlib.Omega.{arith}
use mir.Syntax.{w64}
use mir.Facts.{to_z-of_z}
use borrow.Author.Rules.{rules}
use borrow.Author.Tests.{ltb-false}
use lib.Dec.{T, le→leb}
use lib.IntN.{ℤ, pos, negsuc}
use lib.Ieee.{binary64, in_float}
use lib.Signed.{lt_z}
use Rattle.band_table.specs.Kilometres.{kilometres_of_metres}
use Rattle.band_table.proofs.kilometres.Goals as goal

-- a whole metre up to 2,500,000 is a float
exact : (z : ℤ) → lt_z z (pos 0) ≡ false → lt_z (pos 2500000) z ≡ false → T (in_float binary64 z)
unfolding in_float
exact (pos n) l h = le→leb n 9007199254740992 (fits n (ltb-false 2500000 n h))
  where
    fits : (n : ℕ) → n ≤ 2500000 → n ≤ 9007199254740992
    fits n h = omega arith
exact (negsuc n) l h = absurd (subst T l tt)

pub int_to_float-result : goal.int_to_float-result
int_to_float-result c = subst (λ (z : ℤ). T (in_float binary64 z)) (sym (to_z-of_z {w = w64} {z = c.args.metre} (search rules))) (exact c.args.metre c.requires.0 c.requires.1)

pub returns : goal.returns
unfolding kilometres_of_metres
returns c = simp (to_z-of_z {w = w64} {z = c.args.metre} (search rules))
