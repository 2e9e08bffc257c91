-- Where a species is mixed some species is.
use mathlib.Core.Path.{◌≡◌, refl, sym}
use mathlib.Core.Bool.{Bool, true, false, not, false≢true}
use Rattle.numbers.specs.Booleans.{or_left, or_right}
use Rattle.mixing_limits.specs.Limits.{oxygens_mixed, some_mixed}
use Rattle.mixing_limits.specs.declared.Mixed.{Mixed}

clash : {A : Type 0} → false ≡ true → A
clash e = absurd (false≢true e)

module _ (m : Mixed) where
  pub o_there : m.o ≡ true → oxygens_mixed m ≡ true
  unfolding oxygens_mixed
  o_there e = or_left m.o _ e

  pub o2_there : m.o2 ≡ true → oxygens_mixed m ≡ true
  unfolding oxygens_mixed
  o2_there e = or_right m.o _ (or_left m.o2 _ e)

  pub ar_there : m.ar ≡ true → oxygens_mixed m ≡ true
  unfolding oxygens_mixed
  ar_there e = or_right m.o _ (or_right m.o2 _ (or_left m.ar _ e))

  pub n_there : m.n ≡ true → oxygens_mixed m ≡ true
  unfolding oxygens_mixed
  n_there e = or_right m.o _ (or_right m.o2 _ (or_right m.ar _ e))

  pub four_some : oxygens_mixed m ≡ true → some_mixed m ≡ true
  unfolding some_mixed
  four_some e = or_right m.he _ (or_right m.n2 _ (or_right m.h _ e))

  pub he_some : m.he ≡ true → some_mixed m ≡ true
  unfolding some_mixed
  he_some e = or_left m.he _ e

  pub n2_some : m.n2 ≡ true → some_mixed m ≡ true
  unfolding some_mixed
  n2_some e = or_right m.he _ (or_left m.n2 _ e)

  pub h_some : m.h ≡ true → some_mixed m ≡ true
  unfolding some_mixed
  h_some e = or_right m.he _ (or_right m.n2 _ (or_left m.h _ e))

pub holds : (b : Bool) → not b ≡ false → b ≡ true
holds true e = refl
holds false e = clash (sym e)

pub never : {A : Type 0} (b : Bool) → b ≡ false → b ≡ true → A
never true e f = clash (sym e)
never false e f = clash f
