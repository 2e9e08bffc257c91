-- The cases of a density in bands.
use mathlib.Core.Path.{◌≡◌, ◌∙◌}
use mathlib.Core.List.{List}
use borrow.Author.Tests.{eq-eqb, ne_eqb}
use Rattle.std.proofs.Common.{None, Some}
use lib.IntN.{ℤ}
use lib.ListN.{length}
use lib.Ieee.{Float}
use Rattle.refusals.specs.Refusals.{Answer, Refused}
use Rattle.refusals.specs.declared.Reason.TheVariants.{OutOfRange, WrongLength}
use Rattle.setting.specs.declared.Input.{Input}
use Rattle.atmosphere.specs.Atmosphere.{answer_of, row_after}
use Rattle.band_table.specs.Table.{band_row}
use Rattle.bands.specs.Bands.{at_metre, banded_answer, banded_after}

module _ (t : List ℤ) (metre : ℤ) (n : Input) (xs : List Float) where
  pub longer : (length xs ≡ 11 → ⊥) → (Refused WrongLength 11 ≡ banded_answer t metre n (length xs)) × (xs ≡ banded_after t metre n xs)
  unfolding banded_answer banded_after
  longer h = let e = ne_eqb (length xs) 11 h in (simp e, simp e)

  module _ (l : length xs ≡ 11) where
    pub no_band_lem : None ≡ band_row t metre → (Refused OutOfRange 3 ≡ banded_answer t metre n (length xs)) × (xs ≡ banded_after t metre n xs)
    unfolding banded_answer banded_after
    no_band_lem e =
        let k = eq-eqb (length xs) 11 l in
        (simp (k, ← e), simp (k, ← e))

    pub in_band : (w : List ℤ) → Some w ≡ band_row t metre → (a : Answer) (ys : List Float)
        → a ≡ answer_of w (at_metre n metre) (length xs)
        → ys ≡ row_after w (at_metre n metre) xs
        → (a ≡ banded_answer t metre n (length xs)) × (ys ≡ banded_after t metre n xs)
    unfolding banded_answer banded_after row_after
    in_band w e a ys p q =
        let k = eq-eqb (length xs) 11 l in
        (p ∙ simp (k, ← e), q ∙ simp (k, ← e))
