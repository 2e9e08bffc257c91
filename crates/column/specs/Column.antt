-- Document 01's column: its rows, and the lent buffer afterwards.
use Rattle.std.specs.Prelude.{◌*◌, cond, List, [], ◌∷◌, ◌++◌, ℤ, length, drop, Float}
use Rattle.refusals.specs.Refusals.{accepted_of}
use Rattle.setting.specs.declared.Input.{Input}
use Rattle.acceptance.specs.Acceptance.{with_alt_of}
use Rattle.altitudes.specs.Altitudes.{column_answer}
use Rattle.atmosphere.specs.Atmosphere.{eleven_of}

-- the rows of a record: for each altitude the one-altitude call's eleven numbers
unfoldable pub column_rows : List ℤ → Input → List Float → List Float
column_rows w n [] = []
column_rows w n (z ∷ zs) = eleven_of w (with_alt_of n z) ++ column_rows w n zs

-- the lent buffer afterwards: the rows and the rest as it was where the call is accepted, else all as it was
unfoldable pub column_after : List ℤ → Input → List Float → List Float → List Float
column_after w n alts xs = cond (accepted_of (column_answer w n alts (length xs))) (column_rows w n alts ++ drop (11 * length alts) xs) xs
