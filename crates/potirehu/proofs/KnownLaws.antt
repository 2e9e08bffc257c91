-- The outcomes of the host's call on a record known in part, by the tests on its slices.
use Prim.Native.Nat.{ℕ}
use mathlib.Core.Path.{◌≡◌, ◌∙◌}
use mathlib.Core.Bool.{true, false}
use mathlib.Core.List.{List}
use lib.IntN.{ℤ}
use lib.ListN.{length}
use lib.Ieee.{Float}
use Rattle.refusals.specs.Refusals.{Answer, accepted_of}
use Rattle.setting.specs.declared.Input.{Input}
use Rattle.known.specs.Known.{known_answer, known_row}
use Rattle.host_record.specs.Record.{code_of, record_of}
use Rattle.potirehu.specs.Potirehu.{slices_of}
use Rattle.potirehu.specs.KnownInPart.{host_known, host_known_row}

module _ (known : ℕ) (year doy : ℤ) (f l : List Float) (w : List ℤ) (xs : List Float) (a : Answer) (e : a ≡ slices_of 11 f l w (length xs)) where
  abbrev Outcome : ℕ → List Float → Type 0
  Outcome x ys = (x ≡ code_of (host_known known year doy f l w (length xs))) × (ys ≡ host_known_row known year doy f l w xs)

  -- a slice has not its length
  pub not_called : (x : ℕ) → accepted_of a ≡ false → x ≡ code_of a → Outcome x xs
  unfolding host_known host_known_row
  not_called x t c = (c ∙ rw (← e, t), rw (← e, t))

  -- n and v are the record and the switch row as they were handed on
  pub called : (x : ℕ) (r : Answer) (n : Input) (v : List ℤ) (ys : List Float)
      → accepted_of a ≡ true
      → x ≡ code_of r
      → r ≡ known_answer known v n (length xs)
      → ys ≡ known_row known v n xs
      → n ≡ record_of year doy f l
      → v ≡ w
      → Outcome x ys
  unfolding host_known host_known_row
  called x r n v ys t e0 e1 e2 e3 e4 = (rw (e0, e1, e3, e4, ← e, t), rw (e2, e3, e4, ← e, t))
