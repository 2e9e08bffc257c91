-- What an accepted answer says of the slices, and a new row.
use Prim.Native.Nat.{ℕ}
use mathlib.Core.Path.{◌≡◌, refl, sym, ap, ◌∙◌}
use mathlib.Core.Bool.{Bool, true, false, cond, not, false≢true}
use mathlib.Core.List.{List}
use borrow.Author.Tests.{eqb-true}
use lib.Dec.{eqb}
use lib.IntN.{ℤ}
use lib.ListN.{length}
use lib.Ieee.{Float}
use Rattle.refusals.specs.Refusals.{Answer, Refused, accepted_of}
use Rattle.refusals.specs.declared.Reason.{Reason}
use Rattle.refusals.specs.declared.Reason.TheVariants.{WrongLength}
use Rattle.setting.specs.declared.Input.{Input}
use Rattle.acceptance.specs.Acceptance.{judged_of}
use Rattle.station_record.specs.Record.{station_whole}
use Rattle.station_answer.specs.Answers.{station_answer, altitude_answer, row_taken}

-- an accepted answer passed each test
passed : (b : Bool) (n : Reason) (k : ℕ) (a : Answer) → accepted_of (cond (not b) (Refused n k) a) ≡ true → (b ≡ true) × (accepted_of a ≡ true)
passed true n k a h = (refl, h)
passed false n k a h = absurd (false≢true h)

module _ (len : ℕ) (whole : List ℤ) (count : ℕ) (alt : Float) where
  pub altitude_fits : accepted_of (altitude_answer len whole count alt) ≡ true → (len ≡ 11) × (length whole ≡ 27) × (count ≡ 259)
  unfolding altitude_answer
  altitude_fits h =
      let a = passed (eqb len 11) WrongLength 11 _ h in
      let b = passed (eqb (length whole) 27) WrongLength 27 _ a.1 in
      let c = passed (eqb count 259) WrongLength 259 _ b.1 in
      (eqb-true len 11 a.0, eqb-true (length whole) 27 b.0, eqb-true count 259 c.0)

pub station_fits : (w : List ℤ) (n : Input) (ints count : ℕ) → accepted_of (station_answer w n ints count) ≡ true → (ints ≡ 27) × (count ≡ 259)
unfolding station_answer
station_fits w n ints count h =
    let a = passed (eqb ints 27) WrongLength 27 _ h in
    let b = passed (eqb count 259) WrongLength 259 _ a.1 in
    (eqb-true ints 27 a.0, eqb-true count 259 b.0)

-- ---- a new row

module _ (w : List ℤ) (n : Input) (ys : List ℤ) where
  pub row_refused : accepted_of (judged_of w n) ≡ false → ys ≡ row_taken w n ys
  unfolding row_taken
  row_refused t = simp t

  pub row_taken_lem : (zs : List ℤ) → accepted_of (judged_of w n) ≡ true → zs ≡ station_whole w n → zs ≡ row_taken w n ys
  unfolding row_taken
  row_taken_lem zs t g = simp t g
