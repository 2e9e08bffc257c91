-- A station from C: what potirehu_station accepts is kept, each call on it keeps it, and an altitude of it is the one-altitude call's on the record and
-- the row as they then are.
use Rattle.std.specs.Prelude.{ℕ, ◌≡◌, refl, Bool, true, false, cond, ◌&&◌, List, [], ◌∷◌, eqb, ℤ, length, replicate, Float}
use Rattle.std.proofs.Common.{sym, ap, ap₂, ◌∙◌}
use Rattle.std.proofs.Math.Bool.{not}
use borrow.Author.Tests.{eqb-true, not-false}
use Rattle.numbers.specs.Arithmetic.{◌‼◌}
use Rattle.numbers.specs.Literals.{0·0}
use Rattle.refusals.specs.Refusals.{Accepted, Answer, Refused, accepted_of}
use Rattle.refusals.specs.declared.Reason.TheVariants.{WrongLength}
use Rattle.setting.specs.declared.Input.{Input}
use Rattle.acceptance.specs.Acceptance.{judged_of, with_alt_of}
use Rattle.acceptance.specs.Refusals.{no_refusal}
use Rattle.atmosphere.specs.Atmosphere.{answer_of, row_after}
use Rattle.drag.specs.Drag.{drag_after}
use Rattle.station_record.specs.Record.{station_whole}
use Rattle.station_answer.specs.declared.Change.{Change}
use Rattle.station_answer.specs.Answers.{station_answer, altitude_answer, switches_answer}
use Rattle.station.specs.Station.{station_numbers, whole_after, station_numbers_after, altitude_row, altitude_drag, changed_numbers, switched_whole, switched_numbers}
use Rattle.station.proofs.Theorems.{Held, station_of, call_of, call_on, call_told, call_held, prepared_held, altitude_told}
use Rattle.station.proofs.Theorems as station
use Rattle.station.proofs.Drag.{drag_told}
use Rattle.host_record.specs.Record.{record_of, lengths_of, values_of}
use Rattle.potirehu.specs.Potirehu.{host_station, host_whole, host_numbers, host_switches, host_switched_whole, host_switched_numbers}

-- ---- calls on a station, in any order

-- potirehu_station_sec, _lst, _g_long, _fluxes, _move; potirehu_station_switches with a row of any length
pub data HostCall : Type 0 where
  change : Change → HostCall
  switches : List ℤ → HostCall

-- the two slices after a call
unfoldable pub host_call_on : HostCall → List ℤ → List Float → List ℤ × List Float
host_call_on (change c) whole xs = (whole, changed_numbers c whole xs)
host_call_on (switches u) whole xs = (host_switched_whole u whole xs, host_switched_numbers u whole xs)

-- after the calls
unfoldable pub host_after : List ℤ → List Float → List HostCall → List ℤ × List Float
host_after whole xs [] = (whole, xs)
host_after whole xs (c ∷ cs) = host_after (host_call_on c whole xs).0 (host_call_on c whole xs).1 cs

-- the row and the record after a call: a row is taken that has 24 entries and under which the one-altitude call accepts the record
unfoldable pub host_call_of : HostCall → List ℤ → Input → List ℤ × Input
host_call_of (change c) w n = call_of (station.change c) w n
host_call_of (switches u) w n = (cond (eqb (length u) 24 && accepted_of (judged_of u n)) u w, n)

-- after the calls
unfoldable pub host_held_after : List ℤ → Input → List HostCall → List ℤ × Input
host_held_after w n [] = (w, n)
host_held_after w n (c ∷ cs) = host_held_after (host_call_of c w n).0 (host_call_of c w n).1 cs

-- ---- a new row

again : (a b : Bool) (x : Answer)
    → cond (not a) (Refused WrongLength 27) (cond (not b) (Refused WrongLength 259) (cond (not a) (Refused WrongLength 27) (cond (not b) (Refused WrongLength 259) x)))
    ≡ cond (not a) (Refused WrongLength 27) (cond (not b) (Refused WrongLength 259) x)
again true true x = refl
again true false x = refl
again false b x = refl

-- of 24 entries it is the station's own call
row_met : (u whole : List ℤ) (xs : List Float) → eqb (length u) 24 ≡ true → host_switches u whole xs ≡ switches_answer u whole xs
unfolding host_switches switches_answer
row_met u whole xs e = rw e (again (eqb (length whole) 27) (eqb (length xs) 259) _)

once : {A : Type 0} (b : Bool) (y x : A) → cond b (cond b y x) x ≡ cond b y x
once true y x = refl
once false y x = refl

row_on : (u whole : List ℤ) (xs : List Float) → eqb (length u) 24 ≡ true
    → (host_switched_whole u whole xs ≡ switched_whole u whole xs) × (host_switched_numbers u whole xs ≡ switched_numbers u whole xs)
unfolding host_switched_whole host_switched_numbers switched_whole switched_numbers
row_on u whole xs e =
    let b = accepted_of (switches_answer u whole xs) in
    (rw (row_met u whole xs e) (once b _ whole), rw (row_met u whole xs e) (once b _ xs))

-- of any other number of entries it is refused
row_refused : (u whole : List ℤ) (xs : List Float) → eqb (length u) 24 ≡ false → accepted_of (host_switches u whole xs) ≡ false
unfolding host_switches
row_refused u whole xs e = rw e (go (eqb (length whole) 27) (eqb (length xs) 259))
  where
    go : (a b : Bool) → accepted_of (cond {A = Answer} (not a) (Refused WrongLength 27) (cond (not b) (Refused WrongLength 259) (Refused WrongLength 24))) ≡ false
    go true true = refl
    go true false = refl
    go false b = refl

-- ---- a call keeps a station

pub host_call : (c : HostCall) (w : List ℤ) (n : Input) → Held w n
    → (host_call_on c (station_whole w n) (station_numbers w n) ≡ station_of (host_call_of c w n).0 (host_call_of c w n).1) × Held (host_call_of c w n).0 (host_call_of c w n).1
unfolding host_call_on host_call_of call_on call_of host_switched_whole host_switched_numbers
host_call (change c) w n h = (call_told (station.change c) w n h, call_held (station.change c) w n h)
host_call (switches u) w n h = go (eqb (length u) 24) refl
  where
    go : (b : Bool) → eqb (length u) 24 ≡ b
        → ((host_switched_whole u (station_whole w n) (station_numbers w n), host_switched_numbers u (station_whole w n) (station_numbers w n)) ≡ station_of (cond (b && accepted_of (judged_of u n)) u w) n)
        × Held (cond (b && accepted_of (judged_of u n)) u w) n
    go true e =
        let r = row_on u (station_whole w n) (station_numbers w n) e in
        let c = station.switches u (eqb-true (length u) 24 e) in
        (ap₂ (λ (ys : List ℤ) (xs : List Float). (ys, xs)) r.0 r.1 ∙ call_told c w n h, call_held c w n h)
    go false e = (rw (row_refused u (station_whole w n) (station_numbers w n) e), h)

-- after any calls the station is the one that preparing the record as it then is with the row as it then is would give
pub host_kept : (w : List ℤ) (n : Input) (cs : List HostCall) → Held w n
    → (host_after (station_whole w n) (station_numbers w n) cs ≡ station_of (host_held_after w n cs).0 (host_held_after w n cs).1)
    × Held (host_held_after w n cs).0 (host_held_after w n cs).1
unfolding host_after host_held_after
host_kept w n [] h = (refl, h)
host_kept w n (c ∷ cs) h =
    let k = host_call c w n h in
    let r = host_kept (host_call_of c w n).0 (host_call_of c w n).1 cs k.1 in
    (ap (λ (s : List ℤ × List Float). host_after s.0 s.1 cs) k.0 ∙ r.0, r.1)

-- ---- a station that potirehu_station accepts

seven_values : (l : List Float) → length (values_of l) ≡ 7
unfolding values_of
seven_values l = go (eqb (length l) 7)
  where
    go : (b : Bool) → length (cond (not b) (replicate 7 0·0) ((l ‼ 0) ∷ (l ‼ 1) ∷ (l ‼ 2) ∷ (l ‼ 3) ∷ (l ‼ 4) ∷ (l ‼ 5) ∷ (l ‼ 6) ∷ [])) ≡ 7
    go true = refl
    go false = refl

values_long : (year doy : ℤ) (f l : List Float) → length (record_of year doy f l).ap_array ≡ 7
unfolding record_of
values_long year doy f l = seven_values l

module _ (year doy : ℤ) (f l : List Float) (w : List ℤ) (ys : List ℤ) (xs : List Float) (e : host_station year doy f l w (length ys) (length xs) ≡ Accepted) where
  abbrev n : Input
  n = record_of year doy f l

  -- its lengths pass, and preparing accepts the record
  passed : (length w ≡ 24) × (station_answer w n (length ys) (length xs) ≡ Accepted) × (length ys ≡ 27) × (length xs ≡ 259)
  unfolding host_station lengths_of
  passed =
      let a = no_refusal (not (eqb (length ys) 27)) WrongLength 27 _ e in
      let b = no_refusal (not (eqb (length xs) 259)) WrongLength 259 _ a.1 in
      let c = no_refusal (not (eqb (length f) 8)) WrongLength 8 _ b.1 in
      let d = no_refusal (not (eqb (length l) 0) && not (eqb (length l) 7)) WrongLength 7 _ c.1 in
      let g = no_refusal (not (eqb (length w) 24)) WrongLength 24 _ d.1 in
      (eqb-true _ _ (not-false _ g.0), g.1, eqb-true _ _ (not-false _ a.0), eqb-true _ _ (not-false _ b.0))

  -- what it leaves in the two slices, and that it is kept
  pub host_prepared : (host_whole year doy f l w ys (length xs) ≡ station_whole w (with_alt_of n 0·0)) × (host_numbers year doy f l w (length ys) xs ≡ station_numbers w (with_alt_of n 0·0))
  unfolding host_whole host_numbers whole_after station_numbers_after
  host_prepared = (rw (e, passed.1), rw (e, passed.1))

  pub host_held : Held w (with_alt_of n 0·0)
  host_held =
      prepared_held w n passed.0 (values_long year doy f l)
      (ap₂ (λ (i j : ℕ). station_answer w n i j) (sym passed.2) (sym passed.3) ∙ passed.1)

  -- Of a station from C, after any calls: an altitude's answer is the one-altitude call's on the record and the row as they then are, and so is the row,
  -- of gtd7 and of gtd7d.
  pub host_altitude : (cs : List HostCall) (z : Float) (row : List Float)
      → (altitude_answer (length row) (host_after (host_whole year doy f l w ys (length xs)) (host_numbers year doy f l w (length ys) xs) cs).0
      (length (host_after (host_whole year doy f l w ys (length xs)) (host_numbers year doy f l w (length ys) xs) cs).1) z
      ≡ answer_of (host_held_after w (with_alt_of n 0·0) cs).0 (with_alt_of (host_held_after w (with_alt_of n 0·0) cs).1 z) (length row))
      × (altitude_row (host_after (host_whole year doy f l w ys (length xs)) (host_numbers year doy f l w (length ys) xs) cs).0
      (host_after (host_whole year doy f l w ys (length xs)) (host_numbers year doy f l w (length ys) xs) cs).1 z row
      ≡ row_after (host_held_after w (with_alt_of n 0·0) cs).0 (with_alt_of (host_held_after w (with_alt_of n 0·0) cs).1 z) row)
      × (altitude_drag (host_after (host_whole year doy f l w ys (length xs)) (host_numbers year doy f l w (length ys) xs) cs).0
      (host_after (host_whole year doy f l w ys (length xs)) (host_numbers year doy f l w (length ys) xs) cs).1 z row
      ≡ drag_after (host_held_after w (with_alt_of n 0·0) cs).0 (with_alt_of (host_held_after w (with_alt_of n 0·0) cs).1 z) row)
  host_altitude cs z row =
      let k = host_kept w (with_alt_of n 0·0) cs host_held in
      let t = altitude_told (host_held_after w (with_alt_of n 0·0) cs).0 (host_held_after w (with_alt_of n 0·0) cs).1 z row k.1 in
      rw (host_prepared.0, host_prepared.1, k.0)
      (t.0, t.1, drag_told (host_held_after w (with_alt_of n 0·0) cs).0 (host_held_after w (with_alt_of n 0·0) cs).1 z row k.1)
