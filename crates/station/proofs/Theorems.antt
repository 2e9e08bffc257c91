-- What holds of a station that its calls gave: an altitude of it is the one-altitude call's on the record and the row as they
-- then are, whatever changes and new rows came before.
use Rattle.std.specs.Prelude.{ℕ, zero, suc, ◌≡◌, refl, Bool, true, false, cond, not, ◌&&◌, List, [], ◌∷◌, eqb, ℤ, pos, length, replicate, take, drop, get_or, Float, Err, Ok}
use Rattle.std.proofs.Common.{sym, ap, ap₂, ◌∙◌, arith, eq-eqb, drop-cons}
use Rattle.std.proofs.lemmas.Bool.{false≢true}
use Rattle.std.proofs.Math.Seq.{drop-length}
use Rattle.std.specs.Float.{nan}
use Rattle.std.specs.Float.Ieee.{neg, le}
use Rattle.numbers.specs.Arithmetic.{◌‼◌}
use Rattle.numbers.specs.Literals.{0·0, 24·0, 48·0, 90·0, 400·0, 1000·0, 2500·0, 86400·0}
use Rattle.numbers.specs.Tests.{finite_of}
use Rattle.refusals.specs.Refusals.{Accepted, Answer, Refused, accepted_of}
use Rattle.refusals.specs.declared.Reason.{Reason}
use Rattle.refusals.specs.declared.Reason.TheVariants.{HistoryLacking, NotFinite, NotMixed, OutOfRange, WrongLength}
use Rattle.setting.specs.declared.Input.{Input}
use Rattle.setting.specs.declared.History.{History}
use Rattle.setting.specs.declared.History.TheVariants.{Absent, Present}
use Rattle.setting.specs.ApHistory.{absent_of, lacks_history_of}
use Rattle.setting.specs.Switches.{given, is_one, on_off, filled, sw_of}
use Rattle.views.specs.View.{view_of}
use Rattle.acceptance.specs.Acceptance.{within_of, day_within, lowest, array_unfit_of, unfit_of, array_outside_of, outside_of, found_of, judged_of, unmixed_of, record_answer, with_alt_of}
use Rattle.acceptance.specs.Refusals.{no_refusal}
use Rattle.acceptance.specs.Altitude.{zero_finite, zero_within}
use Rattle.atmosphere.specs.Atmosphere.{eleven_of, answer_of, row_after}
use Rattle.stored_parts.specs.Parts.{all_parts, parts_at}
use Rattle.stored.specs.Stored.{row_stored}
use Rattle.stored_parts.specs.Held.{all_hold}
use Rattle.stored.specs.Eleven.{stored_eleven}
use Rattle.shutoff.specs.Shut.{Alike}
use Rattle.shutoff.proofs.Theorems.{judged_first, known, row_written, alike_at, eleven≡}
use Rattle.station_record.specs.Record.{mark_of, history_in, station_whole, record_numbers, record_in}
use Rattle.station_answer.specs.declared.Change.{Change}
use Rattle.station_answer.specs.declared.Change.TheVariants.{Fluxes, GLong, Lst, Move, Sec}
use Rattle.station_answer.specs.Answers.{station_answer, altitude_answer, with_sec_of, with_lst_of, with_long_of, with_fluxes_of, change_of, change_answer, switches_answer}
use Rattle.station_values.specs.StationValues.{site_under}
use Rattle.station.specs.Station.{held_of, station_numbers, whole_after, station_numbers_after, altitude_row, refilled_by, changed_numbers, switched_whole, switched_numbers}
use Rattle.station.proofs.Renewed.{record_fourteen, numbers_long, numbers_front, renewed_told, sec_told}

-- ---- stations that were given: prepared, then any number of changes and new rows, refused ones among them

-- a call on a station: a change of the record, or a new row of 24
pub data Call : Type 0 where
  change : Change → Call
  switches : (u : List ℤ) → length u ≡ 24 → Call

-- the row and the record after a call, taken where the one-altitude call accepts the record under the row
unfoldable pub call_of : Call → List ℤ → Input → List ℤ × Input
call_of (change c) w n = (w, cond (accepted_of (judged_of w (change_of c n))) (change_of c n) n)
call_of (switches u e) w n = (cond (accepted_of (judged_of u n)) u w, n)

-- the row and the record after the calls
unfoldable pub held_after : List ℤ → Input → List Call → List ℤ × Input
held_after w n [] = (w, n)
held_after w n (c ∷ cs) = held_after (call_of c w n).0 (call_of c w n).1 cs

-- the two slices after a call
unfoldable pub call_on : Call → List ℤ → List Float → List ℤ × List Float
call_on (change c) whole xs = (whole, changed_numbers c whole xs)
call_on (switches u e) whole xs = (switched_whole u whole xs, switched_numbers u whole xs)

-- the two slices after the calls
unfoldable pub station_after : List ℤ → List Float → List Call → List ℤ × List Float
station_after whole xs [] = (whole, xs)
station_after whole xs (c ∷ cs) = station_after (call_on c whole xs).0 (call_on c whole xs).1 cs

-- the two slices that preparing leaves
abbrev pub station_of : List ℤ → Input → List ℤ × List Float
station_of w n = (station_whole w n, station_numbers w n)

-- a record that a station holds under a row: at altitude 0, with its seven values, accepted
pub record Held (w : List ℤ) (n : Input) : Type 0 where
  pub row : length w ≡ 24
  pub seven : length n.ap_array ≡ 7
  pub zero : with_alt_of n 0·0 ≡ n
  pub taken : judged_of w n ≡ Accepted

-- ---- the record is read again as it was

seven_plain : (a : List Float) → length a ≡ 7 → ((a ‼ 0) ∷ (a ‼ 1) ∷ (a ‼ 2) ∷ (a ‼ 3) ∷ (a ‼ 4) ∷ (a ‼ 5) ∷ (a ‼ 6) ∷ []) ≡ a
seven_plain a e =
    let none : drop 7 a ≡ [] = ap (λ (k : ℕ). drop k a) (sym e) ∙ drop-length a in
    sym
    (drop-cons a 0 nan (omega (arith, e))
    ∙ ap (λ (r : List Float). (a ‼ 0) ∷ r) (drop-cons a 1 nan (omega (arith, e))
    ∙ ap (λ (r : List Float). (a ‼ 1) ∷ r) (drop-cons a 2 nan (omega (arith, e))
    ∙ ap (λ (r : List Float). (a ‼ 2) ∷ r) (drop-cons a 3 nan (omega (arith, e))
    ∙ ap (λ (r : List Float). (a ‼ 3) ∷ r) (drop-cons a 4 nan (omega (arith, e))
    ∙ ap (λ (r : List Float). (a ‼ 4) ∷ r) (drop-cons a 5 nan (omega (arith, e))
    ∙ ap (λ (r : List Float). (a ‼ 5) ∷ r) (drop-cons a 6 nan (omega (arith, e))
    ∙ ap (λ (r : List Float). (a ‼ 6) ∷ r) none)))))))

mark_back : (h : History) → history_in (mark_of h) ≡ h
unfolding history_in mark_of
mark_back Absent = refl
mark_back Present = refl

record_back : (w : List ℤ) (n : Input) → Held w n → record_in (station_whole w n) (station_numbers w n) ≡ n
unfolding record_in station_whole station_numbers record_numbers with_alt_of
record_back w n h =
    ap₂ (λ (m : History) (a : List Float). record { year = n.year; doy = n.doy; sec = n.sec; alt = 0·0; g_lat = n.g_lat; g_long = n.g_long; lst = n.lst; f107a = n.f107a; f107 = n.f107; ap = n.ap; history = m; ap_array = a })
    (mark_back n.history) (seven_plain n.ap_array h.seven)
    ∙ h.zero

whole_long : (w : List ℤ) (n : Input) → length w ≡ 24 → length (station_whole w n) ≡ 27
unfolding station_whole
whole_long w n e = ap (λ (k : ℕ). suc (suc (suc k))) e

-- ---- a change

whole_kept : (w : List ℤ) (n : Input) (c : Change) → station_whole w (change_of c n) ≡ station_whole w n
unfolding station_whole with_sec_of with_lst_of with_long_of with_fluxes_of
whole_kept w n (Sec y) = refl
whole_kept w n (Lst y) = refl
whole_kept w n (GLong y) = refl
whole_kept w n (Fluxes a f) = refl
whole_kept w n (Move s l g) = refl

array_kept : (n : Input) (c : Change) → (change_of c n).ap_array ≡ n.ap_array
unfolding with_sec_of with_lst_of with_long_of with_fluxes_of
array_kept n (Sec y) = refl
array_kept n (Lst y) = refl
array_kept n (GLong y) = refl
array_kept n (Fluxes a f) = refl
array_kept n (Move s l g) = refl

zero_kept : (n : Input) (c : Change) → with_alt_of (change_of c n) 0·0 ≡ change_of c (with_alt_of n 0·0)
unfolding with_alt_of with_sec_of with_lst_of with_long_of with_fluxes_of
zero_kept n (Sec y) = refl
zero_kept n (Lst y) = refl
zero_kept n (GLong y) = refl
zero_kept n (Fluxes a f) = refl
zero_kept n (Move s l g) = refl

accepted_is : (a : Answer) → accepted_of a ≡ true → a ≡ Accepted
accepted_is (Ok v) e = refl
accepted_is (Err r) e = absurd (false≢true e)

-- a changed record that is accepted is held, and so is the old one
changed_held : (w : List ℤ) (n : Input) (c : Change) (b : Bool) → accepted_of (judged_of w (change_of c n)) ≡ b → Held w n → Held w (cond b (change_of c n) n)
changed_held w n c true e h =
    record {
      row = h.row;
      seven = ap length (array_kept n c) ∙ h.seven;
      zero = zero_kept n c ∙ ap (change_of c) h.zero;
      taken = accepted_is (judged_of w (change_of c n)) e;
    }
changed_held w n c false e h = h

whole_one : (w : List ℤ) (n : Input) (c : Change) (b : Bool) → station_whole w (cond b (change_of c n) n) ≡ station_whole w n
whole_one w n c true = whole_kept w n c
whole_one w n c false = refl

chosen_numbers : (w : List ℤ) (b : Bool) (m n : Input) → cond b (station_numbers w m) (station_numbers w n) ≡ station_numbers w (cond b m n)
chosen_numbers w true m n = refl
chosen_numbers w false m n = refl

dropped : (w : List ℤ) (n : Input) → drop 3 (station_whole w n) ≡ w
unfolding station_whole
dropped w n = refl

-- 'A change is refused as the one-altitude call refuses the changed record, its altitude not looked at': a held record stands at altitude 0
pub change_met : (w : List ℤ) (n : Input) (c : Change) → Held w n → change_answer c (station_whole w n) (station_numbers w n) ≡ judged_of w (change_of c n)
unfolding change_answer
change_met w n c h = rw (dropped w n, record_back w n h, eq-eqb _ _ (whole_long w n h.row), eq-eqb _ _ (numbers_long w n))

-- 'and then leaves the station as it was', whatever it held
pub change_refused : (c : Change) (whole : List ℤ) (xs : List Float) → accepted_of (change_answer c whole xs) ≡ false → changed_numbers c whole xs ≡ xs
unfolding changed_numbers
change_refused c whole xs e = rw e

refilled_by_lem : (w : List ℤ) (n : Input) (c : Change) → refilled_by c w (change_of c n) (station_numbers w n) ≡ station_numbers w (change_of c n)
refilled_by_lem w n (Sec s) = sec_told w n s
refilled_by_lem w n (Lst l) = refl
refilled_by_lem w n (GLong g) = refl
refilled_by_lem w n (Fluxes a f) = refl
refilled_by_lem w n (Move s l g) = refl

change_told : (w : List ℤ) (n : Input) (c : Change) → Held w n
    → changed_numbers c (station_whole w n) (station_numbers w n) ≡ station_numbers w (cond (accepted_of (judged_of w (change_of c n))) (change_of c n) n)
unfolding changed_numbers
change_told w n c h =
    rw (change_met w n c h, dropped w n, record_back w n h, refilled_by_lem w n c)
    (chosen_numbers w (accepted_of (judged_of w (change_of c n))) (change_of c n) n)

-- ---- a new row

-- A held record is refused under another row for an absent history alone
pub judged_under : (w u : List ℤ) (n : Input) → Held w n → judged_of u n ≡ cond (lacks_history_of u n) (Refused HistoryLacking 10) Accepted
unfolding judged_of
judged_under w u n h =
    let a = no_refusal (found_of (unfit_of n)) NotFinite _ _ h.taken in
    let b = no_refusal (lacks_history_of w n) HistoryLacking 10 _ a.1 in
    let c = no_refusal (found_of (outside_of n)) OutOfRange _ _ b.1 in
    rw (a.0, c.0)

switches_met : (w u : List ℤ) (n : Input) → Held w n → switches_answer u (station_whole w n) (station_numbers w n) ≡ judged_of u n
unfolding switches_answer
switches_met w u n h = rw (record_back w n h, eq-eqb _ _ (whole_long w n h.row), eq-eqb _ _ (numbers_long w n))

-- The answer to a new row: 1 at place 10 where it asks for an absent history, else accepted
pub switches_told : (w u : List ℤ) (n : Input) → Held w n → switches_answer u (station_whole w n) (station_numbers w n) ≡ cond (lacks_history_of u n) (Refused HistoryLacking 10) Accepted
switches_told w u n h = switches_met w u n h ∙ judged_under w u n h

-- Refused, a station is as it was, whatever it held
pub switches_refused : (u whole : List ℤ) (xs : List Float) → accepted_of (switches_answer u whole xs) ≡ false → (switched_whole u whole xs ≡ whole) × (switched_numbers u whole xs ≡ xs)
unfolding switched_whole switched_numbers
switches_refused u whole xs e = (rw e, rw e)

row_chosen : (b : Bool) (w u : List ℤ) (n : Input) → cond b (station_whole u n) (station_whole w n) ≡ station_whole (cond b u w) n
row_chosen true w u n = refl
row_chosen false w u n = refl

numbers_chosen : (b : Bool) (w u : List ℤ) (n : Input) → cond b (station_numbers u n) (station_numbers w n) ≡ station_numbers (cond b u w) n
numbers_chosen true w u n = refl
numbers_chosen false w u n = refl

whole_switched : (w u : List ℤ) (n : Input) → Held w n → switched_whole u (station_whole w n) (station_numbers w n) ≡ station_whole (cond (accepted_of (judged_of u n)) u w) n
unfolding switched_whole
whole_switched w u n h = rw (switches_met w u n h, record_back w n h) (row_chosen (accepted_of (judged_of u n)) w u n)

numbers_switched : (w u : List ℤ) (n : Input) → Held w n → switched_numbers u (station_whole w n) (station_numbers w n) ≡ station_numbers (cond (accepted_of (judged_of u n)) u w) n
unfolding switched_numbers
numbers_switched w u n h =
    rw (switches_met w u n h, record_back w n h, dropped w n, renewed_told w u n) (numbers_chosen (accepted_of (judged_of u n)) w u n)

switched_held : (w u : List ℤ) (n : Input) (b : Bool) → length u ≡ 24 → accepted_of (judged_of u n) ≡ b → Held w n → Held (cond b u w) n
switched_held w u n true len e h = record { row = len; seven = h.seven; zero = h.zero; taken = accepted_is (judged_of u n) e }
switched_held w u n false len e h = h

-- ---- any calls

pub call_told : (c : Call) (w : List ℤ) (n : Input) → Held w n → call_on c (station_whole w n) (station_numbers w n) ≡ station_of (call_of c w n).0 (call_of c w n).1
unfolding call_on call_of
call_told (change c) w n h = ap₂ (λ (ys : List ℤ) (xs : List Float). (ys, xs)) (sym (whole_one w n c (accepted_of (judged_of w (change_of c n))))) (change_told w n c h)
call_told (switches u e) w n h = ap₂ (λ (ys : List ℤ) (xs : List Float). (ys, xs)) (whole_switched w u n h) (numbers_switched w u n h)

pub call_held : (c : Call) (w : List ℤ) (n : Input) → Held w n → Held (call_of c w n).0 (call_of c w n).1
unfolding call_of
call_held (change c) w n h = changed_held w n c (accepted_of (judged_of w (change_of c n))) refl h
call_held (switches u e) w n h = switched_held w u n (accepted_of (judged_of u n)) e refl h

-- Kept stations: after any calls the station is the one that preparing the record as it then is with the row as it then is would give, and that
-- record is held under that row
pub kept_station : (w : List ℤ) (n : Input) (cs : List Call) → Held w n
    → (station_after (station_whole w n) (station_numbers w n) cs ≡ station_of (held_after w n cs).0 (held_after w n cs).1) × Held (held_after w n cs).0 (held_after w n cs).1
unfolding station_after held_after
kept_station w n [] h = (refl, h)
kept_station w n (c ∷ cs) h =
    let r = kept_station (call_of c w n).0 (call_of c w n).1 cs (call_held c w n h) in
    (ap (λ (s : List ℤ × List Float). station_after s.0 s.1 cs) (call_told c w n h) ∙ r.0, r.1)

-- so it equals the one that preparing that record with that row anew gives, whatever memory is lent
pub as_prepared : (w : List ℤ) (n : Input) (cs : List Call) (ys : List ℤ) (xs : List Float) → Held w n → length ys ≡ 27 → length xs ≡ 259
    → station_after (station_whole w n) (station_numbers w n) cs
    ≡ (whole_after (held_after w n cs).0 (held_after w n cs).1 ys (length xs), station_numbers_after (held_after w n cs).0 (held_after w n cs).1 (length ys) xs)
unfolding whole_after station_numbers_after station_answer
as_prepared w n cs ys xs h e f =
    let r = kept_station w n cs h in
    let t : accepted_of (judged_of (held_after w n cs).0 (held_after w n cs).1) ≡ true = ap accepted_of r.1.taken in
    rw (eq-eqb _ _ e, eq-eqb _ _ f, r.1.zero, t) r.0

-- ---- an altitude of such a station

-- the first place that is found, where only the altitude's test may have changed
alone_2 : (a b : Bool) (bs : List Bool) (r : ℕ) → found_of (lowest 2 (a ∷ false ∷ bs) r) ≡ false → (lowest 2 (a ∷ b ∷ bs) r ≡ cond b 3 (lowest 4 bs r)) × (found_of (lowest 4 bs r) ≡ false)
unfolding found_of
alone_2 true b bs r h = absurd (false≢true (sym h))
alone_2 false b bs r h = (refl, h)

alone_1 : (a d b : Bool) (bs : List Bool) (r : ℕ) → found_of (lowest 1 (a ∷ d ∷ false ∷ bs) r) ≡ false → (lowest 1 (a ∷ d ∷ b ∷ bs) r ≡ cond b 3 (lowest 4 bs r)) × (found_of (lowest 4 bs r) ≡ false)
unfolding found_of
alone_1 true d b bs r h = absurd (false≢true (sym h))
alone_1 false true b bs r h = absurd (false≢true (sym h))
alone_1 false false b bs r h = (refl, h)

-- the refusals that are left
chain : (b d : Bool) (u o r s : ℕ) (lacks : Bool) → u ≡ cond b 3 r → found_of r ≡ false → lacks ≡ false → o ≡ cond d 3 s → found_of s ≡ false
    → cond (found_of u) (Refused NotFinite u) (cond lacks (Refused HistoryLacking 10) (cond (found_of o) (Refused OutOfRange o) Accepted)) ≡ cond b (Refused NotFinite 3) (cond d (Refused OutOfRange 3) Accepted)
unfolding found_of
chain true d u o r s lacks e f g i j = rw e
chain false true u o r s lacks e f g i j = rw (e, f, g, i)
chain false false u o r s lacks e f g i j = rw (e, f, g, i, j)

-- a held record with an altitude is refused for that altitude alone
judged_at : (w : List ℤ) (n : Input) (z : Float) → Held w n
    → judged_of w (with_alt_of n z) ≡ cond (not (finite_of z)) (Refused NotFinite 3) (cond (not (within_of 0·0 2500·0 z)) (Refused OutOfRange 3) Accepted)
unfolding judged_of unfit_of outside_of with_alt_of lacks_history_of
judged_at w n z h =
    let t : judged_of w (with_alt_of n 0·0) ≡ Accepted = ap (judged_of w) h.zero ∙ h.taken in
    let a = no_refusal (found_of (unfit_of (with_alt_of n 0·0))) NotFinite _ _ t in
    let b = no_refusal (lacks_history_of w (with_alt_of n 0·0)) HistoryLacking 10 _ a.1 in
    let c = no_refusal (found_of (outside_of (with_alt_of n 0·0))) OutOfRange _ _ b.1 in
    let us : List Bool = not (finite_of n.g_lat) ∷ not (finite_of n.g_long) ∷ not (finite_of n.lst) ∷ not (finite_of n.f107a) ∷ not (finite_of n.f107) ∷ not (finite_of n.ap) ∷ [] in
    let os : List Bool =
    not (within_of (neg 90·0) 90·0 n.g_lat) ∷ not (within_of (neg 1000·0) 1000·0 n.g_long) ∷ not (within_of (neg 24·0) 48·0 n.lst) ∷
    not (within_of 0·0 1000·0 n.f107a) ∷ not (within_of 0·0 1000·0 n.f107) ∷ not (within_of 0·0 400·0 n.ap) ∷ [] in
    let au : ℕ = array_unfit_of (not (absent_of n.history)) n.ap_array in
    let ao : ℕ = array_outside_of (not (absent_of n.history)) n.ap_array in
    let u = alone_2 (not (finite_of n.sec)) (not (finite_of z)) us au (rw zero_finite at a.0) in
    let o = alone_1 (not (day_within n.doy)) (not (within_of 0·0 86400·0 n.sec)) (not (within_of 0·0 2500·0 z)) os ao (rw zero_within at c.0) in
    chain (not (finite_of z)) (not (within_of 0·0 2500·0 z)) (unfit_of (with_alt_of n z)) (outside_of (with_alt_of n z)) (lowest 4 us au) (lowest 4 os ao) (lacks_history_of w (with_alt_of n z)) u.0 u.1 b.0 o.0 o.1

-- switches 0 and 15
main_0 : (w : List ℤ) (n : Input) → on_off (is_one (get_or (station_whole w n) 3 (pos 0))) ≡ (view_of w n).sw ‼ 0
unfolding station_whole view_of sw_of filled
main_0 w n = refl

main_15 : (w : List ℤ) (n : Input) → on_off (is_one (get_or (station_whole w n) 18 (pos 0))) ≡ (view_of w n).sw ‼ 15
unfolding station_whole view_of sw_of filled
main_15 w n = refl

both_passed : (a b : Bool) → (a && b) ≡ true → b ≡ true
both_passed true b e = e
both_passed false b e = absurd (false≢true e)

within_top : (z : Float) → within_of 0·0 2500·0 z ≡ true → le z 2500·0 ≡ true
unfolding within_of
within_top z e = both_passed (le 0·0 z) (le z 2500·0) e

-- the row that the station gives is demand 2's, at every altitude in range
row_told : (w : List ℤ) (n : Input) (z : Float) → within_of 0·0 2500·0 z ≡ true
    → row_stored (on_off (is_one (get_or (station_whole w n) 3 (pos 0)))) (on_off (is_one (get_or (station_whole w n) 18 (pos 0)))) (take 234 (station_numbers w n)) z ≡ eleven_of w (with_alt_of n z)
unfolding held_of site_under view_of
row_told w n z e =
    rw (main_0 w n, main_15 w n, numbers_front w n) (stored_eleven w n all_parts (record_numbers n) z (record_fourteen n) (within_top z e) (all_hold (parts_at z)))

passed : (b : Bool) (n : Reason) (k : ℕ) (a : Answer) → accepted_of (cond (not b) (Refused n k) a) ≡ true → (b ≡ true) × (accepted_of a ≡ true)
passed true n k a h = (refl, h)
passed false n k a h = absurd (false≢true h)

in_range : (len : ℕ) (whole : List ℤ) (count : ℕ) (z : Float) → accepted_of (altitude_answer len whole count z) ≡ true → within_of 0·0 2500·0 z ≡ true
unfolding altitude_answer
in_range len whole count z h =
    let a = passed (eqb len 11) WrongLength 11 _ h in
    let b = passed (eqb (length whole) 27) WrongLength 27 _ a.1 in
    let c = passed (eqb count 259) WrongLength 259 _ b.1 in
    let d = passed (finite_of z) NotFinite 3 _ c.1 in
    let g = passed (day_within (get_or whole 1 (pos 0))) OutOfRange 1 _ d.1 in
    (passed (within_of 0·0 2500·0 z) OutOfRange 3 _ g.1).0

same_row : (b : Bool) (x y r : List Float) → (b ≡ true → x ≡ y) → cond b x r ≡ cond b y r
same_row true x y r e = e refl
same_row false x y r e = refl

-- 10 behind the altitude's own 2 and 3
ten_behind : (a b c : Bool)
    → cond (not (accepted_of (cond a (Refused NotFinite 3) (cond b (Refused OutOfRange 3) Accepted)))) (cond a (Refused NotFinite 3) (cond b (Refused OutOfRange 3) Accepted)) (cond c (Refused NotMixed 3) Accepted)
    ≡ cond a (Refused NotFinite 3) (cond b (Refused OutOfRange 3) (cond c (Refused NotMixed 3) Accepted))
ten_behind true b c = refl
ten_behind false true c = refl
ten_behind false false c = refl

fifteen : (w : List ℤ) (n : Input) → get_or (station_whole w n) 18 (pos 0) ≡ given w 15
unfolding station_whole
fifteen w n = refl

own_altitude : (n : Input) (z : Float) → (with_alt_of n z).alt ≡ z
unfolding with_alt_of
own_altitude n z = refl

day_passed : (n : Input) (b : Bool) → day_within n.doy ≡ b → found_of (outside_of n) ≡ false → b ≡ true
unfolding outside_of found_of
day_passed n true e h = refl
day_passed n false e h = absurd (false≢true (sym (rw e at h)))

-- The doy of a station that holds a record is a day of the year, so that 3 at place 1 is not answered
pub day_held : (w : List ℤ) (n : Input) → Held w n → day_within (get_or (station_whole w n) 1 (pos 0)) ≡ true
unfolding judged_of station_whole
day_held w n h =
    let a = no_refusal (found_of (unfit_of n)) NotFinite _ _ h.taken in
    let b = no_refusal (lacks_history_of w n) HistoryLacking 10 _ a.1 in
    let c = no_refusal (found_of (outside_of n)) OutOfRange _ _ b.1 in
    day_passed n (day_within n.doy) refl c.0

-- the same after any calls
pub day_kept : (w : List ℤ) (n : Input) (cs : List Call) → Held w n → day_within (get_or (station_after (station_whole w n) (station_numbers w n) cs).0 1 (pos 0)) ≡ true
day_kept w n cs h =
    let r = kept_station w n cs h in
    rw r.0 (day_held (held_after w n cs).0 (held_after w n cs).1 r.1)

-- Slices of zeros, never prepared: no altitude is accepted
pub unprepared_refused : (z : Float) → altitude_answer 11 (replicate 27 (pos 0)) 259 z ≡ cond (not (finite_of z)) (Refused NotFinite 3) (Refused OutOfRange 1)
unfolding altitude_answer
unprepared_refused z = refl

answer_told : (w : List ℤ) (n : Input) (z : Float) (len : ℕ) → Held w n
    → altitude_answer len (station_whole w n) (length (station_numbers w n)) z ≡ answer_of w (with_alt_of n z) len
unfolding altitude_answer answer_of record_answer
answer_told w n z len h =
    rw (eq-eqb _ _ (whole_long w n h.row), eq-eqb _ _ (numbers_long w n), day_held w n h, judged_at w n z h, fifteen w n, own_altitude n z)
    (ap (cond (not (eqb len 11)) (Refused WrongLength 11)) (sym (ten_behind (not (finite_of z)) (not (within_of 0·0 2500·0 z)) (unmixed_of (is_one (given w 15)) z))))

-- An altitude of a station that holds a record: answer and row are the one-altitude call's with that altitude
pub altitude_told : (w : List ℤ) (n : Input) (z : Float) (row : List Float) → Held w n
    → (altitude_answer (length row) (station_whole w n) (length (station_numbers w n)) z ≡ answer_of w (with_alt_of n z) (length row))
    × (altitude_row (station_whole w n) (station_numbers w n) z row ≡ row_after w (with_alt_of n z) row)
unfolding altitude_row row_after
altitude_told w n z row h =
    let e = answer_told w n z (length row) h in (
      e,
      same_row (accepted_of (altitude_answer (length row) (station_whole w n) (length (station_numbers w n)) z)) _ _ row (λ t. row_told w n z (in_range _ _ _ z t))
          ∙ ap (λ (a : Answer). cond (accepted_of a) (eleven_of w (with_alt_of n z)) row) e,
    )

-- the same after any calls: the record and the row as they then are
pub altitude_kept : (w : List ℤ) (n : Input) (cs : List Call) (z : Float) (row : List Float) → Held w n
    → (altitude_answer (length row) (station_after (station_whole w n) (station_numbers w n) cs).0 (length (station_after (station_whole w n) (station_numbers w n) cs).1) z
    ≡ answer_of (held_after w n cs).0 (with_alt_of (held_after w n cs).1 z) (length row))
    × (altitude_row (station_after (station_whole w n) (station_numbers w n) cs).0 (station_after (station_whole w n) (station_numbers w n) cs).1 z row
    ≡ row_after (held_after w n cs).0 (with_alt_of (held_after w n cs).1 z) row)
altitude_kept w n cs z row h =
    let r = kept_station w n cs h in
    rw r.0 (altitude_told (held_after w n cs).0 (held_after w n cs).1 z row r.1)

-- a change of it is answered as the one-altitude call answers the changed record
pub change_kept : (w : List ℤ) (n : Input) (cs : List Call) (c : Change) → Held w n
    → change_answer c (station_after (station_whole w n) (station_numbers w n) cs).0 (station_after (station_whole w n) (station_numbers w n) cs).1
    ≡ judged_of (held_after w n cs).0 (change_of c (held_after w n cs).1)
change_kept w n cs c h =
    let r = kept_station w n cs h in
    rw r.0 (change_met (held_after w n cs).0 (held_after w n cs).1 c r.1)

-- what preparing accepts is held
pub prepared_held : (w : List ℤ) (n : Input) → length w ≡ 24 → length n.ap_array ≡ 7 → station_answer w n 27 259 ≡ Accepted → Held w (with_alt_of n 0·0)
unfolding station_answer with_alt_of
prepared_held w n e f t = record { row = e; seven = f; zero = refl; taken = t }

-- Demand 3 for stations. For every switch row and any two stations that hold records alike under it, whatever calls led there and whatever the
-- two lent rows held: an altitude that is accepted gives the same eleven numbers, and these are the definition's for the one record and the other.
pub demand_3_station : (w : List ℤ) (a b : Input) (z : Float) (xs ys : List Float)
    → Alike w a b
    → Held w a
    → Held w b
    → altitude_answer (length xs) (station_whole w a) (length (station_numbers w a)) z ≡ Accepted
    → altitude_answer (length ys) (station_whole w b) (length (station_numbers w b)) z ≡ Accepted
    → (altitude_row (station_whole w a) (station_numbers w a) z xs ≡ altitude_row (station_whole w b) (station_numbers w b) z ys)
    × (altitude_row (station_whole w a) (station_numbers w a) z xs ≡ eleven_of w (with_alt_of a z))
    × (altitude_row (station_whole w b) (station_numbers w b) z ys ≡ eleven_of w (with_alt_of b z))
demand_3_station w a b z xs ys like ha hb ea eb =
    let p = altitude_told w a z xs ha in
    let q = altitude_told w b z ys hb in
    let ta = sym p.0 ∙ ea in
    let tb = sym q.0 ∙ eb in
    let ra = p.1 ∙ row_written w (with_alt_of a z) xs ta in
    let rb = q.1 ∙ row_written w (with_alt_of b z) ys tb in
    (ra ∙ eleven≡ w (with_alt_of a z) (with_alt_of b z) (alike_at w a b z like) (known w (with_alt_of a z) (judged_first w (with_alt_of a z) (length xs) ta)) (known w (with_alt_of b z) (judged_first w (with_alt_of b z) (length ys) tb)) ∙ sym rb, ra, rb)
