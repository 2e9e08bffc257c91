-- The outcomes of a station's calls.
use Prim.Native.Nat.{ℕ, ◌≤◌}
use mathlib.Core.Path.{◌≡◌, refl, sym, ap, ◌∙◌}
use mathlib.Core.Bool.{Bool, true, false, cond}
use mathlib.Core.List.{List, [], ◌++◌, append_assoc, append-nil}
use native.Mathlib.Omega.{arith}
use borrow.Author.Tests.{eq-eqb, ne_eqb}
use borrow.Rule.Slice.PartMut.{put_mid}
use lib.IntN.{ℤ}
use lib.ListN.{length, take, drop, length-drop}
use lib.Dec.{lit≤}
use lib.Seq.{take_at, drop_at, drop-drop, drop-length, take-take, length-take-le}
use lib.Ieee.{Float}
use Rattle.numbers.specs.Literals.{0·0}
use Rattle.refusals.specs.Refusals.{Answer, Refused, accepted_of}
use Rattle.refusals.specs.declared.Reason.TheVariants.{WrongLength}
use Rattle.setting.specs.declared.Input.{Input}
use Rattle.setting.specs.declared.Flags.{Flags}
use Rattle.setting.specs.Switches.{sw_of, flags_of}
use Rattle.switch_rows.specs.Rows.{same_expansions}
use Rattle.views.specs.View.{view_of}
use Rattle.acceptance.specs.Acceptance.{judged_of, with_alt_of}
use Rattle.needed_sets.specs.declared.Need.{Need}
use Rattle.expansion_values.specs.declared.RecordValues.{RecordValues}
use Rattle.expansion_values.specs.ExpansionValues.{expansion_values_of, record_values_of}
use Rattle.plan.specs.declared.ExpansionValues.{ExpansionValues}
use Rattle.gts7_arithmetic.specs.declared.Site.{Site}
use Rattle.station_values.specs.StationValues.{expansion_numbers, expansion_values_in, globe7_sets, site_under}
use Rattle.stored_parts.specs.declared.Parts.{Parts}
use Rattle.stored_parts.specs.Parts.{all_parts}
use Rattle.stored.specs.Stored.{need_of, part, stored_of, row_stored}
use Rattle.stored.specs.Rows.{grown}
use Rattle.drag_sum.specs.DragSum.{dragged_of}
use Rattle.station_record.specs.Record.{station_whole, record_numbers, record_in, units_in, mixing_in}
use Rattle.station_answer.specs.declared.Change.{Change}
use Rattle.station_answer.specs.declared.Change.TheVariants.{Fluxes, GLong, Lst, Move, Sec}
use Rattle.station_answer.specs.Answers.{change_of, station_answer, altitude_answer, change_answer, switches_answer, row_taken}
use Rattle.station.specs.Station.{held_of, refilled_of, station_numbers, filled_of, sets_of, values_put, sec_filled, whole_after, station_numbers_after, altitude_row, altitude_drag, refilled_by, changed_numbers, renewed_of, switched_whole, switched_numbers}
use Rattle.station.proofs.Renewed.{record_fourteen, twenty_five, refilled_from, refilled_is}

-- the first 234 of a list and what is stored in them
pub refill_law : (w : List ℤ) (n : Input) (xs s : List Float) (f : Flags) (x : Site) (l : ExpansionValues) (p : Parts)
    → s ≡ take 14 (take 234 xs) ++ stored_of p f.sw x l
    → l ≡ expansion_values_in (part 234 25 xs)
    → p ≡ all_parts
    → x ≡ site_under f.sw n
    → f ≡ flags_of w
    → put_mid 0 234 xs s ≡ refilled_of w n xs
unfolding refilled_of held_of flags_of
refill_law w n xs s f x l p e0 e1 e2 e3 e4 =
    let made : stored_of p f.sw x l ≡ stored_of all_parts (sw_of w) (site_under (sw_of w) n) (expansion_values_in (part 234 25 xs)) = rw (e1, e2, e3, e4) in
    rw (e0, made, take-take 14 234 xs (lit≤ tt)) (append_assoc (take 14 xs) _ (drop 234 xs))

-- ---- the expansions' values in their places

pub all_put : (w : List ℤ) (n : Input) (a : Need) (xs k t : List Float) (v : RecordValues)
    → length xs ≡ 259 → t ≡ k → k ≡ expansion_numbers v.values → v ≡ record_values_of w n a → a.nodes ≡ true → put_mid 234 25 xs t ≡ values_put w n a xs
unfolding values_put record_values_of
all_put w n a xs k t v len e0 e1 e2 f =
    let K = expansion_numbers (expansion_values_of (view_of w n) a) in
    let nothing : drop 25 (drop 234 xs) ≡ [] = drop-drop 25 234 xs ∙ ap (λ (i : ℕ). drop i xs) (sym len) ∙ drop-length xs in
    let put : put_mid 234 25 xs t ≡ take 234 xs ++ K = rw (e0, e1, e2, nothing) (ap (λ (u : List Float). take 234 xs ++ u) (append-nil K)) in
    put ∙ ap (λ (b : Bool). take 234 xs ++ cond b K (take 11 K ++ drop 245 xs)) (sym f)

pub some_put : (w : List ℤ) (n : Input) (a : Need) (xs k t : List Float) (v : RecordValues)
    → t ≡ take 11 k → k ≡ expansion_numbers v.values → v ≡ record_values_of w n a → a.nodes ≡ false → put_mid 234 11 xs t ≡ values_put w n a xs
unfolding values_put record_values_of
some_put w n a xs k t v e0 e1 e2 f =
    let K = expansion_numbers (expansion_values_of (view_of w n) a) in
    let put : put_mid 234 11 xs t ≡ take 234 xs ++ (take 11 K ++ drop 245 xs) = rw (e0, e1, e2) (ap (λ (u : List Float). take 234 xs ++ (take 11 K ++ u)) (drop-drop 11 234 xs)) in
    put ∙ ap (λ (b : Bool). take 234 xs ++ cond b K (take 11 K ++ drop 245 xs)) (sym f)

-- ---- the record's numbers before them, and between the two what no altitude changes

behind : (n : Input) (vs : List Float) → drop 234 (record_numbers n ++ drop 14 vs) ≡ drop 234 vs
behind n vs =
    sym (drop-drop 220 14 (record_numbers n ++ drop 14 vs)) ∙ ap (drop 220) (drop_at (record_numbers n) (drop 14 vs) 14 (record_fourteen n)) ∙ drop-drop 220 14 vs

values_behind : (xs k : List Float) → length xs ≡ 259 → drop 234 (take 234 xs ++ k) ≡ k
values_behind xs k len = drop_at (take 234 xs) k 234 (length-take-le 234 xs (omega (arith, len)))

-- with every set's values the numbers are those of a station prepared so
pub filled_all : (w : List ℤ) (n : Input) (xs : List Float) → length xs ≡ 259 → filled_of w n (need_of all_parts) xs ≡ station_numbers w n
unfolding filled_of station_numbers values_put need_of all_parts
filled_all w n xs len =
    let l = expansion_values_of (view_of w n) (need_of all_parts) in
    let vs : List Float = take 234 xs ++ expansion_numbers l in
    refilled_is w n _ l (take_at (record_numbers n) (drop 14 vs) 14 (record_fourteen n)) (behind n vs ∙ values_behind xs (expansion_numbers l) len)

eleven_and_fourteen : (l : ExpansionValues) (xs : List Float) → length xs ≡ 259 → length (take 11 (expansion_numbers l) ++ drop 245 xs) ≡ 25
eleven_and_fourteen l xs len =
    let long : 11 ≤ length (expansion_numbers l) = rw (twenty_five l) (lit≤ tt) in
    grown (take 11 (expansion_numbers l)) (drop 245 xs) 11 14 (length-take-le 11 (expansion_numbers l) long) (length-drop 245 xs ∙ omega (arith, len))

filled_sec : (w : List ℤ) (n : Input) (xs : List Float) → length xs ≡ 259 → filled_of w n globe7_sets xs ≡ sec_filled w n xs
unfolding filled_of sec_filled values_put globe7_sets
filled_sec w n xs len =
    let l = expansion_values_of (view_of w n) globe7_sets in
    let k : List Float = take 11 (expansion_numbers l) ++ drop 245 xs in
    let vs : List Float = take 234 xs ++ k in
    refilled_from w n _ k (take_at (record_numbers n) (drop 14 vs) 14 (record_fourteen n)) (behind n vs ∙ values_behind xs k len) (eleven_and_fourteen l xs len)

-- a change that is not of sec asks for every set
pub not_sec : (c : Change) → ((x : Float) → c ≡ Sec x → ⊥) → need_of all_parts ≡ sets_of c
not_sec (Sec s) h = absurd (h s refl)
not_sec (Lst l) h = refl
not_sec (GLong g) h = refl
not_sec (Fluxes a f) h = refl
not_sec (Move s l g) h = refl

-- with the sets that a change asks for they are what the change makes of them
pub filled_by : (c : Change) (w : List ℤ) (n : Input) (xs : List Float) → length xs ≡ 259 → filled_of w n (sets_of c) xs ≡ refilled_by c w n xs
filled_by (Sec s) w n xs len = filled_sec w n xs len
filled_by (Lst l) w n xs len = filled_all w n xs len
filled_by (GLong g) w n xs len = filled_all w n xs len
filled_by (Fluxes a f) w n xs len = filled_all w n xs len
filled_by (Move s l g) w n xs len = filled_all w n xs len

-- ---- preparing

module _ (w : List ℤ) (n : Input) (ys : List ℤ) (xs : List Float) where
  pub refused : accepted_of (station_answer w n (length ys) (length xs)) ≡ false → (ys ≡ whole_after w n ys (length xs)) × (xs ≡ station_numbers_after w n (length ys) xs)
  unfolding whole_after station_numbers_after
  refused f = (simp f, simp f)

  pub taken : (m : Input) (ys' : List ℤ) (xs' : List Float)
      → accepted_of (station_answer w n (length ys) (length xs)) ≡ true → m ≡ with_alt_of n 0·0 → ys' ≡ station_whole w m → xs' ≡ station_numbers w m
      → (ys' ≡ whole_after w n ys (length xs)) × (xs' ≡ station_numbers_after w n (length ys) xs)
  unfolding whole_after station_numbers_after
  taken m ys' xs' o h j k = (rw o (j ∙ ap (station_whole w) h), rw o (k ∙ ap (station_numbers w) h))

-- ---- changes

module _ (c : Change) (whole : List ℤ) (xs : List Float) where
  abbrev Changed : Answer → List Float → Type 0
  Changed a ys = (a ≡ change_answer c whole xs) × (ys ≡ changed_numbers c whole xs)

  kept : (a : Answer) → a ≡ change_answer c whole xs → accepted_of a ≡ false → Changed a xs
  unfolding changed_numbers
  kept a e f = (e, simp (← e) (simp f))

  pub change_no_whole : (length whole ≡ 27 → ⊥) → Changed (Refused WrongLength 27) xs
  unfolding change_answer
  change_no_whole h = kept (Refused WrongLength 27) (simp (ne_eqb _ _ h)) refl

  pub change_no_numbers : length whole ≡ 27 → (length xs ≡ 259 → ⊥) → Changed (Refused WrongLength 259) xs
  unfolding change_answer
  change_no_numbers e h = kept (Refused WrongLength 259) (simp (eq-eqb _ _ e, ne_eqb _ _ h)) refl

  -- w and m are the station's row and its record with the change made
  pub change_met : length whole ≡ 27 → length xs ≡ 259 → (w : List ℤ) (m : Input) (a : Answer) (ys : List Float)
      → w ≡ drop 3 whole → m ≡ change_of c (record_in whole xs) → a ≡ judged_of w m → ys ≡ cond (accepted_of (judged_of w m)) (refilled_by c w m xs) xs → Changed a ys
  unfolding change_answer changed_numbers
  change_met e f w m a ys ew em ea ey =
      let s : change_answer c whole xs ≡ judged_of (drop 3 whole) (change_of c (record_in whole xs)) = simp (eq-eqb _ _ e, eq-eqb _ _ f) in
      let k : a ≡ judged_of (drop 3 whole) (change_of c (record_in whole xs)) = rw (em, ew) at ea in
      (k ∙ sym s, rw s (rw (em, ew) at ey))

-- ---- an altitude

module _ (whole : List ℤ) (xs : List Float) (alt : Float) (row : List Float) where
  pub altitude_refused : accepted_of (altitude_answer (length row) whole (length xs) alt) ≡ false → row ≡ altitude_row whole xs alt row
  unfolding altitude_row
  altitude_refused h = simp h

  pub altitude_given : (r : List Float) (s t : Float) → accepted_of (altitude_answer (length row) whole (length xs) alt) ≡ true
      → r ≡ row_stored s t (take 234 xs) alt → s ≡ units_in whole → t ≡ mixing_in whole → r ≡ altitude_row whole xs alt row
  unfolding altitude_row
  altitude_given r s t h e f g = simp h (rw (f, g) at e)

  -- gtd7d, by gtd7's row
  pub drag_refused : (r : List Float) → accepted_of (altitude_answer (length row) whole (length xs) alt) ≡ false → r ≡ altitude_row whole xs alt row → r ≡ altitude_drag whole xs alt row
  unfolding altitude_row altitude_drag
  drag_refused r h e = simp h (rw h at e)

  pub drag_given : (r d : List Float) (s : Float) → accepted_of (altitude_answer (length row) whole (length xs) alt) ≡ true
      → d ≡ dragged_of s r → s ≡ units_in whole → r ≡ altitude_row whole xs alt row → d ≡ altitude_drag whole xs alt row
  unfolding altitude_row altitude_drag
  drag_given r d s h e f g = simp h (e ∙ rw (f, rw h at g))

-- ---- a new row

pub renewed : (old w : List ℤ) (n : Input) (xs zs : List Float) (b : Bool) → b ≡ same_expansions old w → b ≡ true → zs ≡ refilled_of w n xs → zs ≡ renewed_of old w n xs
unfolding renewed_of
renewed old w n xs zs b e t h = rw (sym e ∙ t) h

pub made_anew : (old w : List ℤ) (n : Input) (xs zs : List Float) (b : Bool) → b ≡ same_expansions old w → b ≡ false → zs ≡ station_numbers w n → zs ≡ renewed_of old w n xs
unfolding renewed_of
made_anew old w n xs zs b e t h = rw (sym e ∙ t) h

module _ (w whole : List ℤ) (xs : List Float) where
  abbrev Switched : Answer → List ℤ → List Float → Type 0
  Switched a ys zs = (a ≡ switches_answer w whole xs) × (ys ≡ switched_whole w whole xs) × (zs ≡ switched_numbers w whole xs)

  stays : (a : Answer) → a ≡ switches_answer w whole xs → accepted_of a ≡ false → Switched a whole xs
  unfolding switched_whole switched_numbers
  stays a e f = (e, simp (← e) (simp f), simp (← e) (simp f))

  pub switches_no_whole : (length whole ≡ 27 → ⊥) → Switched (Refused WrongLength 27) whole xs
  unfolding switches_answer
  switches_no_whole h = stays (Refused WrongLength 27) (simp (ne_eqb _ _ h)) refl

  pub switches_no_numbers : length whole ≡ 27 → (length xs ≡ 259 → ⊥) → Switched (Refused WrongLength 259) whole xs
  unfolding switches_answer
  switches_no_numbers e h = stays (Refused WrongLength 259) (simp (eq-eqb _ _ e, ne_eqb _ _ h)) refl

  module _ (e : length whole ≡ 27) (f : length xs ≡ 259) (n : Input) (ys : List ℤ) (en : n ≡ record_in whole xs) (ey : ys ≡ row_taken w n whole) where
    pub met : switches_answer w whole xs ≡ judged_of w n
    unfolding switches_answer
    met = simp (eq-eqb _ _ e, eq-eqb _ _ f) (ap (judged_of w) (sym en))

    pub switches_refused : accepted_of (judged_of w n) ≡ false → (ys ≡ switched_whole w whole xs) × (xs ≡ switched_numbers w whole xs)
    unfolding row_taken
    switches_refused o =
        let k : ys ≡ whole = rw o at ey in
        let s = stays (switches_answer w whole xs) refl (ap accepted_of met ∙ o) in
        (k ∙ s.1, s.2)

    pub switches_taken : (old : List ℤ) (zs : List Float) → accepted_of (judged_of w n) ≡ true → old ≡ drop 3 whole → zs ≡ renewed_of old w n xs
        → (ys ≡ switched_whole w whole xs) × (zs ≡ switched_numbers w whole xs)
    unfolding row_taken switched_whole switched_numbers
    switches_taken old zs o eo ez =
        let k : ys ≡ station_whole w n = rw o at ey in
        (rw (met, o) (k ∙ ap (station_whole w) en), rw (met, o) (rw (eo, en) at ez))
