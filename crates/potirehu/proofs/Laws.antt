-- The outcomes of the host's calls, by the tests on their slices.
use Rattle.std.specs.Prelude.{Err, Ok}
use Prim.Native.Nat.{ℕ}
use mathlib.Core.Path.{◌≡◌, refl, sym, ◌∙◌, ap}
use mathlib.Core.Bool.{Bool, true, false, cond, true≢false}
use mathlib.Core.List.{List}
use borrow.Author.Tests.{eq-eqb, ne_eqb}
use lib.IntN.{ℤ}
use lib.ListN.{length}
use lib.Ieee.{Float}
use Rattle.crossings_list.specs.CrossingsList.{Listing}
use Rattle.refusals.specs.Refusals.{Accepted, Answer, Refused, accepted_of, refused_or}
use Rattle.refusals.specs.declared.Reason.TheVariants.{WrongLength}
use Rattle.setting.specs.declared.Input.{Input}
use Rattle.atmosphere.specs.Atmosphere.{answer_of}
use Rattle.altitudes.specs.Altitudes.{column_answer}
use Rattle.column.specs.Column.{column_after}
use Rattle.station_answer.specs.Answers.{station_answer, switches_answer}
use Rattle.station.specs.Station.{whole_after, station_numbers_after, switched_whole, switched_numbers}
use Rattle.crossings.specs.Crossings.{crossings_answer, crossings_after}
use Rattle.crossings.proofs.Laws.{goes_on}
use Rattle.potirehu.specs.Crossings.{listing_code, host_crossings, host_list}
use Rattle.host_record.specs.Record.{code_of, record_of, lengths_of}
use Rattle.potirehu.specs.Potirehu.{slices_of, host_answer, host_column, host_rows, host_station, host_whole, host_numbers, host_switches, host_switched_whole, host_switched_numbers}

-- a choice made twice is made once
pub twice : {A : Type 0} (b : Bool) (y x : A) → cond b y x ≡ cond b (cond b y x) x
twice true y x = refl
twice false y x = refl

-- the tests on a lent slice and on the record's
module _ (needed : ℕ) (f l : List Float) (w : List ℤ) (len : ℕ) where
  pub wrong_length : (len ≡ needed → ⊥) → Refused WrongLength needed ≡ slices_of needed f l w len
  unfolding slices_of
  wrong_length h = simp (ne_eqb _ _ h)

  pub right_length : len ≡ needed → (a : Answer) → a ≡ lengths_of f l w Accepted → a ≡ slices_of needed f l w len
  unfolding slices_of
  right_length h a e = e ∙ simp (eq-eqb _ _ h)

-- ---- the calls

module _ (year doy : ℤ) (f l : List Float) (w : List ℤ) where
  abbrev pub rest : List Float → Answer
  rest xs = answer_of w (record_of year doy f l) (length xs)

  module _ (xs : List Float) where
    pub no_row_lem : (length xs ≡ 11 → ⊥) → host_answer year doy f l w (length xs) ≡ Refused WrongLength 11
    unfolding host_answer
    no_row_lem h = simp (ne_eqb _ _ h)

    pub a_row : length xs ≡ 11 → host_answer year doy f l w (length xs) ≡ lengths_of f l w (rest xs)
    unfolding host_answer
    a_row h = simp (eq-eqb _ _ h)

    -- no test of a slice fails: the one-altitude call's answer, and the row that it or gtd7d gives
    pub answered : (row : List ℤ → Input → List Float) (x : ℕ) (r : Answer) (n : Input) (v : List ℤ) (ys : List Float)
        → x ≡ code_of r
        → r ≡ answer_of v n (length xs)
        → ys ≡ cond (accepted_of (answer_of v n (length xs))) (row v n) xs
        → n ≡ record_of year doy f l
        → v ≡ w
        → host_answer year doy f l w (length xs) ≡ rest xs
        → (x ≡ code_of (host_answer year doy f l w (length xs)))
        × (ys ≡ cond (accepted_of (host_answer year doy f l w (length xs))) (cond (accepted_of (rest xs)) (row w (record_of year doy f l)) xs) xs)
    answered row x r n v ys e0 e1 e2 e3 e4 e5 = (simp (e0, e1, e3, e4, e5), simp (e2, e3, e4, e5) (twice (accepted_of (rest xs)) _ xs))

  module _ (alts xs : List Float) where
    pub answered_column : (x : ℕ) (r : Answer) (n : Input) (v : List ℤ) (ys : List Float)
        → x ≡ code_of r
        → r ≡ column_answer v n alts (length xs)
        → ys ≡ column_after v n alts xs
        → n ≡ record_of year doy f l
        → v ≡ w
        → host_column year doy f l w alts (length xs) ≡ column_answer w (record_of year doy f l) alts (length xs)
        → (x ≡ code_of (host_column year doy f l w alts (length xs))) × (ys ≡ host_rows year doy f l w alts xs)
    unfolding host_rows column_after
    answered_column x r n v ys e0 e1 e2 e3 e4 e5 = (
      simp (e0, e1, e3, e4, e5),
      simp (e2, e3, e4, e5) (twice (accepted_of (column_answer w (record_of year doy f l) alts (length xs))) _ xs),
    )

-- ---- the crossings

-- the slices' own answer goes first
stays : (a : Answer) (x : Listing) → accepted_of a ≡ false → code_of a ≡ listing_code (refused_or a x)
unfolding code_of
stays (Ok v) x t = absurd (true≢false t)
stays (Err r) x t = refl

module _ (year doy : ℤ) (f l : List Float) (w : List ℤ) (alts : List Float) (level : Float) (xs : List ℕ) (a : Answer) (e : a ≡ lengths_of f l w Accepted) where
  abbrev Listed : ℕ → List ℕ → Type 0
  Listed x ys = (x ≡ listing_code (host_crossings year doy f l w alts level (length xs))) × (ys ≡ host_list year doy f l w alts level xs)

  pub no_list : (x : ℕ) → accepted_of a ≡ false → x ≡ code_of a → Listed x xs
  unfolding host_crossings host_list
  no_list x t c = (c ∙ rw (← e) (stays a _ t), rw (← e, t))

  pub a_list : (x : ℕ) (r : Listing) (n : Input) (v : List ℤ) (ys : List ℕ)
      → accepted_of a ≡ true
      → x ≡ listing_code r
      → r ≡ crossings_answer v n alts level (length xs)
      → ys ≡ crossings_after v n alts level xs
      → n ≡ record_of year doy f l
      → v ≡ w
      → Listed x ys
  unfolding host_crossings host_list
  a_list x r n v ys t e0 e1 e2 e3 e4 =
      let told : r ≡ refused_or (lengths_of f l w Accepted) (crossings_answer w (record_of year doy f l) alts level (length xs)) =
      e1 ∙ rw (e3, e4, ← e) (sym (goes_on a _ t)) in
      (e0 ∙ ap (λ (q : Listing). listing_code q) told, e2 ∙ rw (e3, e4, ← e, t))

-- ---- a station

module _ (year doy : ℤ) (f l : List Float) (w : List ℤ) (ys : List ℤ) (xs : List Float) where
  abbrev Outcome : ℕ → List ℤ → List Float → Type 0
  Outcome x ys' xs' =
      (x ≡ code_of (host_station year doy f l w (length ys) (length xs)))
      × (ys' ≡ host_whole year doy f l w ys (length xs)) × (xs' ≡ host_numbers year doy f l w (length ys) xs)

  pub station_refused : (d : Answer) (x : ℕ) → host_station year doy f l w (length ys) (length xs) ≡ d → accepted_of d ≡ false → x ≡ code_of d → Outcome x ys xs
  unfolding host_whole host_numbers
  station_refused d x e t c = (c ∙ sym (ap code_of e), rw (e, t), rw (e, t))

  pub no_whole : (length ys ≡ 27 → ⊥) → host_station year doy f l w (length ys) (length xs) ≡ Refused WrongLength 27
  unfolding host_station
  no_whole h = simp (ne_eqb _ _ h)

  pub no_numbers : length ys ≡ 27 → (length xs ≡ 259 → ⊥) → host_station year doy f l w (length ys) (length xs) ≡ Refused WrongLength 259
  unfolding host_station
  no_numbers e h = simp (eq-eqb _ _ e, ne_eqb _ _ h)

  pub a_station : length ys ≡ 27 → length xs ≡ 259 → host_station year doy f l w (length ys) (length xs) ≡ lengths_of f l w (station_answer w (record_of year doy f l) (length ys) (length xs))
  unfolding host_station
  a_station e h = simp (eq-eqb _ _ e, eq-eqb _ _ h)

  pub prepared : (x : ℕ) (r : Answer) (n : Input) (v : List ℤ) (ys' : List ℤ) (xs' : List Float)
      → x ≡ code_of r
      → r ≡ station_answer v n (length ys) (length xs)
      → ys' ≡ whole_after v n ys (length xs)
      → xs' ≡ station_numbers_after v n (length ys) xs
      → n ≡ record_of year doy f l
      → v ≡ w
      → host_station year doy f l w (length ys) (length xs) ≡ station_answer w (record_of year doy f l) (length ys) (length xs)
      → Outcome x ys' xs'
  unfolding host_whole host_numbers whole_after station_numbers_after
  prepared x r n v ys' xs' e0 e1 e2 e3 e4 e5 e6 =
      let b = accepted_of (station_answer w (record_of year doy f l) (length ys) (length xs)) in
      (simp (e0, e1, e4, e5, e6), simp (e2, e4, e5, e6) (twice b _ ys), simp (e3, e4, e5, e6) (twice b _ xs))

-- ---- a new switch row

module _ (w whole : List ℤ) (xs : List Float) where
  abbrev Switched : ℕ → List ℤ → List Float → Type 0
  Switched x ys zs = (x ≡ code_of (host_switches w whole xs)) × (ys ≡ host_switched_whole w whole xs) × (zs ≡ host_switched_numbers w whole xs)

  kept : (d : Answer) (x : ℕ) → host_switches w whole xs ≡ d → accepted_of d ≡ false → x ≡ code_of d → Switched x whole xs
  unfolding host_switched_whole host_switched_numbers
  kept d x e t c = (c ∙ sym (ap code_of e), rw (e, t), rw (e, t))

  pub switches_no_whole : (x : ℕ) → (length whole ≡ 27 → ⊥) → x ≡ code_of (Refused WrongLength 27) → Switched x whole xs
  unfolding host_switches
  switches_no_whole x h c = kept (Refused WrongLength 27) x (simp (ne_eqb _ _ h)) refl c

  pub switches_no_numbers : (x : ℕ) → length whole ≡ 27 → (length xs ≡ 259 → ⊥) → x ≡ code_of (Refused WrongLength 259) → Switched x whole xs
  unfolding host_switches
  switches_no_numbers x e h c = kept (Refused WrongLength 259) x (simp (eq-eqb _ _ e, ne_eqb _ _ h)) refl c

  pub switches_no_row : (x : ℕ) → length whole ≡ 27 → length xs ≡ 259 → (length w ≡ 24 → ⊥) → x ≡ code_of (Refused WrongLength 24) → Switched x whole xs
  unfolding host_switches
  switches_no_row x e f h c = kept (Refused WrongLength 24) x (simp (eq-eqb _ _ e, eq-eqb _ _ f, ne_eqb _ _ h)) refl c

  pub switches_done : length whole ≡ 27 → length xs ≡ 259 → length w ≡ 24 → (x : ℕ) (r : Answer) (v ys : List ℤ) (zs : List Float)
      → x ≡ code_of r
      → r ≡ switches_answer v whole xs
      → ys ≡ switched_whole v whole xs
      → zs ≡ switched_numbers v whole xs
      → v ≡ w
      → Switched x ys zs
  unfolding host_switches host_switched_whole host_switched_numbers switched_whole switched_numbers
  switches_done e f h x r v ys zs e0 e1 e2 e3 e4 =
      let s : host_switches w whole xs ≡ switches_answer w whole xs = simp (eq-eqb _ _ e, eq-eqb _ _ f, eq-eqb _ _ h) in
      let b = accepted_of (switches_answer w whole xs) in
      (rw s (e0 ∙ ap code_of (e1 ∙ ap (λ (u : List ℤ). switches_answer u whole xs) e4)), rw s ((rw e4 at e2) ∙ twice b _ whole), rw s ((rw e4 at e3) ∙ twice b _ xs))
