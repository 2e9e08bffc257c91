-- The checks in order, d[5] written altitude by altitude, and the call's outcomes.
use Rattle.std.specs.Prelude.{Err, Ok}
use mathlib.Core.Path.{◌≡◌, refl, sym, ap, ap₂, ◌∙◌}
use mathlib.Core.Bool.{Bool, true, false, not, false≢true, true≢false}
use mathlib.Core.List.{List, [], ◌∷◌, ◌++◌, map-append}
use Prim.Native.Nat.{ℕ, suc, ◌+◌, ◌*◌, ◌-◌, ◌<◌, ◌≤◌}
use native.Mathlib.Numerals.{add-one}
use native.Mathlib.Omega.{arith}
use borrow.Author.Tests.{lt-ltb, le-ltb}
use lib.IntN.{ℤ}
use lib.ListN.{length, take, drop, get_or, set, replicate, length-map, length-take}
use lib.Seq.{append_snoc, take-suc, take_at, drop-cons, set_at}
use lib.Ieee.{Float, nan}
use Rattle.numbers.specs.Arithmetic.{◌‼◌}
use Rattle.numbers.specs.Literals.{0·0}
use Rattle.refusals.specs.declared.Refusal.{Refusal}
use Rattle.refusals.specs.Refusals.{Accepted, Answer, Refused, accepted_of, refused_or}
use Rattle.refusals.specs.declared.Reason.TheVariants.{AltitudesFall}
use Rattle.setting.specs.declared.Input.{Input}
use Rattle.views.specs.View.{view_of}
use Rattle.acceptance.specs.Acceptance.{with_alt_of}
use Rattle.atmosphere.specs.Atmosphere.{eleven_of}
use Rattle.stored.specs.Stored.{row_stored}
use Rattle.altitudes.specs.Altitudes.{altitudes_from, column_answer}
use Rattle.column.specs.Parts.{stored_for}
use Rattle.altitudes.proofs.Laws.{accepted_altitudes}
use Rattle.column.proofs.Laws.{Each, each_row}
use Rattle.crossings_list.specs.CrossingsList.{crossings_of, list_answer, list_after, altitudes_rise, Listed, Listing}
use Rattle.crossings.specs.Crossings.{total_density, densities_of, list_of, after_column, crossings_checked, crossings_answer, crossings_after}
use Rattle.crossings.specs.Stored.{densities_stored}
use Rattle.crossings.proofs.Theorems.{densities_length, checked_column}

-- ---- the checks

module _ (w : List ℤ) (n : Input) (alts : List Float) where
  pub column_refused : (q : Refusal) → Err q ≡ column_answer w n alts (11 * length alts) → Err q ≡ crossings_checked w n alts
  unfolding crossings_checked after_column
  column_refused q e = rw (sym e) refl

  module _ (u : Unit {0}) (e : Ok u ≡ column_answer w n alts (11 * length alts)) (k : ℕ) (g : k ≡ altitudes_rise alts) where
    pub no_rise : k < length alts → Refused AltitudesFall k ≡ crossings_checked w n alts
    unfolding crossings_checked after_column
    no_rise h = rw (sym e, sym g, lt-ltb _ _ h) refl

    pub rising : length alts ≤ k → Accepted ≡ crossings_checked w n alts
    unfolding crossings_checked after_column
    rising h = rw (sym e, sym g, le-ltb _ _ h) refl

pub checked_altitudes : (w : List ℤ) (n : Input) (alts : List Float) → accepted_of (crossings_checked w n alts) ≡ true → altitudes_from 0 alts ≡ Accepted
checked_altitudes w n alts h = accepted_altitudes w n alts (11 * length alts) (checked_column w n alts h)

-- ---- the densities

module _ (sw0 sw15 : Float) (s : List Float) where
  stored_more : (alts : List Float) (k : ℕ) → k < length alts
      → densities_stored sw0 sw15 s (take (k + 1) alts) ≡ densities_stored sw0 sw15 s (take k alts) ++ (row_stored sw0 sw15 s (get_or alts k nan) ‼ 5) ∷ []
  unfolding densities_stored
  stored_more alts k h = rw (add-one, take-suc alts k nan h, map-append)

  as_many : (alts : List Float) (k : ℕ) → k ≤ length alts → length (densities_stored sw0 sw15 s (take k alts)) ≡ k
  unfolding densities_stored
  as_many alts k h = length-map (take k alts) _ ∙ omega (arith, length-take k alts)

  -- the next density put behind those of the altitudes below k
  pub put : (alts d₀ d row : List Float) (k : ℕ) → k < length alts → length alts ≤ length d₀
      → d ≡ densities_stored sw0 sw15 s (take k alts) ++ drop k d₀
      → row ≡ row_stored sw0 sw15 s (get_or alts k nan)
      → set d k (row ‼ 5) ≡ densities_stored sw0 sw15 s (take (k + 1) alts) ++ drop (k + 1) d₀
  put alts d₀ d row k h g e f =
      rw (
        e,
        f,
        drop-cons d₀ k nan (omega arith),
        set_at (densities_stored sw0 sw15 s (take k alts)) (get_or d₀ k nan) (drop (suc k) d₀) (row_stored sw0 sw15 s (get_or alts k nan) ‼ 5) k (as_many alts k (omega arith)),
        stored_more alts k h,
        append_snoc,
        add-one,
      )

same_densities : (w : List ℤ) (n : Input) (sw0 sw15 : Float) (s alts : List Float) → Each (λ (z : Float). row_stored sw0 sw15 s z ≡ eleven_of w (with_alt_of n z)) alts
    → densities_stored sw0 sw15 s alts ≡ densities_of w n alts
unfolding densities_stored densities_of total_density
same_densities w n sw0 sw15 s [] h = refl
same_densities w n sw0 sw15 s (z ∷ zs) h = ap₂ (λ (x : Float) (l : List Float). x ∷ l) (ap (λ (r : List Float). r ‼ 5) h.0) (same_densities w n sw0 sw15 s zs h.1)

-- the densities out of what is stored are those of the record; xs is what lies behind them
pub densities_are : (w : List ℤ) (n : Input) (alts numbers sw xs : List Float)
    → sw ≡ (view_of w n).sw → numbers ≡ take 14 (replicate 234 0·0) ++ stored_for w n alts → altitudes_from 0 alts ≡ Accepted
    → densities_stored (sw ‼ 0) (sw ‼ 15) numbers alts ++ xs ≡ densities_of w n alts ++ xs
densities_are w n alts numbers sw xs es en e =
    ap (λ (r : List Float). r ++ xs) (same_densities w n (sw ‼ 0) (sw ‼ 15) numbers alts (each_row w n alts numbers sw es en e))

-- ---- the call

pub goes_on : (a : Answer) (x : Listing) → accepted_of a ≡ true → refused_or a x ≡ x
goes_on (Ok v) x h = refl
goes_on (Err r) x h = absurd (false≢true h)

module _ (w : List ℤ) (n : Input) (alts : List Float) (level : Float) (xs : List ℕ) where
  pub refused : (q : Refusal) → Err q ≡ crossings_checked w n alts → (Err q ≡ crossings_answer w n alts level (length xs)) × (xs ≡ crossings_after w n alts level xs)
  unfolding crossings_answer crossings_after
  refused q e = (ap (λ (b : Answer). refused_or b (list_answer (list_of w n alts level) (length xs))) e, rw (sym (ap accepted_of e)) refl)

  pub answered : (r : Listing) (d ds xs' : List Float) (ys : List ℕ) → accepted_of (crossings_checked w n alts) ≡ true → ds ≡ densities_of w n alts ++ xs' → d ≡ take (length alts - 0) ds
      → r ≡ list_answer (crossings_of level d) (length xs) → ys ≡ list_after (crossings_of level d) xs
      → (r ≡ crossings_answer w n alts level (length xs)) × (ys ≡ crossings_after w n alts level xs)
  unfolding crossings_answer crossings_after list_of
  answered r d ds xs' ys t e f g h =
      let whole : length (densities_of w n alts) ≡ length alts - 0 = densities_length w n alts ∙ omega arith in
      let same : d ≡ densities_of w n alts = f ∙ (ap (take (length alts - 0)) e ∙ take_at (densities_of w n alts) xs' (length alts - 0) whole) in
      (g ∙ rw same (sym (goes_on (crossings_checked w n alts) _ t)), h ∙ rw (same, t))
