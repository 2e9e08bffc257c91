-- What a walk stores and the rows that it looks at, altitude by altitude, and the call's outcomes.
use Rattle.std.specs.Prelude.{Err, Ok}
use mathlib.Core.Path.{◌≡◌, refl, sym, ap, ◌∙◌}
use mathlib.Core.Bool.{Bool, true, false, cond, not, false≢true, true≢false}
use mathlib.Core.List.{List, [], ◌∷◌, ◌++◌}
use Prim.Native.Nat.{ℕ, zero, suc, ◌+◌, ◌*◌, ◌-◌, ◌<◌, ◌≤◌}
use native.Mathlib.Omega.{arith}
use borrow.Author.Tests.{eqb-true, eq-eqb, ne_eqb, not-false}
use lib.Dec.{eqb}
use lib.IntN.{ℤ}
use lib.ListN.{length, take}
use lib.Seq.{length-take-le}
use lib.Ieee.{Float, le, binary64, of_int}
use Rattle.numbers.specs.Arithmetic.{◌‼◌}
use Rattle.numbers.specs.Literals.{2500·0}
use Rattle.refusals.specs.declared.Refusal.{Refusal}
use Rattle.refusals.specs.Refusals.{Accepted, Answer, Refused, accepted_of, refused_or}
use Rattle.refusals.specs.declared.Reason.TheVariants.{WrongLength}
use Rattle.setting.specs.declared.Input.{Input}
use Rattle.setting.specs.declared.View.{View}
use Rattle.setting.specs.declared.Flags.{Flags}
use Rattle.setting.specs.Switches.{flags_of}
use Rattle.views.specs.View.{view_of}
use Rattle.acceptance.specs.Acceptance.{with_alt_of}
use Rattle.needed_sets.specs.declared.Need.{Need}
use Rattle.expansion_values.specs.declared.RecordValues.{RecordValues}
use Rattle.expansion_values.specs.ExpansionValues.{expansion_values_of, record_values_of}
use Rattle.gts7_arithmetic.specs.declared.Site.{Site}
use Rattle.gts7_arithmetic.specs.Gts7Arithmetic.{site_of}
use Rattle.atmosphere.specs.Atmosphere.{eleven_of}
use Rattle.stored_parts.specs.declared.Parts.{Parts}
use Rattle.stored_parts.specs.Parts.{parts_at, no_parts, either_parts, serves_of, reached_of}
use Rattle.stored_parts.specs.Reached.{serves_holds, none_serves, reached_serves, tropo_more, tropo_less}
use Rattle.stored.specs.Stored.{need_of, stored_of, stored_in, row_stored}
use Rattle.stored.specs.Eleven.{stored_eleven}
use Rattle.stored.specs.Reached.{Serves, stored_in_length, stored_laid, serves_both}
use Rattle.altitudes.specs.Altitudes.{altitudes_from, column_answer}
use Rattle.altitudes.proofs.Laws.{accepted_altitudes, not_above}
use Rattle.column.specs.Column.{column_rows}
use Rattle.first_below_list.specs.FirstBelowList.{is_below, row_in, first_from, first_below, first_row, At, First, Nowhere}
use Rattle.first_below_list.proofs.Laws.{hit, miss}
use Rattle.first_below.specs.FirstBelow.{first_below_checked, first_of, first_answer, first_after}
use Rattle.first_below.specs.Walk.{parts_grown, numbers_grown}
use Rattle.first_below.specs.Theorems.{its_row, first_checked_column}

-- ---- the checks

module _ (w : List ℤ) (n : Input) (alts : List Float) (len : ℕ) where
  pub no_row_lem : (len ≡ 11 → ⊥) → Refused WrongLength 11 ≡ first_below_checked w n alts len
  unfolding first_below_checked
  no_row_lem h = simp (ne_eqb _ _ h)

  pub a_row : len ≡ 11 → (a : Answer) → a ≡ column_answer w n alts (11 * length alts) → a ≡ first_below_checked w n alts len
  unfolding first_below_checked
  a_row h a e = e ∙ simp (eq-eqb _ _ h)

  eleven_of_lem : (b : Bool) (a : Answer) → accepted_of (cond (not b) (Refused WrongLength 11) a) ≡ true → b ≡ true
  eleven_of_lem true a h = refl
  eleven_of_lem false a h = h

  pub checked_row : accepted_of (first_below_checked w n alts len) ≡ true → (len ≡ 11) × (altitudes_from 0 alts ≡ Accepted)
  unfolding first_below_checked
  checked_row h = (eqb-true len 11 (eleven_of_lem (eqb len 11) _ h), accepted_altitudes w n alts (11 * length alts) (first_checked_column w n alts len h))

-- ---- the walk

-- every altitude that the parts h serve has its row among the numbers xs
abbrev pub Served : List ℤ → Input → Parts → List Float → Type 0
Served w n h xs = Serves ((view_of w n).sw ‼ 0) ((view_of w n).sw ‼ 15) (λ (z : Float). eleven_of w (with_alt_of n z)) h xs

-- at the start nothing is there
pub nothing_served : (w : List ℤ) (n : Input) (h : Parts) (xs : List Float) → h ≡ no_parts → Served w n h xs
nothing_served w n h xs e z fits s = absurd (false≢true (sym (none_serves z) ∙ (ap (λ (k : Parts). serves_of k z) (sym e) ∙ s)))

pub effect_of : (w : List ℤ) (n : Input) (f : Flags) (i : ℕ) → f ≡ flags_of w → f.sw ‼ i ≡ (view_of w n).sw ‼ i
unfolding flags_of view_of
effect_of w n f i e = ap (λ (g : Flags). g.sw ‼ i) e

module _ (w : List ℤ) (n : Input) (h : Parts) (z : Float) (xs : List Float) (len : length xs ≡ 234) where
  abbrev v : View
  v = view_of w n

  abbrev x : Site
  x = site_of v.sw n.g_lat v.doy n.f107a

  abbrev p : Parts
  p = reached_of (parts_at z) h

  -- what a column would have stored of the parts p serves them
  fresh : Served w n p (take 14 xs ++ stored_of p v.sw x (expansion_values_of v (need_of p)))
  fresh y fits s = stored_eleven w n p (take 14 xs) y (length-take-le 14 xs (omega (arith, len))) fits (serves_holds p y s)

  pub grown_served : Served w n h xs → Served w n (parts_grown h z) (numbers_grown w n h z xs)
  unfolding parts_grown numbers_grown
  grown_served s =
      serves_both (v.sw ‼ 0) (v.sw ‼ 15) (λ (y : Float). eleven_of w (with_alt_of n y)) p h _ xs _ fresh s (stored_laid p v.sw x (expansion_values_of v (need_of p)) xs len)
      (tropo_more (parts_at z) h) (tropo_less z h)

  pub grown_serves : serves_of (parts_grown h z) z ≡ true
  unfolding parts_grown
  grown_serves = reached_serves h z

  pub grown_long : length (numbers_grown w n h z xs) ≡ 234
  unfolding numbers_grown
  grown_long = stored_in_length p v.sw x (expansion_values_of v (need_of p)) xs len

  -- what a walk stores at an altitude
  pub grows : (q r k : Parts) (a : Need) (u : RecordValues) (doy : Float) (y : Site) (ys : List Float)
      → q ≡ parts_at z → r ≡ reached_of q h → a ≡ need_of r → u ≡ record_values_of w n a
      → doy ≡ of_int binary64 n.doy → y ≡ site_of u.sw n.g_lat doy n.f107a → ys ≡ stored_in r u.sw y u.values xs → k ≡ either_parts h r
      → (k ≡ parts_grown h z) × (ys ≡ numbers_grown w n h z xs)
  unfolding parts_grown numbers_grown record_values_of view_of
  grows q r k a u doy y ys eq er ea eu ed ey es ek = (rw (ek, er, eq), rw (es, ey, ed, eu, ea, er, eq))

-- the row of an altitude that is served is its own
pub row_is : (w : List ℤ) (n : Input) (h : Parts) (z : Float) (xs one : List Float) (sw0 sw15 : Float)
    → Served w n h xs → le z 2500·0 ≡ true → serves_of h z ≡ true → sw0 ≡ (view_of w n).sw ‼ 0 → sw15 ≡ (view_of w n).sw ‼ 15
    → one ≡ row_stored sw0 sw15 xs z → one ≡ eleven_of w (with_alt_of n z)
row_is w n h z xs one sw0 sw15 s fits t e0 e15 e = e ∙ rw (e0, e15) (s z fits t)

-- the same of what was grown, with what is then there
pub grown_is : (w : List ℤ) (n : Input) (h : Parts) (z : Float) (xs : List Float) → length xs ≡ 234 → Served w n h xs → (k : Parts) (ys : List Float)
    → k ≡ parts_grown h z → ys ≡ numbers_grown w n h z xs → Served w n k ys × (serves_of k z ≡ true) × (length ys ≡ 234)
grown_is w n h z xs len s k ys ek ey =
    (rw (ek, ey) (grown_served w n h z xs len s), rw ek (grown_serves w n h z xs len), rw ey (grown_long w n h z xs len))

-- and of what was there already
pub stayed_is : (w : List ℤ) (n : Input) (h : Parts) (z : Float) (xs : List Float) → length xs ≡ 234 → Served w n h xs → (b : Bool) → b ≡ serves_of h z → not b ≡ false
    → (k : Parts) (ys : List Float) → k ≡ h → ys ≡ xs → Served w n k ys × (serves_of k z ≡ true) × (length ys ≡ 234)
stayed_is w n h z xs len s b e f k ys ek ey = (rw (ek, ey) s, rw ek (sym e ∙ not-false b f), rw ey len)

-- an accepted altitude is at most 2,500 km
pub at_most : (k : ℕ) (alts : List Float) (i : ℕ) → altitudes_from k alts ≡ Accepted → i < length alts → le (alts ‼ i) 2500·0 ≡ true
at_most k [] i e h = absurd (none h)
  where
    none : i < 0 → ⊥
    none g = omega arith
at_most k (z ∷ zs) zero e h = (not_above k z zs e).0
at_most k (z ∷ zs) (suc i) e h = at_most (k + 1) zs i (not_above k z zs e).1 (omega arith)

module _ (w : List ℤ) (n : Input) (alts : List Float) (level : Float) where
  abbrev R : List Float
  R = column_rows w n alts

  -- nothing looked at yet
  pub start : first_from level R (length alts - 0) 0 ≡ first_below level R (length alts)
  start = let e : length alts - 0 ≡ length alts = omega arith in rw e

  -- the row `one` of the altitude with the index k, none of those before it thin enough; the row xs becomes ys: `one` where that is below the level
  module _ (one : List Float) (k : ℕ) (h : k < length alts) (e : one ≡ eleven_of w (with_alt_of n (alts ‼ k)))
      (t : Bool) (f : t ≡ is_below level one) (xs ys : List Float) (d : ys ≡ cond (is_below level one) one xs)
      (whole : first_from level R (length alts - k) k ≡ first_below level R (length alts)) where
    its : row_in R k ≡ one
    its = its_row w n alts k h ∙ sym e

    begun : first_from level R (suc (length alts - (k + 1))) k ≡ first_below level R (length alts)
    begun = let q : suc (length alts - (k + 1)) ≡ length alts - k = omega (arith, h) in rw q whole

    same : (b : Bool) → t ≡ b → is_below level (row_in R k) ≡ b
    same b u = ap (is_below level) its ∙ (sym f ∙ u)

    pub thin : t ≡ true → (At k ≡ first_below level R (length alts)) × (ys ≡ row_in R k)
    thin u = (
      sym (hit level R (length alts - (k + 1)) k (same true u)) ∙ begun,
      d ∙ (ap (λ (b : Bool). cond b one xs) (sym f ∙ u) ∙ sym its),
    )

    pub thick : t ≡ false → (ys ≡ xs) × (first_from level R (length alts - (k + 1)) (k + 1) ≡ first_below level R (length alts))
    thick u = (
      d ∙ ap (λ (b : Bool). cond b one xs) (sym f ∙ u),
      sym (miss level R (length alts - (k + 1)) k (same false u)) ∙ begun,
    )

pub none_left : (level : Float) (rows : List Float) (left k : ℕ) → left ≡ 0 → Nowhere ≡ first_from level rows left k
unfolding first_from
none_left level rows left k e = rw e

-- ---- the call

keeps : (a : Answer) (x : First) (rows xs : List Float) → accepted_of a ≡ false → xs ≡ first_row (refused_or a x) rows xs
keeps (Ok v) x rows xs h = absurd (true≢false h)
keeps (Err r) x rows xs h = refl

pub goes_on : (a : Answer) (x : First) → accepted_of a ≡ true → refused_or a x ≡ x
goes_on (Ok v) x h = refl
goes_on (Err r) x h = absurd (false≢true h)

module _ (w : List ℤ) (n : Input) (alts : List Float) (level : Float) (xs : List Float) where
  pub refused : (q : Refusal) → Err q ≡ first_below_checked w n alts (length xs)
      → (Err q ≡ first_answer w n alts level (length xs)) × (xs ≡ first_after w n alts level xs)
  unfolding first_answer first_after
  refused q e = (
    ap (λ (b : Answer). refused_or b (first_of w n alts level)) e,
    keeps (first_below_checked w n alts (length xs)) (first_of w n alts level) (column_rows w n alts) xs (sym (ap accepted_of e)),
  )

  pub answered : (r : First) (ys : List Float) → accepted_of (first_below_checked w n alts (length xs)) ≡ true → r ≡ first_of w n alts level → ys ≡ first_row r (column_rows w n alts) xs
      → (r ≡ first_answer w n alts level (length xs)) × (ys ≡ first_after w n alts level xs)
  unfolding first_answer first_after
  answered r ys t e f =
      let q : r ≡ refused_or (first_below_checked w n alts (length xs)) (first_of w n alts level) = e ∙ sym (goes_on (first_below_checked w n alts (length xs)) _ t) in
      (q, f ∙ ap (λ (a : First). first_row a (column_rows w n alts) xs) q)
