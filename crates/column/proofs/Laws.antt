-- The rows written one by one, and the column call's outcomes.
use mathlib.Core.Path.{◌≡◌, refl, sym, ap, ap₂, ◌∙◌}
use mathlib.Core.Bool.{true, false}
use mathlib.Core.List.{List, [], ◌∷◌, ◌++◌, append_assoc, append-nil}
use Prim.Native.Nat.{ℕ, ◌+◌, ◌*◌, ◌-◌, ◌<◌}
use native.Mathlib.Numerals.{add-one}
use native.Mathlib.Omega.{arith}
use borrow.Rule.Slice.PartMut.{put_mid}
use lib.IntN.{ℤ}
use lib.ListN.{length, take, drop, get_or, replicate, length-append}
use lib.Seq.{take-suc, take_at, drop_at, drop-drop, length-take-le}
use lib.Ieee.{Float, nan, binary64, of_int}
use Rattle.numbers.specs.Arithmetic.{◌‼◌}
use Rattle.numbers.specs.Literals.{0·0}
use Rattle.refusals.specs.Refusals.{Accepted, accepted_of}
use Rattle.setting.specs.declared.Input.{Input}
use Rattle.views.specs.View.{view_of}
use Rattle.gts7_arithmetic.specs.declared.Site.{Site}
use Rattle.gts7_arithmetic.specs.Gts7Arithmetic.{site_of}
use Rattle.acceptance.specs.Acceptance.{with_alt_of}
use Rattle.needed_sets.specs.declared.Need.{Need}
use Rattle.expansion_values.specs.declared.RecordValues.{RecordValues}
use Rattle.expansion_values.specs.ExpansionValues.{expansion_values_of, record_values_of}
use Rattle.stored_parts.specs.declared.Parts.{Parts}
use Rattle.stored_parts.specs.Parts.{parts_at, no_parts, either_parts, parts_from}
use Rattle.stored_parts.specs.Held.{second_of, before_held}
use Rattle.stored.specs.Stored.{need_of, stored_of, row_stored}
use Rattle.stored.specs.Eleven.{stored_eleven}
use Rattle.atmosphere.specs.Atmosphere.{eleven_of}
use Rattle.altitudes.specs.Altitudes.{altitudes_from, column_answer}
use Rattle.altitudes.proofs.Laws.{not_above}
use Rattle.column.specs.Column.{column_rows, column_after}
use Rattle.column.specs.Parts.{stored_for, rows_stored}

-- ---- the rows

module _ (sw0 sw15 : Float) (s : List Float) where
  rows_append : (xs ys : List Float) → rows_stored sw0 sw15 s (xs ++ ys) ≡ rows_stored sw0 sw15 s xs ++ rows_stored sw0 sw15 s ys
  unfolding rows_stored
  rows_append [] ys = refl
  rows_append (z ∷ zs) ys = ap (λ (r : List Float). row_stored sw0 sw15 s z ++ r) (rows_append zs ys) ∙ sym (append_assoc (row_stored sw0 sw15 s z) (rows_stored sw0 sw15 s zs) (rows_stored sw0 sw15 s ys))

  rows_one : (z : Float) → rows_stored sw0 sw15 s (z ∷ []) ≡ row_stored sw0 sw15 s z
  unfolding rows_stored
  rows_one z = append-nil (row_stored sw0 sw15 s z)

  rows_more : (alts row : List Float) (k : ℕ) → k < length alts → row ≡ row_stored sw0 sw15 s (get_or alts k nan)
      → rows_stored sw0 sw15 s (take (k + 1) alts) ≡ rows_stored sw0 sw15 s (take k alts) ++ row
  rows_more alts row k h f = rw (add-one, take-suc alts k nan h, rows_append, rows_one, f)

  pub more_length : (alts row : List Float) (k : ℕ) → k < length alts → row ≡ row_stored sw0 sw15 s (get_or alts k nan) → length row ≡ 11
      → length (rows_stored sw0 sw15 s (take k alts)) ≡ 11 * k
      → length (rows_stored sw0 sw15 s (take (k + 1) alts)) ≡ 11 * (k + 1)
  more_length alts row k h f e m = ap length (rows_more alts row k h f) ∙ (length-append (rows_stored sw0 sw15 s (take k alts)) row ∙ omega arith)

  -- a row put in the place of the next eleven numbers
  pub turn : (alts out₀ out row : List Float) (k : ℕ) → k < length alts
      → length (rows_stored sw0 sw15 s (take k alts)) ≡ 11 * k
      → out ≡ rows_stored sw0 sw15 s (take k alts) ++ drop (11 * k) out₀
      → row ≡ row_stored sw0 sw15 s (get_or alts k nan)
      → put_mid (11 * k) (11 * k + 11 - 11 * k) out row ≡ rows_stored sw0 sw15 s (take (k + 1) alts) ++ drop (11 * (k + 1)) out₀
  turn alts out₀ out row k h len e f =
      let R = rows_stored sw0 sw15 s (take k alts) in
      let X = drop (11 * k) out₀ in
      let eleven : 11 * k + 11 - 11 * k ≡ 11 = omega arith in
      let more : 11 * k + 11 ≡ 11 * (k + 1) = omega arith in
      rw (e, take_at R X (11 * k) len, drop_at R X (11 * k) len, eleven, drop-drop, more, rows_more alts row k h f, append_assoc)

-- what holds of every altitude
abbrev pub Each : (Float → Type 0) → List Float → Type 0
Each P [] = Unit {0}
Each P (z ∷ zs) = P z × Each P zs

-- the row out of what is stored of the parts p is the one-altitude call's
abbrev Row : List ℤ → Input → List Float → Parts → Float → Type 0
Row w n rec p z =
    row_stored ((view_of w n).sw ‼ 0) ((view_of w n).sw ‼ 15)
    (rec ++ stored_of p (view_of w n).sw (site_of (view_of w n).sw n.g_lat (view_of w n).doy n.f107a) (expansion_values_of (view_of w n) (need_of p))) z
    ≡ eleven_of w (with_alt_of n z)

each_held : (w : List ℤ) (n : Input) (rec : List Float) → length rec ≡ 14 → (m : Parts) (k : ℕ) (alts : List Float) → altitudes_from k alts ≡ Accepted
    → Each (Row w n rec (parts_from m alts)) alts
unfolding parts_from
each_held w n rec len m k [] e = tt
each_held w n rec len m k (z ∷ zs) e =
    let q = either_parts m (parts_at z) in
    let f = not_above k z zs e in
    (stored_eleven w n (parts_from q zs) rec z len f.0 (second_of _ m (parts_at z) (before_held q zs)), each_held w n rec len q (k + 1) zs f.1)

-- at every accepted altitude the row out of what is stored for the altitudes is the one-altitude call's
pub each_row : (w : List ℤ) (n : Input) (alts numbers sw : List Float)
    → sw ≡ (view_of w n).sw → numbers ≡ take 14 (replicate 234 0·0) ++ stored_for w n alts → altitudes_from 0 alts ≡ Accepted
    → Each (λ (z : Float). row_stored (sw ‼ 0) (sw ‼ 15) numbers z ≡ eleven_of w (with_alt_of n z)) alts
unfolding stored_for
each_row w n alts numbers sw es en e = rw (en, es) (each_held w n (take 14 (replicate 234 0·0)) refl no_parts 0 alts e)

rows_of : (w : List ℤ) (n : Input) (sw0 sw15 : Float) (s alts : List Float) → Each (λ (z : Float). row_stored sw0 sw15 s z ≡ eleven_of w (with_alt_of n z)) alts
    → rows_stored sw0 sw15 s alts ≡ column_rows w n alts
unfolding rows_stored column_rows
rows_of w n sw0 sw15 s [] h = refl
rows_of w n sw0 sw15 s (z ∷ zs) h = ap₂ (λ (r t : List Float). r ++ t) h.0 (rows_of w n sw0 sw15 s zs h.1)

-- the rows out of what is stored are those of the record; xs is what lies behind them
pub rows_are : (w : List ℤ) (n : Input) (alts numbers sw xs : List Float)
    → sw ≡ (view_of w n).sw → numbers ≡ take 14 (replicate 234 0·0) ++ stored_for w n alts → altitudes_from 0 alts ≡ Accepted
    → rows_stored (sw ‼ 0) (sw ‼ 15) numbers alts ++ xs ≡ column_rows w n alts ++ xs
rows_are w n alts numbers sw xs es en e = ap (λ (r : List Float). r ++ xs) (rows_of w n (sw ‼ 0) (sw ‼ 15) numbers alts (each_row w n alts numbers sw es en e))

pub stored_are : (w : List ℤ) (n : Input) (alts xs s t numbers : List Float) (v : RecordValues) (x : Site) (doy : Float) (p : Parts) (a : Need)
    → length xs ≡ 234 → v ≡ record_values_of w n a → x ≡ site_of v.sw n.g_lat doy n.f107a → doy ≡ of_int binary64 n.doy
    → p ≡ parts_from no_parts alts → a ≡ need_of p → s ≡ t
    → numbers ≡ take 14 (put_mid 14 156 xs s) ++ stored_of p v.sw x v.values
    → (v.sw ≡ (view_of w n).sw) × (numbers ≡ take 14 xs ++ stored_for w n alts)
unfolding stored_for record_values_of view_of
stored_are w n alts xs s t numbers v x doy p a len ev ex ed ep ea _ en =
    let record_stays : take 14 (put_mid 14 156 xs s) ≡ take 14 xs = take_at (take 14 xs) _ 14 (length-take-le 14 xs (omega (arith, len))) in
    (ap (λ (u : RecordValues). u.sw) ev, rw (en, record_stays, ex, ed, ev, ea, ep))

-- ---- the call

pub kept : (w : List ℤ) (n : Input) (alts xs : List Float) → accepted_of (column_answer w n alts (length xs)) ≡ false → xs ≡ column_after w n alts xs
unfolding column_after
kept w n alts xs h = simp h

pub written : (w : List ℤ) (n : Input) (alts xs : List Float) → accepted_of (column_answer w n alts (length xs)) ≡ true
    → column_rows w n alts ++ drop (11 * length alts) xs ≡ column_after w n alts xs
unfolding column_after
written w n alts xs h = simp h
