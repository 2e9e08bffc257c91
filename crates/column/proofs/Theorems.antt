-- The column's part of demand 3, and what each of a column's rows is.
use Rattle.std.specs.Prelude.{◌≡◌, refl, cond, List, [], ◌∷◌, ◌++◌, ℕ, ◌*◌, ltb, ℤ, length, drop, Float}
use Rattle.std.proofs.Common.{sym, ◌∙◌, ap, ap₂}
use Rattle.refusals.specs.declared.Reason.TheVariants.{TooMany, WrongLength}
use Rattle.refusals.specs.Refusals.{Accepted, Answer, accepted_of}
use Rattle.setting.specs.declared.Input.{Input}
use Rattle.acceptance.specs.Acceptance.{judged_of, with_alt_of}
use Rattle.acceptance.specs.Refusals.{no_refusal}
use Rattle.numbers.specs.Literals.{0·0}
use Rattle.atmosphere.specs.Atmosphere.{eleven_of}
use Rattle.shutoff.specs.Shut.{Alike}
use Rattle.shutoff.proofs.Theorems.{first_accepted, Known, known, known_at, alike_at, eleven≡}
use Rattle.altitudes.specs.Altitudes.{judged_all_of, column_answer}
use Rattle.column.specs.Column.{column_rows, column_after}

-- an accepted column's record meets none of 2, 1 and 3 at an altitude of 0
pub record_accepted : (w : List ℤ) (n : Input) (alts : List Float) (len : ℕ) → column_answer w n alts len ≡ Accepted → judged_of w (with_alt_of n 0·0) ≡ Accepted
unfolding column_answer judged_all_of
record_accepted w n alts len e =
    first_accepted (judged_of w (with_alt_of n 0·0)) _
    (no_refusal (ltb len (11 * length alts)) WrongLength (11 * length alts) _ (no_refusal (ltb 512 (length alts)) TooMany 512 _ e).1).1

-- what demand 3 needs of an accepted column's record, at any altitude
pub column_known : (w : List ℤ) (n : Input) (alts : List Float) (len : ℕ) (z : Float) → column_answer w n alts len ≡ Accepted → Known w (with_alt_of n z)
unfolding with_alt_of
column_known w n alts len z e = known_at w (with_alt_of n 0·0) z (known w (with_alt_of n 0·0) (record_accepted w n alts len e))

-- records alike but for their own altitudes are alike with any one altitude in both
pub at_altitude : (w : List ℤ) (a b : Input) (z : Float) → Alike w (with_alt_of a 0·0) (with_alt_of b 0·0) → Alike w (with_alt_of a z) (with_alt_of b z)
unfolding with_alt_of
at_altitude w a b z like = alike_at w (with_alt_of a 0·0) (with_alt_of b 0·0) z like

pub rows≡ : (w : List ℤ) (a b : Input) → ((z : Float) → eleven_of w (with_alt_of a z) ≡ eleven_of w (with_alt_of b z)) → (alts : List Float) → column_rows w a alts ≡ column_rows w b alts
unfolding column_rows
rows≡ w a b h [] = refl
rows≡ w a b h (z ∷ zs) = ap₂ (λ (l r : List Float). l ++ r) (h z) (rows≡ w a b h zs)

pub column_written : (w : List ℤ) (n : Input) (alts xs : List Float) → column_answer w n alts (length xs) ≡ Accepted
    → column_after w n alts xs ≡ column_rows w n alts ++ drop (11 * length alts) xs
unfolding column_after
column_written w n alts xs e = ap (λ (r : Answer). cond (accepted_of r) (column_rows w n alts ++ drop (11 * length alts) xs) xs) e

-- Demand 3 for columns. For every switch row, any altitudes and any two accepted columns on records alike under that row, whatever their own
-- altitudes (one altitude is put in both) and whatever the two lent buffers held: the eleven numbers agree at every altitude, and both
-- buffers begin with the same rows. Records that are alike with their own altitudes are so by `alike_at`.
pub demand_3_column : (w : List ℤ) (a b : Input) (alts xs ys : List Float)
    → Alike w (with_alt_of a 0·0) (with_alt_of b 0·0)
    → column_answer w a alts (length xs) ≡ Accepted
    → column_answer w b alts (length ys) ≡ Accepted
    → ((z : Float) → eleven_of w (with_alt_of a z) ≡ eleven_of w (with_alt_of b z))
    × (column_after w a alts xs ≡ column_rows w a alts ++ drop (11 * length alts) xs)
    × (column_after w b alts ys ≡ column_rows w a alts ++ drop (11 * length alts) ys)
demand_3_column w a b alts xs ys like e f =
    let h : (z : Float) → eleven_of w (with_alt_of a z) ≡ eleven_of w (with_alt_of b z) = λ z.
    eleven≡ w (with_alt_of a z) (with_alt_of b z) (at_altitude w a b z like) (column_known w a alts (length xs) z e) (column_known w b alts (length ys) z f) in
    (h, column_written w a alts xs e, column_written w b alts ys f ∙ ap (λ (l : List Float). l ++ drop (11 * length alts) ys) (sym (rows≡ w a b h alts)))
