-- The call for a record known in part: what its answer and its row depend on, with demand 3 behind them, and where it refuses with 1.
use Rattle.std.specs.Prelude.{◌≡◌, List, [], ◌∷◌, Bool, true, false, not, ◌&&◌, cond, ℕ, zero, suc, ◌+◌, ◌-◌, ◌<◌, ◌≤◌, T, eqb, ltb, ℤ, pos, length, get_or, replicate, Float, Err, Ok}
use Rattle.std.proofs.Math.Path.{refl, sym}
use Rattle.std.proofs.Common.{◌∙◌, ap, ap₂, true≢false, arith, ltb-true, ltb-false, get_or-drop}
use Rattle.numbers.specs.Literals.{0·0}
use Rattle.refusals.specs.Refusals.{Accepted, Answer, Refused, accepted_of, refusal_number}
use Rattle.refusals.specs.declared.Reason.TheVariants.{HistoryLacking, NotFinite, WrongLength}
use Rattle.setting.specs.declared.Input.{Input}
use Rattle.setting.specs.declared.History.{History}
use Rattle.setting.specs.declared.History.TheVariants.{Absent, Present}
use Rattle.setting.specs.ApHistory.{is_minus_one, asks_history_of, absent_of, lacks_history_of}
use Rattle.setting.specs.Switches.{given}
use Rattle.acceptance.specs.Acceptance.{array_unfit_of, unfit_of, array_outside_of, outside_of, found_of, judged_of, record_answer}
use Rattle.acceptance.specs.Refusals.{no_refusal}
use Rattle.atmosphere.specs.Atmosphere.{eleven_of, answer_of, row_after}
use Rattle.shutoff.specs.Fields.{Value, whole, float, missing, fields, field}
use Rattle.shutoff.specs.Shut.{nine_is_minus_one, shut, Alike}
use Rattle.shutoff.proofs.Theorems.{demand_3}
use Rattle.counts.specs.Counts.{counts_of, counts_at}
use Rattle.known_record.specs.KnownRecord.{AllKnown, only_known, lacking, lacking_field, unfit_known, filled_answer}
use Rattle.known_record.specs.Lowest.{Lowest}
use Rattle.known_record.proofs.Refusals.{counts_known, history_there, one_place, one_where, filled_all, all_kept_lem}
use Rattle.known.specs.Known.{known_answer, known_row, filled_answer_at, filled_is}
use Rattle.known.specs.Fields.{AgreeIn, field_kept, history_kept, same_fields}

-- ---- all fields known

-- With all fields known it is the one-altitude call, on every record: the answer, and the row.
pub all_answer : (known : ℕ) (w : List ℤ) (n : Input) (len : ℕ) → AllKnown known → known_answer known w n len ≡ answer_of w n len
unfolding filled_answer_at answer_of
all_answer known w n len all =
    sym (filled_is known w n len)
    ∙ ap (λ (z : Input). filled_answer_at known w z len) (all_kept_lem known n all)
    ∙ ap (cond (not (eqb len 11)) (Refused WrongLength 11)) (filled_all (counts_of w) known w n all)

pub all_row : (known : ℕ) (w : List ℤ) (n : Input) (xs : List Float) → AllKnown known → known_row known w n xs ≡ row_after w n xs
unfolding known_row row_after
all_row known w n xs all =
    ap₂ (λ (a : Answer) (row : List Float). cond (accepted_of a) row xs) (all_answer known w n (length xs) all) (ap (eleven_of w) (all_kept_lem known n all))

-- ---- accepted

-- no field is lacking, and the one-altitude call accepts the record with 0 in the fields that are not known
pub record Taken (known : ℕ) (w : List ℤ) (n : Input) (len : ℕ) : Type 0 where
  pub there : found_of (lacking_field (counts_of w) known (lacks_history_of w n)) ≡ false
  pub accepted : answer_of w (only_known known n) len ≡ Accepted

taken : (known : ℕ) (w : List ℤ) (n : Input) (len : ℕ) → known_answer known w n len ≡ Accepted → Taken known w n len
unfolding filled_answer_at filled_answer answer_of lacks_history_of only_known
taken known w n len e =
    let filled = only_known known n in
    let long = no_refusal (not (eqb len 11)) WrongLength 11 _ (filled_is known w n len ∙ e) in
    let fit = no_refusal (found_of (unfit_of filled)) NotFinite (unfit_of filled) _ long.1 in
    let whole = no_refusal (found_of (lacking_field (counts_of w) known (lacks_history_of w n))) HistoryLacking _ _ fit.1 in
    record { there = whole.0; accepted = rw long.0 whole.1 }

row_written : (known : ℕ) (w : List ℤ) (n : Input) (xs : List Float) → known_answer known w n (length xs) ≡ Accepted → known_row known w n xs ≡ eleven_of w (only_known known n)
unfolding known_row
row_written known w n xs e = ap (λ (a : Answer). cond (accepted_of a) (eleven_of w (only_known known n)) xs) e

-- ---- the row is that of every accepted record that agrees in the known fields

not_twice : (b : Bool) → T (not (not b)) → b ≡ true
not_twice true t = refl
not_twice false t = absurd t

all_alike : (many k : ℕ) (b : Bool) → T (not (get_or (replicate many b) k true)) → T (not b)
all_alike zero k b t = absurd t
all_alike (suc many) zero b t = t
all_alike (suc many) (suc k) b t = all_alike many k b t

-- of the fields from 10 on none counts but the history's, where switch 9 is -1
behind_ten : (w : List ℤ) (k : ℕ) → T (not (get_or (true ∷ replicate 6 (not (nine_is_minus_one w))) k true)) → nine_is_minus_one w ≡ true
behind_ten w zero t = absurd t
behind_ten w (suc k) t = not_twice (nine_is_minus_one w) (all_alike 6 k (not (nine_is_minus_one w)) t)

history_counts : (w : List ℤ) (k : ℕ) → 10 ≤ k → T (not (get_or (shut w) k true)) → nine_is_minus_one w ≡ true
history_counts w k h t =
    let e : 10 + (k - 10) ≡ k = omega arith in
    behind_ten w (k - 10) (rw (get_or-drop 10 (shut w) (k - 10) true, e) t)

present : (asks : Bool) (history : History) → (asks && absent_of history) ≡ false → asks ≡ true → T (not (absent_of history))
present true Absent e f = absurd (true≢false e)
present true Present e f = tt
present false history e f = absurd (true≢false (sym f))

-- where no field is lacking, the record with 0 in the fields that are not known is alike to every record that agrees in the known ones
alike_known : (known : ℕ) (w : List ℤ) (n b : Input) (len : ℕ) → Taken known w n len → AgreeIn known (not (absent_of n.history)) n b → Alike w (only_known known n) b
unfolding lacks_history_of asks_history_of
alike_known known w n b len taken agree k h t = at (ltb k 10) refl
  where
    at : (below : Bool) → ltb k 10 ≡ below → field (only_known known n) k ≡ field b k
    at true e =
        let is = counts_known (counts_of w) known (lacks_history_of w n) taken.there k (ltb-true k 10 e) (rw (counts_at w k) t) in
        field_kept known n k (ltb-true k 10 e) is ∙ agree k h (simp (e, is) tt)
    at false e =
        let asks = history_counts w k (ltb-false k 10 e) t in
        let is = present (is_minus_one (given w 9)) n.history (history_there (counts_of w) known (lacks_history_of w n) taken.there) asks in
        history_kept known n k (ltb-false k 10 e) ∙ agree k h (simp e is)

-- Accepted, the row is the one-altitude call's on every accepted record that agrees in the known fields, whatever stands in its others, its history
-- among them where this one's is absent, and whatever the two lent rows held.
pub known_row_lem : (known : ℕ) (w : List ℤ) (n b : Input) (xs ys : List Float)
    → known_answer known w n (length xs) ≡ Accepted
    → AgreeIn known (not (absent_of n.history)) n b
    → answer_of w b (length ys) ≡ Accepted
    → known_row known w n xs ≡ row_after w b ys
known_row_lem known w n b xs ys e agree f =
    let t = taken known w n (length xs) e in
    let d = demand_3 w (only_known known n) b xs ys (alike_known known w n b (length xs) t agree) t.accepted f in
    row_written known w n xs e ∙ sym d.1 ∙ d.0

-- ---- two records that agree in the known fields

-- a record made of the values of its fields: all that its answer looks at
abbrev whole_of : Value → ℤ
whole_of (whole z) = z
whole_of (float x) = pos 0
whole_of missing = pos 0

abbrev float_of : Value → Float
float_of (whole z) = 0·0
float_of (float x) = x
float_of missing = 0·0

abbrev history_of : Value → History
history_of (whole z) = Present
history_of (float x) = Present
history_of missing = Absent

abbrev made : List Value → Input
made vs =
    let at : ℕ → Value = λ k. get_or vs k missing in
    record {
      year = whole_of (at 0);
      doy = whole_of (at 1);
      sec = float_of (at 2);
      alt = float_of (at 3);
      g_lat = float_of (at 4);
      g_long = float_of (at 5);
      lst = float_of (at 6);
      f107a = float_of (at 7);
      f107 = float_of (at 8);
      ap = float_of (at 9);
      history = history_of (at 10);
      ap_array = float_of (at 10) ∷ float_of (at 11) ∷ float_of (at 12) ∷ float_of (at 13) ∷ float_of (at 14) ∷ float_of (at 15) ∷ float_of (at 16) ∷ [];
    }

answer_made : (known : ℕ) (w : List ℤ) (n : Input) (len : ℕ) (history : History) → n.history ≡ history → filled_answer_at known w n len ≡ filled_answer_at known w (made (fields n)) len
unfolding filled_answer_at filled_answer record_answer judged_of unfit_of outside_of array_unfit_of array_outside_of lacks_history_of
answer_made known w n len Absent e = rw e refl
answer_made known w n len Present e = rw e refl

module _ (known : ℕ) (a b : Input) (agree : AgreeIn known true a b) where
  alone_answer : (w : List ℤ) (len : ℕ) → known_answer known w a len ≡ known_answer known w b len
  alone_answer w len =
      let a_made = answer_made known w (only_known known a) len (only_known known a).history refl in
      let b_made = answer_made known w (only_known known b) len (only_known known b).history refl in
      sym (filled_is known w a len)
      ∙ a_made
      ∙ ap (λ (vs : List Value). filled_answer_at known w (made vs) len) (same_fields known a b agree)
      ∙ sym b_made
      ∙ filled_is known w b len

  -- Accepted, both leave the same row, whatever the two lent rows held.
  pub alone_rows : (w : List ℤ) (xs ys : List Float) → known_answer known w a (length xs) ≡ Accepted → known_answer known w b (length ys) ≡ Accepted → known_row known w a xs ≡ known_row known w b ys
  alone_rows w xs ys e f =
      let alike : Alike w (only_known known a) (only_known known b) = λ k h t. ap (λ (vs : List Value). get_or vs k missing) (same_fields known a b agree) in
      let d = demand_3 w (only_known known a) (only_known known b) xs ys alike (taken known w a (length xs) e).accepted (taken known w b (length ys) f).accepted in
      row_written known w a xs e ∙ sym d.1 ∙ d.0 ∙ d.2 ∙ sym (row_written known w b ys f)

  alone_row : (w : List ℤ) (xs : List Float) (answer : Answer) → known_answer known w a (length xs) ≡ answer → known_row known w a xs ≡ known_row known w b xs
  unfolding known_row
  alone_row w xs (Ok v) e = alone_rows w xs xs e (sym (alone_answer w (length xs)) ∙ e)
  alone_row w xs (Err r) e = rw (e, sym (alone_answer w (length xs)) ∙ e) refl

  -- Two records that agree, to the bit, in the known fields, the history in both or in neither, get the same answer and leave the same row,
  -- whatever stands in the others; nothing is asked of acceptance.
  pub known_alone : (w : List ℤ) (xs : List Float) → (known_answer known w a (length xs) ≡ known_answer known w b (length xs)) × (known_row known w a xs ≡ known_row known w b xs)
  known_alone w xs = (alone_answer w (length xs), alone_row w xs (known_answer known w a (length xs)) refl)

-- ---- 1 and its place

-- behind a refusal of another number
behind_length : (short : Bool) (i : ℕ) (a : Answer) → cond short (Refused WrongLength 11) a ≡ Refused HistoryLacking i → a ≡ Refused HistoryLacking i
behind_length true i a e = let h : ◌≡◌ {A = ℕ} 4 1 = ap refusal_number e in absurd (omega (arith, h))
behind_length false i a e = e

-- 1's place is the lowest field that counts and is not known (10: a history that the row asks for and that is absent), and no known field is NaN or infinite.
pub refused_1 : (known : ℕ) (w : List ℤ) (n : Input) (len i : ℕ) → known_answer known w n len ≡ Refused HistoryLacking i
    → (found_of (unfit_known known n) ≡ false) × Lowest (lacking (counts_of w) known (lacks_history_of w n)) 0 i
unfolding known_answer
refused_1 known w n len i e = one_place (counts_of w) known w n i (behind_length (not (eqb len 11)) i _ e)

-- It refuses with 1 wherever some field counts and is not known, no known field is NaN or infinite, and the row is of length 11.
pub refuses_1 : (known : ℕ) (w : List ℤ) (n : Input) (i : ℕ) → found_of (unfit_known known n) ≡ false → i < 11
    → T (lacking (counts_of w) known (lacks_history_of w n) i)
    → known_answer known w n 11 ≡ Refused HistoryLacking (lacking_field (counts_of w) known (lacks_history_of w n))
unfolding known_answer
refuses_1 known w n i fit h t = one_where (counts_of w) known w n i fit h t
