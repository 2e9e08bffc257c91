-- The fields of a record known in part, by their numbers.
use Rattle.std.specs.Prelude.{◌≡◌, refl, List, [], ◌∷◌, Bool, true, false, cond, ℕ, zero, suc, ◌+◌, ◌<◌, ◌≤◌, T, ltb, ℤ, pos, length, get_or, Float}
use Rattle.std.proofs.Common.{sym, ◌∙◌, ap, arith, ltb-true, ltb-false, lit≤, ext_get_or}
use Rattle.numbers.specs.Literals.{0·0}
use Rattle.setting.specs.declared.Input.{Input}
use Rattle.shutoff.specs.Fields.{Value, whole, float, missing, fields, field}
use Rattle.known_record.specs.KnownRecord.{known_at, only_known}

-- field k is known: from 0 to 9 by its bit, from 10 to 16, the history's, where history says so
abbrev pub known_of : ℕ → Bool → ℕ → Bool
known_of known history k = cond (ltb k 10) (known_at known k) history

-- two records agree, to the bit, in the fields that are known
abbrev pub AgreeIn : ℕ → Bool → Input → Input → Type 0
AgreeIn known history a b = (k : ℕ) → k < 17 → T (known_of known history k) → field a k ≡ field b k

-- ---- the record with 0 in the fields that are not known

-- 0 in the fields 0 to 9
abbrev zeros : List Value
zeros =
    whole (pos 0) ∷ whole (pos 0) ∷ float 0·0 ∷ float 0·0 ∷ float 0·0 ∷ float 0·0 ∷ float 0·0 ∷ float 0·0 ∷ float 0·0 ∷ float 0·0 ∷ []

-- from field k on, the first list's value where its field is not known; past that list as it is
abbrev chosen : ℕ → ℕ → List Value → List Value → List Value
chosen known k [] vs = vs
chosen known k (z ∷ zs) [] = []
chosen known k (z ∷ zs) (v ∷ vs) = cond (known_at known k) v z ∷ chosen known (suc k) zs vs

whole_chosen : (t : Bool) (x y : ℤ) → whole (cond t x y) ≡ cond t (whole x) (whole y)
whole_chosen true x y = refl
whole_chosen false x y = refl

float_chosen : (t : Bool) (x y : Float) → float (cond t x y) ≡ cond t (float x) (float y)
float_chosen true x y = refl
float_chosen false x y = refl

fields_chosen : (known : ℕ) (n : Input) → fields (only_known known n) ≡ chosen known 0 zeros (fields n)
unfolding only_known
fields_chosen known n =
    let wholes : (k : ℕ) (x : ℤ) → whole (cond (known_at known k) x (pos 0)) ≡ cond (known_at known k) (whole x) (whole (pos 0)) = λ k x. whole_chosen (known_at known k) x (pos 0) in
    let floats : (k : ℕ) (x : Float) → float (cond (known_at known k) x 0·0) ≡ cond (known_at known k) (float x) (float 0·0) = λ k x. float_chosen (known_at known k) x 0·0 in
    rw (
      wholes 0 n.year,
      wholes 1 n.doy,
      floats 2 n.sec,
      floats 3 n.alt,
      floats 4 n.g_lat,
      floats 5 n.g_long,
      floats 6 n.lst,
      floats 7 n.f107a,
      floats 8 n.f107,
      floats 9 n.ap,
    )

chosen_at : (known k : ℕ) (zs vs : List Value) (i : ℕ) → i < length zs → length zs ≤ length vs
    → get_or (chosen known k zs vs) i missing ≡ cond (known_at known (k + i)) (get_or vs i missing) (get_or zs i missing)
chosen_at known k [] vs i h l = absurd (omega (arith, h))
chosen_at known k (z ∷ zs) [] i h l = absurd (omega (arith, l))
chosen_at known k (z ∷ zs) (v ∷ vs) zero h l = let e : k + 0 ≡ k = omega arith in rw e
chosen_at known k (z ∷ zs) (v ∷ vs) (suc i) h l = let e : k + suc i ≡ suc k + i = omega arith in rw e (chosen_at known (suc k) zs vs i (omega (arith, h)) (omega (arith, l)))

chosen_past : (known k : ℕ) (zs vs : List Value) (i : ℕ) → length zs ≤ i → length zs ≤ length vs → get_or (chosen known k zs vs) i missing ≡ get_or vs i missing
chosen_past known k [] vs i h l = refl
chosen_past known k (z ∷ zs) [] i h l = refl
chosen_past known k (z ∷ zs) (v ∷ vs) zero h l = absurd (omega (arith, h))
chosen_past known k (z ∷ zs) (v ∷ vs) (suc i) h l = chosen_past known (suc k) zs vs i (omega (arith, h)) (omega (arith, l))

-- a field of it: as it was where it is known, else 0
field_chosen : (known : ℕ) (n : Input) (k : ℕ) → k < 10 → field (only_known known n) k ≡ cond (known_at known k) (field n k) (get_or zeros k missing)
field_chosen known n k h =
    let e : 0 + k ≡ k = omega arith in
    ap (λ (vs : List Value). get_or vs k missing) (fields_chosen known n) ∙ chosen_at known 0 zeros (fields n) k h (lit≤ tt) ∙ rw e

pub field_kept : (known : ℕ) (n : Input) (k : ℕ) → k < 10 → known_at known k ≡ true → field (only_known known n) k ≡ field n k
field_kept known n k h e = field_chosen known n k h ∙ rw e

pub history_kept : (known : ℕ) (n : Input) (k : ℕ) → 10 ≤ k → field (only_known known n) k ≡ field n k
history_kept known n k h = ap (λ (vs : List Value). get_or vs k missing) (fields_chosen known n) ∙ chosen_past known 0 zeros (fields n) k h (lit≤ tt)

-- ---- two records that agree in the known fields, the history in both or in neither

where_known : (t : Bool) (x y z : Value) → (T t → x ≡ y) → cond t x z ≡ cond t y z
where_known true x y z same = same tt
where_known false x y z same = refl

pub same_fields : (known : ℕ) (a b : Input) → AgreeIn known true a b → fields (only_known known a) ≡ fields (only_known known b)
same_fields known a b agree = ext_get_or missing (fields (only_known known a)) (fields (only_known known b)) refl (λ k h. at k h (ltb k 10) refl)
  where
    at : (k : ℕ) → k < 17 → (t : Bool) → ltb k 10 ≡ t → field (only_known known a) k ≡ field (only_known known b) k
    at k h true e =
        let below = ltb-true k 10 e in
        field_chosen known a k below ∙ where_known (known_at known k) (field a k) (field b k) (get_or zeros k missing) (λ t. agree k h (simp e t)) ∙ sym (field_chosen known b k below)
    at k h false e =
        let above = ltb-false k 10 e in
        history_kept known a k above ∙ agree k h (simp e tt) ∙ sym (history_kept known b k above)
