-- The altitudes met one by one, and the answer to a column.
use Rattle.std.specs.Prelude.{Err, Ok}
use mathlib.Core.Path.{◌≡◌, refl, sym, ap, subst}
use mathlib.Core.Bool.{Bool, true, false, cond, not, ◌&&◌, false≢true, and_assoc, and-true}
use mathlib.Core.List.{List, ◌∷◌}
use Prim.Native.Nat.{ℕ, suc, ◌+◌, ◌*◌, ◌<◌, ◌≤◌}
use native.Mathlib.Numerals.{add-one}
use borrow.Author.Tests.{lt-ltb, le-ltb}
use lib.Dec.{T, ltb}
use lib.IntN.{ℤ}
use lib.ListN.{length, drop, get_or}
use lib.Seq.{drop-cons, drop-length}
use lib.Ieee.{Float, nan, le}
use Rattle.numbers.specs.Literals.{0·0, 2500·0}
use Rattle.numbers.specs.Tests.{finite_of}
use Rattle.numbers.specs.Booleans.{both}
use Rattle.refusals.specs.Refusals.{Accepted, Answer, Refused, accepted_of}
use Rattle.refusals.specs.declared.Reason.TheVariants.{NotFinite, NotMixed, OutOfRange, TooMany, WrongLength}
use Rattle.refusals.specs.declared.Reason.{Reason}
use Rattle.setting.specs.declared.Input.{Input}
use Rattle.setting.specs.Switches.{given, is_one}
use Rattle.acceptance.specs.Acceptance.{within_of, judged_of, unmixed_of, with_alt_of}
use Rattle.altitudes.specs.Altitudes.{altitudes_from, unmixed_from, judged_all_of, column_answer}
use Rattle.altitudes.specs.Within.{all_within}

-- ---- all in range

module _ (alts : List Float) (k : ℕ) (h : k < length alts) where
  pub within_here : (all b : Bool) → b ≡ within_of 0·0 2500·0 (get_or alts k nan) → ((all && b) && all_within (drop (k + 1) alts)) ≡ (all && all_within (drop k alts))
  unfolding all_within
  within_here all b e = rw (drop-cons alts k nan h, add-one, ← e) (and_assoc all b _)

pub all_within_lem : (alts : List Float) (k : ℕ) (all : Bool) → k ≡ length alts → all ≡ (all && all_within (drop k alts))
unfolding all_within
all_within_lem alts k all e = rw (e, drop-length alts) (sym (and-true all))

-- ---- the altitudes

module _ (alts : List Float) (k : ℕ) (h : k < length alts) where
  here : altitudes_from k (drop k alts) ≡ altitudes_from k (get_or alts k nan ∷ drop (suc k) alts)
  here = ap (altitudes_from k) (drop-cons alts k nan h)

  pub unfit_here : (b : Bool) → b ≡ finite_of (get_or alts k nan) → not b ≡ true → Refused NotFinite (17 + k) ≡ altitudes_from k (drop k alts)
  unfolding altitudes_from
  unfit_here b e t = rw here (simp (← e, t))

  pub outside_here : (b c : Bool) → b ≡ finite_of (get_or alts k nan) → not b ≡ false → c ≡ within_of 0·0 2500·0 (get_or alts k nan) → not c ≡ true
      → Refused OutOfRange (17 + k) ≡ altitudes_from k (drop k alts)
  unfolding altitudes_from
  outside_here b c e t f u = rw here (simp (← e, ← f) (simp (t, u)))

  pub passed_here : (b c : Bool) → b ≡ finite_of (get_or alts k nan) → not b ≡ false → c ≡ within_of 0·0 2500·0 (get_or alts k nan) → not c ≡ false
      → altitudes_from (k + 1) (drop (k + 1) alts) ≡ altitudes_from k (drop k alts)
  unfolding altitudes_from
  passed_here b c e t f u = rw (here, add-one) (simp (← e, ← f) (simp (t, u)))

pub all_passed : (alts : List Float) (k : ℕ) → k ≡ length alts → Accepted ≡ altitudes_from k (drop k alts)
unfolding altitudes_from
all_passed alts k e = rw (e, drop-length alts)

-- ---- once they have passed, N2

module _ (on : Bool) (alts : List Float) (k : ℕ) (h : k < length alts) where
  next : unmixed_from on k (drop k alts) ≡ unmixed_from on k (get_or alts k nan ∷ drop (suc k) alts)
  next = ap (unmixed_from on k) (drop-cons alts k nan h)

  pub unmixed_here : (b : Bool) → b ≡ unmixed_of on (get_or alts k nan) → b ≡ true → Refused NotMixed (17 + k) ≡ unmixed_from on k (drop k alts)
  unfolding unmixed_from
  unmixed_here b e t = rw next (simp (← e, t))

  pub mixed_here : (b : Bool) → b ≡ unmixed_of on (get_or alts k nan) → b ≡ false → unmixed_from on (k + 1) (drop (k + 1) alts) ≡ unmixed_from on k (drop k alts)
  unfolding unmixed_from
  mixed_here b e t = rw (next, add-one) (simp (← e, t))

pub all_mixed : (on : Bool) (alts : List Float) (k : ℕ) → k ≡ length alts → Accepted ≡ unmixed_from on k (drop k alts)
unfolding unmixed_from
all_mixed on alts k e = rw (e, drop-length alts)

-- ---- the answer

module _ (w : List ℤ) (n : Input) (alts : List Float) (len : ℕ) where
  pub too_many : 512 < length alts → Refused TooMany 512 ≡ column_answer w n alts len
  unfolding column_answer
  too_many h = simp (lt-ltb _ _ h)

  pub too_short : length alts ≤ 512 → len < 11 * length alts → Refused WrongLength (11 * length alts) ≡ column_answer w n alts len
  unfolding column_answer
  too_short g h = simp (le-ltb _ _ g, lt-ltb _ _ h)

  pub room_enough : length alts ≤ 512 → 11 * length alts ≤ len → (r : Answer) → r ≡ judged_all_of w n alts → r ≡ column_answer w n alts len
  unfolding column_answer
  room_enough g h r e = simp (le-ltb _ _ g, le-ltb _ _ h, e)

-- ---- what an accepted answer says

-- an accepted altitude is not above 2500 km, and the others are accepted
passed : (b : Bool) (n : Reason) (k : ℕ) (a : Answer) → cond (not b) (Refused n k) a ≡ Accepted → (b ≡ true) × (a ≡ Accepted)
passed true n k a e = (refl, e)
passed false n k a e = absurd (subst (λ (r : Answer). T (not (accepted_of r))) e tt)

pub not_above : (k : ℕ) (z : Float) (zs : List Float) → altitudes_from k (z ∷ zs) ≡ Accepted → (le z 2500·0 ≡ true) × (altitudes_from (k + 1) zs ≡ Accepted)
unfolding altitudes_from within_of
not_above k z zs e =
    let f = passed (finite_of z) NotFinite (17 + k) _ e in
    let g = passed (le 0·0 z && le z 2500·0) OutOfRange (17 + k) _ f.1 in
    ((both (le 0·0 z) (le z 2500·0) g.0).1, g.1)

second_passed : (b : Bool) (c : Bool) (n : ℕ) (a : Answer) → accepted_of (cond b (Refused TooMany 512) (cond c (Refused WrongLength n) a)) ≡ true → c ≡ false
second_passed true c n a h = absurd (false≢true h)
second_passed false true n a h = sym h
second_passed false false n a h = refl

pub accepted_room : (w : List ℤ) (n : Input) (alts : List Float) (len : ℕ) → accepted_of (column_answer w n alts len) ≡ true → ltb len (11 * length alts) ≡ false
unfolding column_answer
accepted_room w n alts len h = second_passed (ltb 512 (length alts)) (ltb len (11 * length alts)) (11 * length alts) _ h

last_passed : (b c : Bool) (n : ℕ) (r : Answer) → accepted_of (cond b (Refused TooMany 512) (cond c (Refused WrongLength n) r)) ≡ true → accepted_of r ≡ true
last_passed true c n r h = absurd (false≢true h)
last_passed false true n r h = absurd (false≢true h)
last_passed false false n r h = h

middle_passed : (a b c : Answer) → accepted_of (cond (not (accepted_of a)) a (cond (not (accepted_of b)) b c)) ≡ true → accepted_of b ≡ true
middle_passed (Ok v) (Ok u) c h = refl
middle_passed (Ok v) (Err r) c h = h
middle_passed (Err r) b c h = absurd (false≢true h)

accepted_is : (a : Answer) → accepted_of a ≡ true → a ≡ Accepted
accepted_is (Ok v) h = refl
accepted_is (Err r) h = absurd (false≢true h)

pub accepted_altitudes : (w : List ℤ) (n : Input) (alts : List Float) (len : ℕ) → accepted_of (column_answer w n alts len) ≡ true → altitudes_from 0 alts ≡ Accepted
unfolding column_answer judged_all_of
accepted_altitudes w n alts len h =
    accepted_is _ (middle_passed (judged_of w (with_alt_of n 0·0)) (altitudes_from 0 alts) _ (last_passed (ltb 512 (length alts)) (ltb len (11 * length alts)) (11 * length alts) _ h))
