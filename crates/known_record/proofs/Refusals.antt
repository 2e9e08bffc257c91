-- The answer by way of the record with 0 in the fields that are not known is the one over the known fields alone; and where it is 1.
use Rattle.std.specs.Prelude.{◌≡◌, refl, List, Bool, true, false, not, ◌&&◌, cond, ℕ, ◌<◌, ◌≤◌, T, eqb, ltb, ℤ, get_or, Float}
use Rattle.std.proofs.Common.{sym, ◌∙◌, ap, subst, arith, ltb-false, lt-ltb, ne_eqb, ltb→lt, lit<}
use Rattle.std.specs.Float.Ieee.{neg, lt, le, eq, of_bits}
use Rattle.numbers.specs.Literals.{0·0, 24·0, 48·0, 90·0, 400·0, 1000·0, 2500·0, 86400·0}
use Rattle.numbers.specs.Tests.{finite_of}
use Rattle.refusals.specs.Refusals.{Accepted, Answer, Refused, accepted_of, refusal_number, refusal_place}
use Rattle.refusals.specs.declared.Reason.TheVariants.{HistoryLacking, NotFinite, NotMixed, OutOfRange}
use Rattle.setting.specs.declared.Input.{Input}
use Rattle.setting.specs.ApHistory.{lacks_history_of}
use Rattle.setting.specs.Switches.{given, is_one}
use Rattle.acceptance.specs.Acceptance.{within_of, unfit_of, outside_of, found_of, judged_of, unmixed_of, record_answer}
use Rattle.acceptance.specs.Refusals.{Never, accepted_never, then_never}
use Rattle.known_record.specs.KnownRecord.{known_at, AllKnown, only_known, lacking, lacking_field, unfit_known, outside_known, known_refusal, filled_answer}
use Rattle.known_record.specs.Lowest.{Lowest, found_lowest, at_most, passed_over}

-- ---- 2 and 3 look at known fields alone: 0 is finite, and in every range but the day's

finite_known : (t : Bool) (x : Float) → not (finite_of (cond t x 0·0)) ≡ (t && not (finite_of x))
unfolding finite_of of_bits
finite_known true x = refl
finite_known false x = refl

within_known : (lo hi : Float) (t : Bool) (x : Float) → within_of lo hi 0·0 ≡ true → not (within_of lo hi (cond t x 0·0)) ≡ (t && not (within_of lo hi x))
within_known lo hi true x e = refl
within_known lo hi false x e = ap not e

unfit_known_lem : (known : ℕ) (n : Input) → unfit_of (only_known known n) ≡ unfit_known known n
unfolding unfit_of only_known unfit_known
unfit_known_lem known n =
    let finite : (k : ℕ) (x : Float) → not (finite_of (cond (known_at known k) x 0·0)) ≡ (known_at known k && not (finite_of x)) = λ k x. finite_known (known_at known k) x in
    rw (finite 2 n.sec, finite 3 n.alt, finite 4 n.g_lat, finite 5 n.g_long, finite 6 n.lst, finite 7 n.f107a, finite 8 n.f107, finite 9 n.ap)

outside_known_lem : (known : ℕ) (n : Input) → known_at known 1 ≡ true → outside_of (only_known known n) ≡ outside_known known n
unfolding outside_of only_known outside_known within_of le lt eq neg of_bits
outside_known_lem known n day =
    let within : (lo hi : Float) (k : ℕ) (x : Float) → within_of lo hi 0·0 ≡ true → not (within_of lo hi (cond (known_at known k) x 0·0)) ≡ (known_at known k && not (within_of lo hi x))
    = λ lo hi k x zero. within_known lo hi (known_at known k) x zero in
    rw (
      day,
      within 0·0 86400·0 2 n.sec refl,
      within 0·0 2500·0 3 n.alt refl,
      within (neg 90·0) 90·0 4 n.g_lat refl,
      within (neg 1000·0) 1000·0 5 n.g_long refl,
      within (neg 24·0) 48·0 6 n.lst refl,
      within 0·0 1000·0 7 n.f107a refl,
      within 0·0 1000·0 8 n.f107 refl,
      within 0·0 400·0 9 n.ap refl,
    )

-- ---- where no field is lacking

not_lacking : (counts : List Bool) (known : ℕ) (no_history : Bool) → found_of (lacking_field counts known no_history) ≡ false
    → (k : ℕ) → k < 11 → T (lacking counts known no_history k) → ⊥
unfolding found_of lacking_field
not_lacking counts known no_history e k h t =
    let low = at_most (lacking counts known no_history) 0 11 17 k (omega arith) h t in
    let none = ltb-false (lacking_field counts known no_history) 17 e in
    omega (arith, low, none)

-- a field that counts and is not known is lacking
and-true : (c : Bool) → T c → T (c && true)
and-true true t = tt
and-true false t = absurd t

-- a field that counts is known
pub counts_known : (counts : List Bool) (known : ℕ) (no_history : Bool) → found_of (lacking_field counts known no_history) ≡ false
    → (k : ℕ) → k < 10 → T (get_or counts k false) → known_at known k ≡ true
counts_known counts known no_history e k h t = go (known_at known k) refl
  where
    go : (b : Bool) → known_at known k ≡ b → b ≡ true
    go true f = refl
    go false f = absurd (not_lacking counts known no_history e k (omega arith) (simp (ne_eqb k 10 (λ q. omega (arith, h)), f) (and-true (get_or counts k false) t)))

-- the history is there where the row asks for it
pub history_there : (counts : List Bool) (known : ℕ) (no_history : Bool) → found_of (lacking_field counts known no_history) ≡ false → no_history ≡ false
history_there counts known true e = absurd (not_lacking counts known true e 10 (lit< tt) tt)
history_there counts known false e = refl

-- ---- the answer

-- what stands behind 2 and 1 matters only where neither fits
behind_one : (u f : Bool) (p m : ℕ) (a b : Answer) → (u ≡ false → f ≡ false → a ≡ b) → cond u (Refused NotFinite p) (cond f (Refused HistoryLacking m) a) ≡ cond u (Refused NotFinite p) (cond f (Refused HistoryLacking m) b)
behind_one true f p m a b same = refl
behind_one false true p m a b same = refl
behind_one false false p m a b same = same refl refl

-- the one-altitude call's answer where neither 2 nor its own 1 fits
three_left : (u h o x : Bool) (p q : ℕ) → u ≡ false → h ≡ false
    → cond (not (accepted_of (cond u (Refused NotFinite p) (cond h (Refused HistoryLacking 10) (cond o (Refused OutOfRange q) Accepted)))))
    (cond u (Refused NotFinite p) (cond h (Refused HistoryLacking 10) (cond o (Refused OutOfRange q) Accepted))) (cond x (Refused NotMixed 3) Accepted)
    ≡ cond o (Refused OutOfRange q) (cond x (Refused NotMixed 3) Accepted)
three_left u h true x p q e f = rw (e, f)
three_left u h false x p q e f = rw (e, f)

-- Where doy and alt count, as they do under every row, the answer by way of the record with 0 in the fields that are not known is that over the known
-- fields alone.
pub answer_is : (counts : List Bool) (known : ℕ) (w : List ℤ) (n : Input) → T (get_or counts 1 false) → T (get_or counts 3 false)
    → filled_answer counts known w (only_known known n) ≡ known_refusal counts known w n
unfolding filled_answer known_refusal lacks_history_of only_known record_answer judged_of
answer_is counts known w n day alt =
    let filled = only_known known n in
    let no_history = lacks_history_of w n in
    let one = is_one (given w 15) in
    rw (unfit_known_lem known n)
    (behind_one (found_of (unfit_known known n)) (found_of (lacking_field counts known no_history)) _ _ _ _
    (λ fit there.
    let is_known = counts_known counts known no_history there in
    let in_alt : unmixed_of one filled.alt ≡ unmixed_of one n.alt = ap (λ (t : Bool). unmixed_of one (cond t n.alt 0·0)) (is_known 3 (lit< tt) alt) in
    three_left (found_of (unfit_known known n)) no_history (found_of (outside_of filled)) (unmixed_of one filled.alt) (unfit_known known n) (outside_of filled)
    fit (history_there counts known no_history there)
    ∙ rw (outside_known_lem known n (is_known 1 (lit< tt) day), in_alt)))

-- ---- 1 and its place

one_from : (u f : Bool) (p m i : ℕ) (rest : Answer) → Never HistoryLacking rest → cond u (Refused NotFinite p) (cond f (Refused HistoryLacking m) rest) ≡ Refused HistoryLacking i → (u ≡ false) × (f ≡ true) × (m ≡ i)
one_from true f p m i rest never e = let h : ◌≡◌ {A = ℕ} 2 1 = ap refusal_number e in absurd (omega (arith, h))
one_from false true p m i rest never e = (refl, refl, ap refusal_place e)
one_from false false p m i rest never e = absurd (never i e)

-- 1 is at the lowest field that is lacking, and no known field is NaN or infinite
pub one_place : (counts : List Bool) (known : ℕ) (w : List ℤ) (n : Input) (i : ℕ) → known_refusal counts known w n ≡ Refused HistoryLacking i
    → (found_of (unfit_known known n) ≡ false) × Lowest (lacking counts known (lacks_history_of w n)) 0 i
unfolding known_refusal found_of lacking_field
one_place counts known w n i e =
    let no_history = lacks_history_of w n in
    let lowest = lacking_field counts known no_history in
    let r = one_from (found_of (unfit_known known n)) (found_of lowest) (unfit_known known n) lowest i _
    (then_never (found_of (outside_known known n)) HistoryLacking OutOfRange (outside_known known n) _ (λ q. omega arith)
    (then_never (unmixed_of (is_one (given w 15)) n.alt) HistoryLacking NotMixed 3 Accepted (λ q. omega arith) (accepted_never HistoryLacking))) e in
    let below : lowest < 17 = ltb→lt lowest 17 (subst T (sym r.1) tt) in
    (r.0, subst (Lowest (lacking counts known no_history) 0) r.2 (found_lowest (lacking counts known no_history) 0 11 17 below))

lacking_found : (counts : List Bool) (known : ℕ) (no_history : Bool) (i : ℕ) → i < 11 → T (lacking counts known no_history i) → found_of (lacking_field counts known no_history) ≡ true
unfolding found_of lacking_field
lacking_found counts known no_history i h t =
    let low = at_most (lacking counts known no_history) 0 11 17 i (omega arith) h t in
    lt-ltb (lacking_field counts known no_history) 17 (omega (arith, low, h))

-- it is 1 wherever some field is lacking and no known field is NaN or infinite
pub one_where : (counts : List Bool) (known : ℕ) (w : List ℤ) (n : Input) (i : ℕ) → found_of (unfit_known known n) ≡ false
    → i < 11 → T (lacking counts known (lacks_history_of w n) i) → known_refusal counts known w n ≡ Refused HistoryLacking (lacking_field counts known (lacks_history_of w n))
unfolding known_refusal
one_where counts known w n i fit h t = rw (fit, lacking_found counts known (lacks_history_of w n) i h t)

-- ---- every field known

never_lacking : (c known : Bool) → known ≡ true → (c && not known) ≡ false
never_lacking true known e = ap not e
never_lacking false known e = refl

-- only the history can be lacking
all_known : (counts : List Bool) (known : ℕ) (no_history : Bool) → AllKnown known → lacking_field counts known no_history ≡ cond no_history 10 17
unfolding lacking_field
all_known counts known no_history all =
    passed_over (lacking counts known no_history) 0 10 1 17
    (λ j a b. let h : j < 10 = omega (arith, b) in simp (ne_eqb j 10 (λ q. omega (arith, h))) (never_lacking (get_or counts j false) (known_at known j) (all j h)))

-- the one-altitude call's answer comes first, since it begins with 2 and then with the history
call_first : (u h : Bool) (p : ℕ) (a b : Answer)
    → let judged = cond u (Refused NotFinite p) (cond h (Refused HistoryLacking 10) a) in
    cond u (Refused NotFinite p) (cond (found_of (cond h 10 17)) (Refused HistoryLacking (cond h 10 17)) (cond (not (accepted_of judged)) judged b)) ≡ cond (not (accepted_of judged)) judged b
unfolding found_of
call_first true h p a b = refl
call_first false true p a b = refl
call_first false false p a b = refl

-- With every field known the answer is the one-altitude call's.
pub filled_all : (counts : List Bool) (known : ℕ) (w : List ℤ) (n : Input) → AllKnown known → filled_answer counts known w n ≡ record_answer w n
unfolding filled_answer record_answer judged_of
filled_all counts known w n all =
    rw (all_known counts known (lacks_history_of w n) all)
    (call_first (found_of (unfit_of n)) (lacks_history_of w n) (unfit_of n) _ _)

pub all_kept_lem : (known : ℕ) (n : Input) → AllKnown known → only_known known n ≡ n
unfolding only_known
all_kept_lem known n all =
    rw (
      all 0 (lit< tt),
      all 1 (lit< tt),
      all 2 (lit< tt),
      all 3 (lit< tt),
      all 4 (lit< tt),
      all 5 (lit< tt),
      all 6 (lit< tt),
      all 7 (lit< tt),
      all 8 (lit< tt),
      all 9 (lit< tt),
    )
