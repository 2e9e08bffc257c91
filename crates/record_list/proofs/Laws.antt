-- The place of a refusal from 32 bits of the count, and what each length gives.
use Rattle.std.specs.Prelude.{Err, Ok}
use Prim.Native.Nat.{ℕ, ◌+◌, ◌-◌, ◌*◌, ◌/◌, ◌%◌, ◌<◌, ◌≤◌}
use mathlib.Core.Path.{◌≡◌, refl, sym, ap, ◌∙◌}
use mathlib.Core.Bool.{Bool, true, false, cond, not, ◌&&◌, ◌||◌, false≢true}
use mathlib.Core.List.{List}
use native.Mathlib.Omega.{arith}
use native.Mathlib.Nat.{mul-add-mod_self_left}
use borrow.Author.Tests.{ltb-true, ltb-false, eqb-true, eqb-false, lt-ltb, le-ltb, eq-eqb, ne_eqb}
use lib.Dec.{eqb, ltb}
use lib.IntN.{ℤ, pos}
use lib.ListN.{length, get_or, take, drop}
use lib.Ieee.{Float}
use Rattle.refusals.specs.Refusals.{Accepted, Answer, Refused, accepted_of}
use Rattle.refusals.specs.declared.Reason.TheVariants.{WrongLength}
use Rattle.setting.specs.declared.Input.{Input}
use Rattle.host_record.specs.Record.{packed_of, code_of, record_of}
use Rattle.record_list.specs.RecordList.{Listed, record_at, lengths_answer}

-- 32 bits of a product, from 32 bits of the count
low : (k count x : ℕ) → k * count ≡ 4294967296 * x + k * (count % 4294967296) → k * (count % 4294967296) % 4294967296 ≡ k * count % 4294967296
low k count x e = sym (ap (λ (m : ℕ). m % 4294967296) e ∙ mul-add-mod_self_left 4294967296 x (k * (count % 4294967296)))

pub low_11 : (count : ℕ) → 11 * (count % 4294967296) % 4294967296 ≡ 11 * count % 4294967296
low_11 count = low 11 count (11 * (count / 4294967296)) (omega arith)

pub low_8 : (count : ℕ) → 8 * (count % 4294967296) % 4294967296 ≡ 8 * count % 4294967296
low_8 count = low 8 count (8 * (count / 4294967296)) (omega arith)

pub low_7 : (count : ℕ) → 7 * (count % 4294967296) % 4294967296 ≡ 7 * count % 4294967296
low_7 count = low 7 count (7 * (count / 4294967296)) (omega arith)

pub low_1 : (count : ℕ) → count % 4294967296 % 4294967296 ≡ count % 4294967296
low_1 count = omega arith

-- histories that are there are seven for each
pub seven_there : (len count : ℕ) → (not (eqb len 0) && not (eqb len (7 * count))) ≡ false → (len ≡ 0 → ⊥) → len ≡ 7 * count
seven_there len count e h = go (eqb len 0) (eqb len (7 * count)) refl refl e
  where
    go : (a b : Bool) → eqb len 0 ≡ a → eqb len (7 * count) ≡ b → (not a && not b) ≡ false → len ≡ 7 * count
    go true b f g k = absurd (h (eqb-true len 0 f))
    go false true f g k = eqb-true len (7 * count) g
    go false false f g k = absurd (false≢true (sym k))

-- ---- the refusals, one by one

abbrev Code : ℕ → ℕ → ℕ → ℕ → ℕ → ℕ → ℕ
Code count fields histories switches answers rows = code_of (lengths_answer count fields histories switches answers rows)

module _ (count fields histories switches answers rows : ℕ) where
  pub short_rows : (x : Bool) (r : ℕ) → x ≡ ltb rows (11 * count) → x ≡ true → r ≡ packed_of 4 (11 * (count % 4294967296)) → r ≡ Code count fields histories switches answers rows
  unfolding code_of lengths_answer
  short_rows x r e t f = rw (sym e ∙ t) (f ∙ ap (λ (k : ℕ). 17179869184 + k) (low_11 count))

  module _ (x : Bool) (e0 : x ≡ ltb rows (11 * count)) (t0 : x ≡ false) where
    room : ltb rows (11 * count) ≡ false
    room = sym e0 ∙ t0

    pub short_answers : (r : ℕ) → answers < count → r ≡ packed_of 4 (count % 4294967296) → r ≡ Code count fields histories switches answers rows
    unfolding code_of lengths_answer
    short_answers r h f = rw (room, lt-ltb answers count h) (f ∙ ap (λ (k : ℕ). 17179869184 + k) (low_1 count))

    module _ (h1 : count ≤ answers) where
      pub wrong_fields : (y : Bool) (r : ℕ) → y ≡ not (eqb fields (8 * count)) → y ≡ true → r ≡ packed_of 4 (8 * (count % 4294967296)) → r ≡ Code count fields histories switches answers rows
      unfolding code_of lengths_answer
      wrong_fields y r e t f = rw (room, le-ltb answers count h1, sym e ∙ t) (f ∙ ap (λ (k : ℕ). 17179869184 + k) (low_8 count))

      module _ (y : Bool) (e2 : y ≡ not (eqb fields (8 * count))) (t2 : y ≡ false) where
        pub wrong_histories : (z : Bool) (r : ℕ) → z ≡ (not (eqb histories 0) && not (eqb histories (7 * count))) → z ≡ true → r ≡ packed_of 4 (7 * (count % 4294967296)) → r ≡ Code count fields histories switches answers rows
        unfolding code_of lengths_answer
        wrong_histories z r e t f = rw (room, le-ltb answers count h1, sym e2 ∙ t2, sym e ∙ t) (f ∙ ap (λ (k : ℕ). 17179869184 + k) (low_7 count))

        module _ (z : Bool) (e3 : z ≡ (not (eqb histories 0) && not (eqb histories (7 * count)))) (t3 : z ≡ false) where
          pub wrong_switches : (r : ℕ) → (switches ≡ 24 → ⊥) → r ≡ packed_of 4 24 → r ≡ Code count fields histories switches answers rows
          unfolding code_of lengths_answer
          wrong_switches r h f = rw (room, le-ltb answers count h1, sym e2 ∙ t2, sym e3 ∙ t3, ne_eqb switches 24 h) f

          pub all_right : switches ≡ 24 → 0 ≡ Code count fields histories switches answers rows
          unfolding code_of lengths_answer
          all_right h = rw (room, le-ltb answers count h1, sym e2 ∙ t2, sym e3 ∙ t3, eq-eqb switches 24 h)

-- ---- the k-th record

module _ (days : List ℤ) (fields histories : List Float) (k : ℕ) where
  pub no_history : (n : Input) (doy : ℤ) → doy ≡ get_or days k (pos 0) → length histories ≡ 0 → n ≡ record_of (pos 0) doy (take (8 * k + 8 - 8 * k) (drop (8 * k) fields)) histories → n ≡ record_at days fields histories k
  unfolding record_at
  no_history n doy d h e = let eight : 8 * k + 8 - 8 * k ≡ 8 = omega arith in rw (eq-eqb (length histories) 0 h) (rw (d, eight) at e)

  pub with_history : (n : Input) (doy : ℤ) → doy ≡ get_or days k (pos 0) → (length histories ≡ 0 → ⊥)
      → n ≡ record_of (pos 0) doy (take (8 * k + 8 - 8 * k) (drop (8 * k) fields)) (take (7 * k + 7 - 7 * k) (drop (7 * k) histories)) → n ≡ record_at days fields histories k
  unfolding record_at
  with_history n doy d h e =
      let eight : 8 * k + 8 - 8 * k ≡ 8 = omega arith in
      let seven : 7 * k + 7 - 7 * k ≡ 7 = omega arith in
      rw (ne_eqb (length histories) 0 h) (rw (d, eight, seven) at e)

-- ---- where no length is refused

refused_not_0 : (k : ℕ) → code_of (Refused WrongLength k) ≡ 0 → ⊥
unfolding code_of
refused_not_0 k e = omega (arith, e)

-- what all five tests say
abbrev Met : ℕ → ℕ → ℕ → ℕ → ℕ → ℕ → Type 0
Met count fields histories switches answers rows = Listed count fields histories × (count ≤ answers) × (11 * count ≤ rows) × (switches ≡ 24)

pub lengths_met : (count fields histories switches answers rows : ℕ) → code_of (lengths_answer count fields histories switches answers rows) ≡ 0
    → (lengths_answer count fields histories switches answers rows ≡ Accepted) × Met count fields histories switches answers rows
unfolding lengths_answer
lengths_met count fields histories switches answers rows =
    go (ltb rows (11 * count)) (ltb answers count) (eqb fields (8 * count)) (not (eqb histories 0) && not (eqb histories (7 * count))) (eqb switches 24) refl refl refl refl refl
  where
    go : (a b c d e : Bool) → ltb rows (11 * count) ≡ a → ltb answers count ≡ b → eqb fields (8 * count) ≡ c → (not (eqb histories 0) && not (eqb histories (7 * count))) ≡ d → eqb switches 24 ≡ e
        → code_of (cond a (Refused WrongLength (11 * count)) (cond b (Refused WrongLength count) (cond (not c) (Refused WrongLength (8 * count)) (cond d (Refused WrongLength (7 * count)) (cond (not e) (Refused WrongLength 24) Accepted))))) ≡ 0
        → (cond a (Refused WrongLength (11 * count)) (cond b (Refused WrongLength count) (cond (not c) (Refused WrongLength (8 * count)) (cond d (Refused WrongLength (7 * count)) (cond (not e) (Refused WrongLength 24) Accepted)))) ≡ Accepted)
        × Met count fields histories switches answers rows
    go true b c d e ea eb ec ed ee h = absurd (refused_not_0 (11 * count) h)
    go false true c d e ea eb ec ed ee h = absurd (refused_not_0 count h)
    go false false false d e ea eb ec ed ee h = absurd (refused_not_0 (8 * count) h)
    go false false true true e ea eb ec ed ee h = absurd (refused_not_0 (7 * count) h)
    go false false true false false ea eb ec ed ee h = absurd (refused_not_0 24 h)
    go false false true false true ea eb ec ed ee h = (refl, ((eqb-true _ _ ec, ed), ltb-false _ _ eb, ltb-false _ _ ea, eqb-true _ _ ee))

-- and where one is
pub lengths_refused : (count fields histories switches answers rows : ℕ) → (code_of (lengths_answer count fields histories switches answers rows) ≡ 0 → ⊥)
    → accepted_of (lengths_answer count fields histories switches answers rows) ≡ false
unfolding code_of
lengths_refused count fields histories switches answers rows h = go (lengths_answer count fields histories switches answers rows) h
  where
    go : (a : Answer) → (code_of a ≡ 0 → ⊥) → accepted_of a ≡ false
    go (Ok v) k = absurd (k refl)
    go (Err r) k = refl
