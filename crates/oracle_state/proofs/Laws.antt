-- A number's place in State, all of them in a slice, the State after gtd7, and the call's outcomes.
use Prim.Native.Nat.{ℕ, zero, suc, ◌+◌, ◌-◌, ◌<◌, ◌≤◌}
use mathlib.Core.Path.{◌≡◌, refl, sym, ◌∙◌, ap}
use mathlib.Core.List.{List}
use mathlib.Core.Bool.{cond, ◌&&◌}
use native.Mathlib.Nat.{not-suc-le-zero, le_of_suc-le-suc}
use native.Mathlib.Omega.{arith}
use borrow.Author.Tests.{lt-ltb, le-ltb, eq-eqb, ne_eqb}
use lib.Dec.{eqb}
use lib.IntN.{ℤ}
use lib.ListN.{length, get_or}
use lib.Ieee.{Float, nan}
use Rattle.numbers.specs.Arithmetic.{◌‼◌}
use Rattle.numbers.specs.Literals.{0·0, 1·0}
use Rattle.refusals.specs.Refusals.{Accepted, Refused}
use Rattle.refusals.specs.declared.Reason.TheVariants.{WrongLength}
use Rattle.setting.specs.declared.Input.{Input}
use Rattle.setting.specs.declared.State.{State}
use Rattle.setting.specs.declared.View.{View}
use Rattle.setting.specs.State.{fresh_of}
use Rattle.views.specs.View.{view_of}
use Rattle.gts7_arithmetic.specs.declared.Site.{Site}
use Rattle.gts7_arithmetic.specs.Gts7Arithmetic.{site_of}
use Rattle.lower_atmosphere.specs.declared.Gtd7Output.{Gtd7Output}
use Rattle.plan.specs.Plan.{Ran, ends, run}
use Rattle.atmosphere.specs.Atmosphere.{gtd7_plan, left_with, left_of}
use Rattle.host_record.specs.Record.{code_of, record_of, lengths_of}
use Rattle.oracle_state.specs.OracleState.{node_numbers, last_numbers, state_number, numbers_from, numbers_of_state, state_answer, state_numbers}

module _ (s : State) (k : ℕ) where
  pub first : (a : List Float) → a ≡ node_numbers s → k < 30 → a ‼ k ≡ state_number s k
  unfolding state_number
  first a e h = simp (e, lt-ltb k 30 h)

  module _ (a : 30 ≤ k) where
    pub second : k ≡ 30 → s.dfa ≡ state_number s k
    unfolding state_number
    second h = simp (le-ltb k 30 a, eq-eqb k 30 h)

    module _ (b : k ≡ 30 → ⊥) where
      pub third : k < 67 → s.plg ‼ (k - 31) ≡ state_number s k
      unfolding state_number
      third h = simp (le-ltb k 30 a, ne_eqb k 30 b, lt-ltb k 67 h)

      module _ (c : 67 ≤ k) where
        pub fourth : (l : List Float) → l ≡ last_numbers s → k < 78 → l ‼ (k - 67) ≡ state_number s k
        unfolding state_number
        fourth l e h = simp (e, le-ltb k 30 a, ne_eqb k 30 b, le-ltb k 67 c, lt-ltb k 78 h)

        pub marked : (x : Float) → 78 ≤ k → x ≡ cond (eqb k 78 && s.dm28_set) 1·0 0·0 → x ≡ state_number s k
        unfolding state_number
        marked x h e = simp (e, le-ltb k 30 a, ne_eqb k 30 b, le-ltb k 67 c, le-ltb k 78 h)

-- ---- all numbers

from_length : (m k : ℕ) (s : State) → length (numbers_from m k s) ≡ m
unfolding numbers_from
from_length zero k s = refl
from_length (suc m) k s = ap suc (from_length m (suc k) s)

from_at : (m k i : ℕ) (s : State) → i < m → get_or (numbers_from m k s) i nan ≡ state_number s (k + i)
unfolding numbers_from
from_at zero k i s h = absurd (not-suc-le-zero h)
from_at (suc m) k zero s h = let e : k ≡ k + 0 = omega arith in ap (state_number s) e
from_at (suc m) k (suc i) s h = let e : suc k + i ≡ k + suc i = omega arith in from_at m (suc k) i s (le_of_suc-le-suc h) ∙ ap (state_number s) e

pub numbers_length : (s : State) → length (numbers_of_state s) ≡ 79
unfolding numbers_of_state
numbers_length s = from_length 79 0 s

pub numbers_at : (s : State) (i : ℕ) → i < 79 → get_or (numbers_of_state s) i nan ≡ state_number s i
unfolding numbers_of_state
numbers_at s i h = let e : 0 + i ≡ i = omega arith in from_at 79 0 i s h ∙ ap (state_number s) e

-- ---- the State after gtd7

pub left_law : (w : List ℤ) (n : Input) (b : Gtd7Output) (t : State) (x : Site) (v : View)
    → run v (gtd7_plan v.sw x n.alt) fresh_of ≡ ends b t
    → x ≡ site_of v.sw n.g_lat v.doy n.f107a
    → v ≡ view_of w n
    → t ≡ left_of w n
unfolding left_of left_with site_of
left_law w n b t x v e0 e1 e2 = sym (ap (λ (r : Ran Gtd7Output). r.left) e0) ∙ rw (e1, e2)

-- ---- the call

module _ (f l : List Float) (w : List ℤ) (xs : List Float) where
  pub no_slice : (length xs ≡ 79 → ⊥) → state_answer f l w (length xs) ≡ Refused WrongLength 79
  unfolding state_answer
  no_slice h = simp (ne_eqb _ _ h)

  pub a_slice : length xs ≡ 79 → state_answer f l w (length xs) ≡ lengths_of f l w Accepted
  unfolding state_answer
  a_slice h = simp (eq-eqb _ _ h)

  pub answered : (year doy : ℤ) (x : ℕ) (ys : List Float) (s : State) (n : Input) (v : List ℤ)
      → x ≡ code_of Accepted
      → ys ≡ numbers_of_state s
      → s ≡ left_of v n
      → n ≡ record_of year doy f l
      → v ≡ w
      → state_answer f l w (length xs) ≡ Accepted
      → (x ≡ code_of (state_answer f l w (length xs))) × (ys ≡ state_numbers year doy f l w xs)
  unfolding state_numbers
  answered year doy x ys s n v e0 e1 e2 e3 e4 e5 = (e0 ∙ sym (ap code_of e5), simp (e1, e2, e3, e4, e5))
