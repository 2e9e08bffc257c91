-- A number in decimal is the text of all but its last digit, and that digit.
use mathlib.Core.Path.{◌≡◌, refl, sym, ap, ◌∙◌}
use mathlib.Core.Logic.{◌⊎◌, inl, inr}
use mathlib.Core.Bool.{Bool, true, false}
use mathlib.Core.List.{List, [], ◌∷◌, ◌++◌}
use Prim.Native.Nat.{ℕ, zero, suc, ◌+◌, ◌-◌, ◌*◌, ◌/◌, ◌%◌, ◌<◌, ◌≤◌}
use native.Mathlib.Omega.{arith}
use native.Mathlib.Nat.{eq-or-lt_of_le}
use borrow.Author.Tests.{lt-ltb, le-ltb, ltb-true, ltb-false}
use lib.Dec.{ltb}
use Rattle.line_text.proofs.Choice.{cond_true, cond_false}
use Rattle.line_text.specs.Text.{decimal_in, decimal_text}

module _ (m n : ℕ) where
  pub one_digit : n < 10 → decimal_in (suc m) n ≡ (48 + n) ∷ []
  unfolding decimal_in
  one_digit h = sym (cond_true _ _ _ (lt-ltb n 10 h))

  pub more_digits : 10 ≤ n → decimal_in (suc m) n ≡ decimal_in m (n / 10) ++ ((48 + n % 10) ∷ [])
  unfolding decimal_in
  more_digits h = sym (cond_false _ _ _ (le-ltb n 10 h))

-- more digits allowed than there are make no difference

one_more : (m n : ℕ) → (n / 10 ≤ m → decimal_in m (n / 10) ≡ decimal_in (suc m) (n / 10)) → n ≤ suc m → decimal_in (suc m) n ≡ decimal_in (suc (suc m)) n
one_more m n f h = by (ltb n 10) refl
  where
    by : (b : Bool) → ltb n 10 ≡ b → decimal_in (suc m) n ≡ decimal_in (suc (suc m)) n
    by true e = one_digit m n (ltb-true _ _ e) ∙ sym (one_digit (suc m) n (ltb-true _ _ e))
    by false e =
        let g : 10 ≤ n = ltb-false _ _ e in
        more_digits m n g ∙ (ap (λ (t : List ℕ). t ++ ((48 + n % 10) ∷ [])) (f (omega arith)) ∙ sym (more_digits (suc m) n g))

allowed : (m n : ℕ) → n ≤ m → decimal_in m n ≡ decimal_in (suc m) n
unfolding decimal_in
allowed zero n h = sym (one_digit 0 n (omega arith))
allowed (suc m) n h = one_more m n (allowed m (n / 10)) h

enough : (m n : ℕ) → n ≤ m → decimal_in m n ≡ decimal_text n
unfolding decimal_text
enough zero n h = let e : n ≡ 0 = omega arith in rw e
enough (suc m) n h = by (eq-or-lt_of_le h) (enough m n)
  where
    by : (n ≡ suc m) ⊎ (n < suc m) → (n ≤ m → decimal_in m n ≡ decimal_in n n) → decimal_in (suc m) n ≡ decimal_in n n
    by (inl e) f = rw e
    by (inr l) f = let g : n ≤ m = omega arith in sym (allowed m n g) ∙ f g

-- ---- the two laws

pub decimal_one : (d : ℕ) → d ≤ 9 → decimal_text d ≡ (48 + d) ∷ []
unfolding decimal_text decimal_in
decimal_one zero h = refl
decimal_one (suc m) h = one_digit m (suc m) (omega arith)

pub decimal_more : (v d : ℕ) → 0 < v → d ≤ 9 → decimal_text (10 * v + d) ≡ decimal_text v ++ ((48 + d) ∷ [])
unfolding decimal_text
decimal_more v d g h =
    let n : ℕ = 10 * v + d in
    let m : ℕ = n - 1 in
    let s : n ≡ suc m = omega arith in
    let q : n / 10 ≡ v = omega arith in
    let r : n % 10 ≡ d = omega arith in
    ap (λ (k : ℕ). decimal_in k n) s
    ∙ (more_digits m n (omega arith)
    ∙ (ap (λ (k : ℕ). decimal_in m k ++ ((48 + n % 10) ∷ [])) q
    ∙ (ap (λ (k : ℕ). decimal_in m v ++ ((48 + k) ∷ [])) r ∙ ap (λ (t : List ℕ). t ++ ((48 + d) ∷ [])) (enough m v (omega arith)))))
