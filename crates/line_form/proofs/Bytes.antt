-- Two tests at once, and the bytes of a text at an index.
use mathlib.Core.Path.{◌≡◌, refl, sym, ◌∙◌}
use mathlib.Core.Bool.{Bool, true, false, ◌&&◌, false≢true}
use mathlib.Core.List.{List, [], ◌∷◌, ◌++◌}
use Prim.Native.Nat.{ℕ, suc, ◌+◌, ◌<◌}
use native.Mathlib.Omega.{arith}
use borrow.Author.Tests.{lt-ltb, ltb-true, eq-eqb, ne_eqb, eqb-true}
use lib.Dec.{ltb}
use lib.ListN.{length, get_or}
use Rattle.line_form.specs.Grammar.{here_of, starts_of}

-- ---- two tests at once

pub and_first : (a b : Bool) → (a && b) ≡ true → a ≡ true
and_first true b h = refl
and_first false b h = h

pub and_second : (a b : Bool) → (a && b) ≡ true → b ≡ true
and_second true b h = h
and_second false b h = absurd (false≢true h)

pub and_both : (a b : Bool) → a ≡ true → b ≡ true → (a && b) ≡ true
and_both a b g h = rw (g, h)

-- ---- a text at an index

module _ (s : List ℕ) (k c : ℕ) where
  pub here_below : here_of s k c ≡ true → k < length s
  unfolding here_of
  here_below h = ltb-true _ _ (and_first (ltb k (length s)) _ h)

  pub here_byte : here_of s k c ≡ true → get_or s k 0 ≡ c
  unfolding here_of
  here_byte h = eqb-true _ _ (and_second (ltb k (length s)) _ h)

  pub here_is : k < length s → get_or s k 0 ≡ c → here_of s k c ≡ true
  unfolding here_of
  here_is g h = and_both _ _ (lt-ltb _ _ g) (eq-eqb _ _ h)

  -- another byte is not there
  pub here_other : (d : ℕ) → (c ≡ d → ⊥) → here_of s k c ≡ true → here_of s k d ≡ false
  unfolding here_of
  here_other d n h = rw (lt-ltb _ _ (here_below h), here_byte h) (ne_eqb c d n)

pub starts_append : (s : List ℕ) (k : ℕ) (a b : List ℕ) → starts_of s k (a ++ b) ≡ (starts_of s k a && starts_of s (k + length a) b)
unfolding starts_of
starts_append s k [] b = let e : k + 0 ≡ k = omega arith in rw e
starts_append s k (c ∷ a) b =
    let e : k + 1 + length a ≡ k + suc (length a) = omega arith in
    rw (starts_append s (k + 1) a b, e) (assoc (here_of s k c) (starts_of s (k + 1) a) (starts_of s (k + suc (length a)) b))
  where
    assoc : (x y z : Bool) → (x && (y && z)) ≡ ((x && y) && z)
    assoc true y z = refl
    assoc false y z = refl

module _ (s : List ℕ) (k : ℕ) (a b : List ℕ) where
  pub starts_first : starts_of s k (a ++ b) ≡ true → starts_of s k a ≡ true
  starts_first h = and_first _ _ (sym (starts_append s k a b) ∙ h)

  pub starts_rest : starts_of s k (a ++ b) ≡ true → starts_of s (k + length a) b ≡ true
  starts_rest h = and_second (starts_of s k a) _ (sym (starts_append s k a b) ∙ h)

  pub starts_both : starts_of s k a ≡ true → starts_of s (k + length a) b ≡ true → starts_of s k (a ++ b) ≡ true
  starts_both g h = starts_append s k a b ∙ and_both _ _ g h
