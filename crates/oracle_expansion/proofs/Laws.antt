-- The numbers of an answer, and the answer by the lengths of the slices.
use Prim.Native.Nat.{ℕ, zero, suc, ◌+◌, ◌<◌}
use mathlib.Core.Path.{◌≡◌, refl, sym, ap, ◌∙◌}
use mathlib.Core.List.{List}
use native.Mathlib.Nat.{add-zero, add-suc, suc-add, not-suc-le-zero, le_of_suc-le-suc}
use lib.ListN.{length, get_or}
use lib.Ieee.{Float, nan}
use Rattle.host_record.specs.Record.{packed_of}
use Rattle.std.proofs.Common.{Option, None, Some, Result}
use Rattle.setting.specs.declared.Left.{Left}
use Rattle.oracle_expansion.specs.OracleExpansion.{fitted_of, entry_of, expanded_entries, expanded_after, expanded_code}

-- ---- the numbers

pub entries_length : (m : ℕ) (e : Left Float) (k : ℕ) → length (expanded_entries m e k) ≡ m
unfolding expanded_entries
entries_length zero e k = refl
entries_length (suc m) e k = ap suc (entries_length m e (suc k))

pub entries_at : (m : ℕ) (e : Left Float) (k i : ℕ) → i < m → get_or (expanded_entries m e k) i nan ≡ entry_of e (k + i)
unfolding expanded_entries
entries_at zero e k i h = absurd (not-suc-le-zero h)
entries_at (suc m) e k zero h = ap (entry_of e) (sym (add-zero k))
entries_at (suc m) e k (suc i) h = entries_at m e (suc k) i (le_of_suc-le-suc h) ∙ ap (entry_of e) (suc-add k i ∙ sym (add-suc k i))

-- ---- the answer

-- k is the length that the first slice without its length needs, which the code found to be q
module _ (k q : Option ℕ) (g : q ≡ k) (c : ℕ) (rest : Result (Left Float) (ℕ × ℕ)) (xs : List Float) where
  -- 4, the numbers as lent
  pub misfit_told : (needed : ℕ) → q ≡ Some needed → c ≡ packed_of 4 needed → (c ≡ expanded_code (fitted_of k rest)) × (xs ≡ expanded_after (fitted_of k rest) xs)
  unfolding expanded_after
  misfit_told needed h e = rw (sym g, h) (e, refl)

  pub fit_told : (a : Result (Left Float) (ℕ × ℕ)) (ys : List Float) → q ≡ None → a ≡ rest → (c ≡ expanded_code a) × (ys ≡ expanded_after a xs)
      → (c ≡ expanded_code (fitted_of k rest)) × (ys ≡ expanded_after (fitted_of k rest) xs)
  fit_told a ys h f w = rw (sym g, h, sym f) w
