-- An index into so many, if it is one: what a search that may find nothing gives.
use Rattle.std.specs.Prelude.{ℕ, ◌<◌, ◌≤◌, ◌≡◌, refl, Bool, true, false, cond, ltb, Option, Some, None}
use Rattle.std.proofs.Common.{sym, ◌∙◌, ap, lt-ltb, ltb-true, ltb-false, le-ltb}
use Rattle.std.proofs.lemmas.Option.{cond_some, none-some}
use Rattle.refusals.specs.Refusals.{index_below}

pub index_found : (i k n : ℕ) → i < n → i ≡ k → Some i ≡ index_below k n
index_found i k n h e = rw (sym e) (rw (lt-ltb i n h) refl)

pub index_missing : (k n : ℕ) → n ≤ k → None ≡ index_below k n
index_missing k n h = rw (le-ltb k n h) refl

pub found_index : (k n i : ℕ) → index_below k n ≡ Some i → (k < n) × (k ≡ i)
found_index k n i e = let at = cond_some (ltb k n) k i e in (ltb-true k n at.0, at.1)

pub missing_index : (k n : ℕ) → index_below k n ≡ None → n ≤ k
missing_index k n e = ltb-false k n (by_cases (ltb k n) e)
  where
    by_cases : (b : Bool) → cond b (Some k) None ≡ None → b ≡ false
    by_cases true e = absurd (none-some k (sym e))
    by_cases false e = refl
