-- The fields met one by one.
use mathlib.Core.Path.{◌≡◌, ap}
use mathlib.Core.Bool.{Bool, true, false, cond, not, ◌&&◌}
use mathlib.Core.List.{List}
use Prim.Native.Nat.{ℕ, suc, ◌+◌, ◌-◌, ◌<◌}
use native.Mathlib.Numerals.{add-one}
use native.Mathlib.Omega.{arith}
use borrow.Author.Tests.{ne_eqb}
use lib.ListN.{get_or}
use Rattle.known_record.specs.KnownRecord.{known_at, lowest_field, lacking, lacking_field}

module _ (counts : List Bool) (known : ℕ) (no_history : Bool) (k : ℕ) (h : k < 10) where
  here : lowest_field (lacking counts known no_history) k (11 - k) 17 ≡ lowest_field (lacking counts known no_history) k (suc (10 - k)) 17
  here =
      let e : 11 - k ≡ suc (10 - k) = omega arith in
      ap (λ (many : ℕ). lowest_field (lacking counts known no_history) k many 17) e

  pub lacking_here : (b : Bool) → b ≡ known_at known k → (get_or counts k false && not b) ≡ true → k ≡ lowest_field (lacking counts known no_history) k (11 - k) 17
  lacking_here b e t = rw here (simp (ne_eqb k 10 (λ q. omega arith), ← e, t))

  pub known_here : (b : Bool) → b ≡ known_at known k → (get_or counts k false && not b) ≡ false
      → lowest_field (lacking counts known no_history) (k + 1) (11 - (k + 1)) 17 ≡ lowest_field (lacking counts known no_history) k (11 - k) 17
  known_here b e t =
      let less : 11 - (k + 1) ≡ 10 - k = omega arith in
      rw (here, less, add-one) (simp (ne_eqb k 10 (λ q. omega arith), ← e, t))

-- none of the first ten is lacking
pub ten_known : (counts : List Bool) (known : ℕ) (no_history b : Bool) (k : ℕ) → k ≡ 10 → no_history ≡ b → cond b 10 17 ≡ lowest_field (lacking counts known no_history) k (11 - k) 17
ten_known counts known no_history b k e f = rw (e, f)
