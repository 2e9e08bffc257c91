-- The lowest field of which a test holds: it is found where there is one, and no field below it passes.
use Rattle.std.specs.Prelude.{◌≡◌, refl, Bool, true, false, cond, not, ℕ, zero, suc, ◌+◌, ◌<◌, ◌≤◌, T}
use Rattle.std.proofs.Common.{sym, subst, arith}
use Rattle.std.proofs.Math.Decide.{ℕ_discrete}
use Rattle.known_record.specs.KnownRecord.{lowest_field}

-- field i passes, and none from k on below it
pub record Lowest (f : ℕ → Bool) (k i : ℕ) : Type 0 where
  pub holds : T (f i)
  pub above : k ≤ i
  pub before : (j : ℕ) → k ≤ j → j < i → T (not (f j))

before_next : (f : ℕ → Bool) (k i : ℕ) → f k ≡ false → Lowest f (suc k) i → (j : ℕ) → k ≤ j → j < i → T (not (f j))
before_next f k i e l j a b = go (ℕ_discrete k j)
  where
    go : Dec (k ≡ j) → T (not (f j))
    go (yes same) = subst (λ (m : ℕ). T (not (f m))) same (subst (λ (t : Bool). T (not t)) (sym e) tt)
    go (no other) = l.before j (omega arith) b

lowest_step : (f : ℕ → Bool) (k next rest : ℕ) (t : Bool) → f k ≡ t → (next < rest → Lowest f (suc k) next) → cond t k next < rest → Lowest f k (cond t k next)
lowest_step f k next rest true e further h = record { holds = subst T (sym e) tt; above = omega arith; before = λ j a b. absurd (omega (arith, a, b)) }
lowest_step f k next rest false e further h =
    let l = further h in
    record { holds = l.holds; above = omega (arith, l.above); before = before_next f k next e l }

-- what is found is the lowest
pub found_lowest : (f : ℕ → Bool) (k many rest : ℕ) → lowest_field f k many rest < rest → Lowest f k (lowest_field f k many rest)
found_lowest f k zero rest h = absurd (omega (arith, h))
found_lowest f k (suc many) rest h = lowest_step f k (lowest_field f (suc k) many rest) rest (f k) refl (found_lowest f (suc k) many rest) h

at_most_step : (f : ℕ → Bool) (k next i : ℕ) (t : Bool) → f k ≡ t → k ≤ i → T (f i) → (suc k ≤ i → next ≤ i) → cond t k next ≤ i
at_most_step f k next i true e a p further = a
at_most_step f k next i false e a p further = go (ℕ_discrete k i)
  where
    go : Dec (k ≡ i) → next ≤ i
    go (yes same) = absurd (subst T e (subst (λ (m : ℕ). T (f m)) (sym same) p))
    go (no other) = further (omega arith)

-- a field that passes is found, or a lower one
pub at_most : (f : ℕ → Bool) (k many rest i : ℕ) → k ≤ i → i < k + many → T (f i) → lowest_field f k many rest ≤ i
at_most f k zero rest i a b p = absurd (omega (arith, a, b))
at_most f k (suc many) rest i a b p =
    at_most_step f k (lowest_field f (suc k) many rest) i (f k) refl a p (λ c. at_most f (suc k) many rest i c (omega (arith, b)) p)

-- fields that do not pass are passed over
pub passed_over : (f : ℕ → Bool) (k many more rest : ℕ) → ((j : ℕ) → k ≤ j → j < k + many → f j ≡ false) → lowest_field f k (many + more) rest ≡ lowest_field f (k + many) more rest
passed_over f k zero more rest h =
    let e : k + 0 ≡ k = omega arith in
    let g : 0 + more ≡ more = omega arith in
    rw (e, g)
passed_over f k (suc many) more rest h =
    let e : k + suc many ≡ suc k + many = omega arith in
    let g : suc many + more ≡ suc (many + more) = omega arith in
    rw (e, g, h k (omega arith) (omega arith)) (passed_over f (suc k) many more rest (λ j a b. h j (omega (arith, a)) (omega (arith, b))))
