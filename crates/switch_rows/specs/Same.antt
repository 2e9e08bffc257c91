-- Rows whose entries 1 to 14 have the same effects have these entries of sw and of swc in common.
use Rattle.std.specs.Prelude.{ℕ, zero, suc, ◌+◌, ◌<◌, ◌≡◌, refl, Bool, true, false, cond, not, ◌&&◌, List, eqb, ℤ, pos, negsuc}
use Rattle.std.proofs.Common.{sym, ap, ◌∙◌, not-suc-le-zero, arith, eqb-true, eq-eqb}
use Rattle.std.proofs.lemmas.Bool.{false≢true}
use Rattle.std.specs.Float.{binary64}
use Rattle.std.specs.Float.Ieee.{of_int}
use Rattle.numbers.specs.Arithmetic.{◌‼◌}
use Rattle.numbers.specs.Booleans.{both}
use Rattle.setting.specs.Switches.{given, is_one, above_zero, on_off, sw_at, swc_at, filled, sw_of, swc_of}
use Rattle.switch_rows.specs.Rows.{alike, same_number, same_at, same_from, same_expansions}

is_alike : (a b : Bool) → alike a b ≡ true → a ≡ b
is_alike true true e = refl
is_alike true false e = absurd (false≢true e)
is_alike false true e = absurd (false≢true e)
is_alike false false e = refl

pub is_same : (x y : ℤ) → same_number x y ≡ true → x ≡ y
is_same (pos m) (pos n) e = ap pos (eqb-true m n e)
is_same (pos m) (negsuc n) e = absurd (false≢true e)
is_same (negsuc m) (pos n) e = absurd (false≢true e)
is_same (negsuc m) (negsuc n) e = ap negsuc (eqb-true m n e)

test_first : (t r : Bool) → cond (not t) false r ≡ true → (t ≡ true) × (r ≡ true)
test_first true r e = (refl, e)
test_first false r e = absurd (false≢true e)

-- the effects of a switch, by whether it is switch 9
by_nine : (nine : Bool) (x y : ℤ) → cond nine (same_number x y) (alike (is_one x) (is_one y) && alike (above_zero x) (above_zero y)) ≡ true
    → (cond nine (of_int binary64 x) (on_off (is_one x)) ≡ cond nine (of_int binary64 y) (on_off (is_one y)))
    × (cond nine (of_int binary64 x) (on_off (above_zero x)) ≡ cond nine (of_int binary64 y) (on_off (above_zero y)))
by_nine true x y e = (ap (of_int binary64) (is_same x y e), ap (of_int binary64) (is_same x y e))
by_nine false x y e =
    let p = both (alike (is_one x) (is_one y)) (alike (above_zero x) (above_zero y)) e in
    (ap on_off (is_alike (is_one x) (is_one y) p.0), ap on_off (is_alike (above_zero x) (above_zero y) p.1))

pub same_effects : (a b : List ℤ) (i : ℕ) → same_at a b i ≡ true → (sw_at a i ≡ sw_at b i) × (swc_at a i ≡ swc_at b i)
unfolding same_at
same_effects a b i e = by_nine (eqb i 9) (given a i) (given b i) e

-- each of the entries that are gone through
among : (m : ℕ) (a b : List ℤ) (i k : ℕ) → same_from m a b i ≡ true → k < m → same_at a b (i + k) ≡ true
unfolding same_from
among zero a b i k e q = absurd (not-suc-le-zero q)
among (suc m) a b i zero e q =
    let none : i + 0 ≡ i = omega arith in
    ap (same_at a b) none ∙ (test_first (same_at a b i) (same_from m a b (i + 1)) e).0
among (suc m) a b i (suc k) e q =
    let moved : i + suc k ≡ i + 1 + k = omega arith in
    ap (same_at a b) moved ∙ among m a b (i + 1) k (test_first (same_at a b i) (same_from m a b (i + 1)) e).1 (omega (arith, q))

-- an entry of the lists: 1 + k
entry : (w : List ℤ) (k : ℕ) → k < 14 → (sw_of w ‼ (1 + k) ≡ sw_at w (1 + k)) × (swc_of w ‼ (1 + k) ≡ swc_at w (1 + k))
unfolding sw_of swc_of filled
entry w zero q = (refl, refl)
entry w (suc zero) q = (refl, refl)
entry w (suc (suc zero)) q = (refl, refl)
entry w (suc (suc (suc zero))) q = (refl, refl)
entry w (suc (suc (suc (suc zero)))) q = (refl, refl)
entry w (suc (suc (suc (suc (suc zero))))) q = (refl, refl)
entry w (suc (suc (suc (suc (suc (suc zero)))))) q = (refl, refl)
entry w (suc (suc (suc (suc (suc (suc (suc zero))))))) q = (refl, refl)
entry w (suc (suc (suc (suc (suc (suc (suc (suc zero)))))))) q = (refl, refl)
entry w (suc (suc (suc (suc (suc (suc (suc (suc (suc zero))))))))) q = (refl, refl)
entry w (suc (suc (suc (suc (suc (suc (suc (suc (suc (suc zero)))))))))) q = (refl, refl)
entry w (suc (suc (suc (suc (suc (suc (suc (suc (suc (suc (suc zero))))))))))) q = (refl, refl)
entry w (suc (suc (suc (suc (suc (suc (suc (suc (suc (suc (suc (suc zero)))))))))))) q = (refl, refl)
entry w (suc (suc (suc (suc (suc (suc (suc (suc (suc (suc (suc (suc (suc zero))))))))))))) q = (refl, refl)
entry w (suc (suc (suc (suc (suc (suc (suc (suc (suc (suc (suc (suc (suc (suc k)))))))))))))) q = absurd (omega (arith, q))

-- The entries 1 to 14 of sw and of swc: entry 1 + k
pub same_rows : (a b : List ℤ) → same_expansions a b ≡ true → (k : ℕ) → k < 14 → (sw_of a ‼ (1 + k) ≡ sw_of b ‼ (1 + k)) × (swc_of a ‼ (1 + k) ≡ swc_of b ‼ (1 + k))
unfolding same_expansions
same_rows a b e k q =
    let s = same_effects a b (1 + k) (among 14 a b 1 k e q) in
    let x = entry a k q in
    let y = entry b k q in
    (x.0 ∙ s.0 ∙ sym y.0, x.1 ∙ s.1 ∙ sym y.1)

-- ---- rows that have entries 1 to 14 in common as they are given

alike_itself : (b : Bool) → alike b b ≡ true
alike_itself true = refl
alike_itself false = refl

pub same_itself : (x : ℤ) → same_number x x ≡ true
same_itself (pos n) = eq-eqb n n refl
same_itself (negsuc n) = eq-eqb n n refl

by_nine_itself : (nine : Bool) (x : ℤ) → cond nine (same_number x x) (alike (is_one x) (is_one x) && alike (above_zero x) (above_zero x)) ≡ true
by_nine_itself true x = same_itself x
by_nine_itself false x = rw (alike_itself (is_one x), alike_itself (above_zero x))

same_given : (a b : List ℤ) (i : ℕ) → given a i ≡ given b i → same_at a b i ≡ true
unfolding same_at
same_given a b i e = rw e (by_nine_itself (eqb i 9) (given b i))

all_given : (m : ℕ) (a b : List ℤ) (i : ℕ) → ((k : ℕ) → k < m → given a (i + k) ≡ given b (i + k)) → same_from m a b i ≡ true
unfolding same_from
all_given zero a b i h = refl
all_given (suc m) a b i h =
    let none : i + 0 ≡ i = omega arith in
    let first_is : given a i ≡ given b i = rw none at (h 0 (omega arith)) in
    let rest : (k : ℕ) → k < m → given a (i + 1 + k) ≡ given b (i + 1 + k) = λ k q.
    let moved : i + suc k ≡ i + 1 + k = omega arith in
    rw moved at (h (suc k) (omega (arith, q))) in
    rw (same_given a b i first_is) (all_given m a b (i + 1) rest)

-- Rows that differ in entries 0 and 15 to 23 alone have the same expansions
pub outer_entries : (a b : List ℤ) → ((k : ℕ) → k < 14 → given a (1 + k) ≡ given b (1 + k)) → same_expansions a b ≡ true
unfolding same_expansions
outer_entries a b h = all_given 14 a b 1 h
