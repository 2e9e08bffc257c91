-- An integer whose float equals -1 is -1, whatever its size: so switch 9 asks for the history only at -1.
use Rattle.std.specs.Prelude.{◌≡◌, refl, Bool, true, false, ◌&&◌, ◌||◌, cond, T, eqb, ltb, ℤ, pos, negsuc, Float}
use Rattle.std.proofs.Common.{sym, subst, true≢false, arith, eqb→eq, ltb→lt, lit<}
use Prim.Native.Nat.{ℕ, zero, suc, ◌+◌, ◌-◌, ◌*◌, ◌/◌, ◌%◌, ◌^◌, ◌<◌, compare}
use Rattle.std.specs.Float.{nan, inf, fin, Format, binary64}
use Rattle.std.specs.Float.Ieee.{prec, emax, low, up, down, round, units, odd, size, nearest, neg, eq, le, lt, of_int}
use Rattle.std.specs.Float.Ieee.Fits.{down_pos, and_l, and_r, round_is}
use Rattle.std.specs.Float.Ieee.Order.{round_mono}
use Rattle.setting.specs.ApHistory.{is_minus_one}

-- 1.0 as a value
abbrev 𝟏 : Float
𝟏 = fin false 1 (pos 0)

-- rounding gives the sign that it was handed
abbrev Signed : Bool → Float → Type 0
Signed s nan = ⊥
Signed s (inf t) = t ≡ s
Signed s (fin t m e) = t ≡ s

units_signed : (f : Format) (s : Bool) (q k : ℕ) → Signed s (units f s q k)
unfolding units odd
units_signed f s q k = go (ltb (q * 2 ^ k) (2 ^ (low f + suc (emax f)))) q
  where
    go : (b : Bool) (q : ℕ) → Signed s (cond b (odd (suc (prec f)) s q k (low f)) (inf s))
    go true zero = refl
    go true (suc q) = refl
    go false q = refl

round_signed : (f : Format) (s : Bool) (a b : ℕ) → Signed s (round f s a b)
round_signed f s a b =
    let n = a * 2 ^ low f in
    let k = size (n / b) - prec f in
    subst (λ (x : Float). Signed s x) (sym (round_is f s a b)) (units_signed f s (nearest (n / (b * 2 ^ k)) (compare (n % (b * 2 ^ k) * 2) (b * 2 ^ k))) k)

units_neg : (f : Format) (q k : ℕ) → units f true q k ≡ neg (units f false q k)
unfolding units odd neg
units_neg f q k = go (ltb (q * 2 ^ k) (2 ^ (low f + suc (emax f)))) q
  where
    go : (b : Bool) (q : ℕ) → cond b (odd (suc (prec f)) true q k (low f)) (inf true) ≡ neg (cond b (odd (suc (prec f)) false q k (low f)) (inf false))
    go true zero = refl
    go true (suc q) = refl
    go false q = refl

round_neg : (f : Format) (a b : ℕ) → round f true a b ≡ neg (round f false a b)
unfolding round
round_neg f a b = units_neg f _ _

-- a number that is 2 or more is not 1
two_up : (y : Float) → T (le (round binary64 false 2 1) y) → T (eq (neg y) (neg 𝟏)) → ⊥
unfolding le lt eq neg round
two_up nan p q = q
two_up (inf s) p q = q
two_up (fin true m e) p q =
    let a = eqb→eq (2 * down e) 0 (and_r (eqb (2 * down e) (m * up e * 1)) (eqb (2 * down e) 0) p) in
    let d = down_pos e in
    omega arith
two_up (fin false m e) p q =
    let a = eqb→eq (m * up e * 1) (1 * down e) (and_l (eqb (m * up e * 1) (1 * down e)) true q) in
    let d = down_pos e in
    go (ltb (2 * down e) (m * up e * 1)) (ltb→lt (2 * down e) (m * up e * 1)) p a d
  where
    go : (b : Bool) → (T b → 2 * down e < m * up e * 1) → T (b || (eqb (2 * down e) (m * up e * 1) && true)) → m * up e * 1 ≡ 1 * down e → 0 < down e → ⊥
    go true h u a d = let x = h tt in omega arith
    go false h u a d = let x = eqb→eq (2 * down e) (m * up e * 1) (and_l (eqb (2 * down e) (m * up e * 1)) true u) in omega arith

not_negative : (x : Float) → Signed false x → T (eq x (neg 𝟏)) → ⊥
unfolding eq neg
not_negative nan s t = elim s [ ]
not_negative (inf true) s t = true≢false s
not_negative (inf false) s t = t
not_negative (fin true m e) s t = true≢false s
not_negative (fin false m e) s t =
    let p = eqb→eq (m * up e * 1) (1 * down e) (and_l (eqb (m * up e * 1) (1 * down e)) (eqb (m * up e * 1) 0) t) in
    let q = eqb→eq (m * up e * 1) 0 (and_r (eqb (m * up e * 1) (1 * down e)) (eqb (m * up e * 1) 0) t) in
    let d = down_pos e in
    omega arith

pub asks_minus_one : (z : ℤ) → T (eq (of_int binary64 z) (neg 𝟏)) → T (is_minus_one z)
unfolding of_int
asks_minus_one (pos n) t = absurd (not_negative (round binary64 false n 1) (round_signed binary64 false n 1) t)
asks_minus_one (negsuc zero) t = tt
asks_minus_one (negsuc (suc n)) t =
    absurd (two_up (round binary64 false (suc (suc n)) 1) (round_mono binary64 2 1 (suc (suc n)) 1 (lit< tt) (lit< tt) (omega arith))
    (subst (λ (x : Float). T (eq x (neg 𝟏))) (round_neg binary64 (suc (suc n)) 1) t))
