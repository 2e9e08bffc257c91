-- The negative of a rounded number is the negative number rounded, and a product takes a sign out. Assumes nothing.
use mathlib.Core.Path.{◌≡◌, refl, sym, ap, ◌∙◌}
use mathlib.Core.Bool.{Bool, true, false, cond}
use Prim.Native.Nat.{ℕ, zero, suc, ◌+◌, ◌*◌, ◌^◌}
use lib.Dec.{ltb}
use lib.IntN.{ℤ}
use lib.Ieee.{Format, Float, nan, inf, fin, binary64, up, down, neg, mul, odd, units, round, prec, low, emax}

neg_cond : (b : Bool) (x y x' y' : Float) → neg x ≡ x' → neg y ≡ y' → neg (cond b x y) ≡ cond b x' y'
neg_cond true x y x' y' e f = e
neg_cond false x y x' y' e f = f

neg_odd : (d q k l : ℕ) → neg (odd d false q k l) ≡ odd d true q k l
unfolding neg odd
neg_odd d zero k l = refl
neg_odd d (suc q) k l = refl

neg_inf : neg (inf false) ≡ inf true
unfolding neg
neg_inf = refl

neg_units : (f : Format) (q k : ℕ) → neg (units f false q k) ≡ units f true q k
unfolding units
neg_units f q k = neg_cond (ltb (q * 2 ^ k) (2 ^ (low f + suc (emax f)))) (odd (suc (prec f)) false q k (low f)) (inf false) (odd (suc (prec f)) true q k (low f)) (inf true) (neg_odd (suc (prec f)) q k (low f)) neg_inf

pub neg_round : (f : Format) (a b : ℕ) → neg (round f false a b) ≡ round f true a b
unfolding round
neg_round f a b = neg_units f _ _

neg_neg : (x : Float) → neg (neg x) ≡ x
unfolding neg
neg_neg nan = refl
neg_neg (inf true) = refl
neg_neg (inf false) = refl
neg_neg (fin true m e) = refl
neg_neg (fin false m e) = refl

-- a product with the negative of a power of two
pub mul_minus : (x : Float) (e : ℤ) → mul binary64 x (fin true 1 e) ≡ neg (mul binary64 x (fin false 1 e))
unfolding mul neg
mul_minus nan e = refl
mul_minus (inf true) e = refl
mul_minus (inf false) e = refl
mul_minus (fin true m i) e = sym (ap neg (sym (neg_round binary64 (m * up i * (1 * up e)) (down i * down e))) ∙ neg_neg (round binary64 false (m * up i * (1 * up e)) (down i * down e)))
mul_minus (fin false m i) e = sym (neg_round binary64 (m * up i * (1 * up e)) (down i * down e))
