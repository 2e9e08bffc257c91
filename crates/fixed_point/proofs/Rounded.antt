-- A rounded number is no NaN, and so a number taken 2 ^ 54 times as large is none. Assumes nothing.
use mathlib.Core.Path.{◌≡◌, refl}
use mathlib.Core.Bool.{Bool, true, false, cond}
use Prim.Native.Nat.{ℕ, zero, suc, ◌+◌, ◌*◌, ◌^◌}
use lib.Dec.{ltb}
use lib.IntN.{pos}
use lib.Ieee.{Format, Float, nan, inf, fin, binary64, unlike, up, down, odd, units, round, prec, low, emax, mul, is_nan}
use Rattle.fixed_point.specs.Float.{lift}

odd_no_nan : (d : ℕ) (s : Bool) (q k l : ℕ) → is_nan (odd d s q k l) ≡ false
unfolding is_nan odd
odd_no_nan d s zero k l = refl
odd_no_nan d s (suc q) k l = refl

either : (b : Bool) (x y : Float) → is_nan x ≡ false → is_nan y ≡ false → is_nan (cond b x y) ≡ false
either true x y h k = h
either false x y h k = k

inf_no_nan : (s : Bool) → is_nan (inf s) ≡ false
unfolding is_nan
inf_no_nan s = refl

units_no_nan : (f : Format) (s : Bool) (q k : ℕ) → is_nan (units f s q k) ≡ false
unfolding units
units_no_nan f s q k = either (ltb (q * 2 ^ k) (2 ^ (low f + suc (emax f)))) _ _ (odd_no_nan (suc (prec f)) s q k (low f)) (inf_no_nan s)

pub round_no_nan : (f : Format) (s : Bool) (a b : ℕ) → is_nan (round f s a b) ≡ false
unfolding round
round_no_nan f s a b = units_no_nan f s _ _

pub lifted_no_nan : (x : Float) → is_nan x ≡ false → is_nan (mul binary64 x lift) ≡ false
unfolding mul is_nan
lifted_no_nan nan h = h
lifted_no_nan (inf s) h = refl
lifted_no_nan (fin s m e) h = round_no_nan binary64 (unlike s false) (m * up e * (1 * up (pos 54))) (down e * down (pos 54))
