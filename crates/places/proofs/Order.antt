-- A float below another is not above it.
use mathlib.Core.Path.{◌≡◌, refl, sym, subst}
use mathlib.Core.Bool.{Bool, true, false, cond, not, ◌&&◌}
use Prim.Native.Nat.{ℕ, ◌*◌}
use native.Mathlib.Nat.{lt_irrefl, lt_trans}
use lib.Dec.{T, ltb, ltb→lt}
use lib.Ieee.{Float, nan, inf, fin, up, down, lt, below}

clash : {A : Type 0} → false ≡ true → A
clash e = absurd (subst T (sym e) tt)

is_false : (b : Bool) → (T b → ⊥) → b ≡ false
is_false true n = absurd (n tt)
is_false false n = refl

ltb_asym : (a b : ℕ) → ltb a b ≡ true → ltb b a ≡ false
ltb_asym a b e = is_false (ltb b a) (λ t. lt_irrefl a (lt_trans (ltb→lt a b (subst T (sym e) tt)) (ltb→lt b a t)))

below_asym : (s : Bool) (a : ℕ) (t : Bool) (b : ℕ) → below s a t b ≡ true → below t b s a ≡ false
below_asym false a false b e = ltb_asym a b e
below_asym false a true b e = clash e
below_asym true a false b e = refl
below_asym true a true b e = ltb_asym b a e

pub lt_asym : (x y : Float) → lt x y ≡ true → lt y x ≡ false
unfolding lt
lt_asym nan y e = clash e
lt_asym (inf s) nan e = clash e
lt_asym (inf true) (inf true) e = refl
lt_asym (inf true) (inf false) e = refl
lt_asym (inf false) (inf t) e = clash e
lt_asym (inf true) (fin t n d) e = refl
lt_asym (inf false) (fin t n d) e = clash e
lt_asym (fin s m e) nan h = clash h
lt_asym (fin s m e) (inf false) h = refl
lt_asym (fin s m e) (inf true) h = clash h
lt_asym (fin s m e) (fin t n d) h = below_asym s (m * up e * down d) t (n * up d * down e) h

pub both_left : (a b : Bool) → (a && b) ≡ true → a ≡ true
both_left true b e = refl
both_left false b e = clash e

pub both_right : (a b : Bool) → (a && not b) ≡ true → b ≡ false
both_right true false e = refl
both_right true true e = clash e
both_right false b e = clash e

pub chosen : (b : Bool) (x y z : Float) → x ≡ cond b y z → not b ≡ false → x ≡ y
chosen true x y z e f = e
chosen false x y z e f = clash (sym f)
