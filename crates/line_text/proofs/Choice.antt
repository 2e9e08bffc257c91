-- A choice whose test is known.
use mathlib.Core.Path.{◌≡◌, refl}
use mathlib.Core.Bool.{Bool, true, false, cond, true≢false, false≢true}

pub cond_true : {A : Type 0} (b : Bool) (x y : A) → b ≡ true → x ≡ cond b x y
cond_true true x y t = refl
cond_true false x y t = absurd (false≢true t)

pub cond_false : {A : Type 0} (b : Bool) (x y : A) → b ≡ false → y ≡ cond b x y
cond_false true x y t = absurd (true≢false t)
cond_false false x y t = refl
