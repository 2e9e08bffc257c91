-- The site of a record from the sine of the latitude and the day's cosine that its View and its season hold.
use Rattle.std.specs.Prelude.{◌≡◌, refl, Bool, true, false, List, ℕ, ◌*◌, Float}
use Rattle.std.proofs.Common.{ap, ap₂, mul_comm}
use Rattle.std.specs.Float.{nan, inf, fin, binary64}
use Rattle.std.specs.Float.Ieee.{mul, round, unlike, up, down}
use Rattle.numbers.specs.Arithmetic.{◌⊖◌, ◌⊗◌, ◌‼◌}
use Rattle.numbers.specs.Constants.{dgtr, dr}
use Rattle.elementary.specs.Trig.{sin_of, cos_of}
use Rattle.parameters.specs.declared.Parameters.{Parameters}
use Rattle.tables.specs.Tables.{pt_t}
use Rattle.gts7_arithmetic.specs.declared.Site.{Site}
use Rattle.gts7_arithmetic.specs.Gts7Arithmetic.{site_from, site_with}

unlike_comm : (s t : Bool) → unlike s t ≡ unlike t s
unlike_comm true true = refl
unlike_comm true false = refl
unlike_comm false true = refl
unlike_comm false false = refl

-- x * y is y * x
times_comm : (x y : Float) → x ⊗ y ≡ y ⊗ x
unfolding mul
times_comm nan nan = refl
times_comm nan (inf t) = refl
times_comm nan (fin t n d) = refl
times_comm (inf s) nan = refl
times_comm (inf s) (inf t) = ap inf (unlike_comm s t)
times_comm (inf s) (fin t n d) = rw (unlike_comm s t)
times_comm (fin s m e) nan = refl
times_comm (fin s m e) (inf t) = rw (unlike_comm s t)
times_comm (fin s m e) (fin t n d) =
    rw (unlike_comm s t) (ap₂ (round binary64 (unlike t s)) (mul_comm (m * up e) (n * up d)) (mul_comm (down e) (down d)))

pub site_given : (c : Parameters) (sw : List Float) (lat doy f107a : Float)
    → site_from c sw lat (sin_of (lat ⊗ dgtr)) (cos_of (dr ⊗ (doy ⊖ pt_t ‼ 13))) f107a ≡ site_with c sw lat doy f107a
unfolding site_with
site_given c sw lat doy f107a = ap (λ (y : Float). site_from c sw lat (sin_of y) (cos_of (dr ⊗ (doy ⊖ pt_t ‼ 13))) f107a) (times_comm lat dgtr)
