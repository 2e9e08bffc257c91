-- A number is finite where it lies between the infinities.
use mathlib.Core.Path.{◌≡◌, refl}
use mathlib.Core.Bool.{true, false, ◌&&◌}
use lib.Ieee.{Float, nan, inf, fin, neg, lt}
use Rattle.numbers.specs.Tests.{finite_of}

pub between : (x : Float) → (lt x (inf false) && lt (neg (inf false)) x) ≡ finite_of x
unfolding lt neg finite_of
between nan = refl
between (inf true) = refl
between (inf false) = refl
between (fin s m e) = refl
