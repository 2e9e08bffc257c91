-- Which species are mixed at z: switch 15 is on, and z does not lie above the altitude at which the species' mixing ends (altl of gts7).
use Rattle.std.specs.Prelude.{Bool, ◌&&◌, ◌||◌, Float}
use Rattle.std.specs.Float.Ieee.{lt, le, ne}
use Rattle.numbers.specs.Literals.{0·0}
use Rattle.parameters.specs.declared.Parameters.{Parameters}
use Rattle.mixing_limits.specs.declared.Mixed.{Mixed}

-- helium strictly below its altitude, the others at or below theirs
unfoldable pub mixed_at : Parameters → Float → Float → Mixed
mixed_at c sw15 z =
    record {
      he = ne sw15 0·0 && lt z c.he;
      o = ne sw15 0·0 && le z c.o;
      n2 = ne sw15 0·0 && le z c.n2;
      o2 = ne sw15 0·0 && le z c.o2;
      ar = ne sw15 0·0 && le z c.ar;
      h = ne sw15 0·0 && le z c.h;
      n = ne sw15 0·0 && le z c.n;
    }

-- O, O2, argon or N, whose turbopauses are one altitude
unfoldable pub oxygens_mixed : Mixed → Bool
oxygens_mixed m = m.o || (m.o2 || (m.ar || m.n))

-- any of the seven
unfoldable pub some_mixed : Mixed → Bool
some_mixed m = m.he || (m.n2 || (m.h || oxygens_mixed m))
