-- `fill_places` meets its contract: at each turn the rest of the filling gives the whole.
use Prim.Native.Nat.{◌-◌}
use mathlib.Core.Path.{◌≡◌}
use Rattle.setting.specs.Switches.{filled}
use Rattle.season.specs.Season.{place_cosine}
use Rattle.season.proofs.fill_places.Given as goal

abbrev pub invariant-loop-i : goal.invariant-loop-i
invariant-loop-i l =
    filled (l.end - l.i) (place_cosine l.doy) l.i l.s ≡ filled (l.end - l.first) (place_cosine l.doy) l.first l.initial.s
