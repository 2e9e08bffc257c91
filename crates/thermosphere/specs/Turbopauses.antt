-- The turbopauses that gts7's species read, each a place where its species is mixed.
use Rattle.numbers.specs.Arithmetic.{◌‼◌}
use Rattle.mixing_limits.specs.Limits.{oxygens_mixed}
use Rattle.mixing_limits.specs.declared.Mixed.{Mixed}
use Rattle.profile.specs.declared.unchecked.Shape.{Shape}
use Rattle.species.specs.Places.{Turbopause}
use Rattle.tables.specs.Tables.{pdm_t0, pdm_t1, pdm_t5}
use Rattle.thermosphere.specs.declared.Turbopauses.{Turbopauses}

abbrev pub Apart : Mixed → Shape → Turbopauses → Type 0
Apart m h w =
    (Turbopause h m.he (pdm_t0 ‼ 2) w.he)
    × (Turbopause h (oxygens_mixed m) (pdm_t1 ‼ 2) w.o)
    × (Turbopause h m.h (pdm_t5 ‼ 2) w.h)
