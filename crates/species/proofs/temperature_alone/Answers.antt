-- `temperature_alone` meets its contract.
use mathlib.Core.Path.{◌∙◌, sym, ap}
use lib.Ieee.{Float}
use Rattle.places.specs.declared.place.Place.{Place}
use Rattle.species.specs.Places.{place_at}
use Rattle.species.proofs.temperature_alone.Goals as goal

pub returns-then-same : goal.returns-then-same
returns-then-same c =
    ap (λ (p : Place). p.tz) c.requires ∙ ap (λ (x : Float). (place_at c.args.h x).tz) (sym (c.same.ensures c.if-same.true))

pub returns : goal.returns
returns c = ap (λ (p : Place). p.tz) c.place_alone_at-w.ensures
