-- `temperature` meets its contract.
use mathlib.Core.Path.{◌∙◌, sym, ap}
use Rattle.places.specs.declared.place.Place.{Place}
use Rattle.species.specs.Species.{temperature_of}
use Rattle.species.proofs.Laws.{spine_needs, temperature_law, place_has}
use Rattle.species.proofs.temperature.Goals as goal

pub returns-then-same : goal.returns-then-same
returns-then-same c =
    ap (λ (p : Place). p.tz) c.requires.1 ∙ place_has c.args.h c.args.z ∙ ap (temperature_of c.args.h) (sym (c.same.ensures c.if-same.true))

pub temperature_of-requires : goal.temperature_of-requires
temperature_of-requires c =
    spine_needs c.args.h c.args.s _ _ c.requires.0 c.ptm-m.ensures c.zn1-zn.ensures

pub returns : goal.returns
returns c = let A = c.args in
    temperature_law A.h A.r _ _ _ c.temperature_of.ensures c.ptm-m.ensures c.zn1-zn.ensures
