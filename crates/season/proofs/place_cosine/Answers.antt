-- `place_cosine` meets its contract.
use Rattle.season.proofs.Laws.{of_phase_zero, of_a_phase}
use Rattle.season.proofs.place_cosine.Goals as goal

pub returns-then-plus_zero : goal.returns-then-plus_zero
returns-then-plus_zero c =
    of_phase_zero c.args.doy c.args.i c.season_phase-x.result _ _ _
    c.pick.ensures c.requires.1 c.requires.2 (c.plus_zero.ensures.0 c.if-plus_zero.true) c.season_phase-x.ensures

pub returns : goal.returns
returns c =
    of_a_phase c.args.doy c.args.i c.season_phase-x.result c.pick-2.result _
    c.cos.ensures c.pick-2.ensures c.season_phase-x.ensures
