-- `place_at` meets its contract.
use Rattle.species.proofs.Laws.{spine_needs}
use Rattle.species.proofs.place_at.Goals as goal

pub place_of-requires : goal.place_of-requires
place_of-requires c =
    spine_needs c.args.h c.args.s _ _ c.requires c.ptm-m.ensures c.zn1-zn.ensures

pub returns : goal.returns
returns c = simp (← c.place_of.ensures, ← c.zn1-zn.ensures, ← c.ptm-m.ensures)
