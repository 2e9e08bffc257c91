-- `flown` meets its contract.
use mathlib.Core.Path.{refl, ap, ◌∙◌}
use mir.Syntax.{w64}
use mir.Facts.{to_z-of_z}
use native.Mathlib.Omega.{arith}
use borrow.Author.Rules.{rules}
use Rattle.descent_orbits.specs.DescentOrbits.{start_within, millimetres_of}
use Rattle.descent_orbits.proofs.Laws.{started}
use Rattle.descent.proofs.Laws.{flown_told}
use Rattle.descent.proofs.flown.Goals as goal

pub millimetres-a-requires : goal.millimetres-a-requires
millimetres-a-requires c =
    ap start_within (to_z-of_z {w = w64} {z = c.args.start} (search rules)) ∙ c.requires.1

pub orbits-requires : goal.orbits-requires
orbits-requires c =
    let z = to_z-of_z {w = w64} {z = c.args.start} (search rules) in
    let k = started _ c.args.start z c.requires.1 in
    let e = c.millimetres-a.ensures ∙ ap millimetres_of z in
    (omega (arith, e, k.least), omega (arith, e, k.most), c.requires.2)

pub returns : goal.returns
returns c =
    let A = c.args in
    flown_told A.w A.n (search rules) c.values.ensures.1 c.requires.0 _ _ _ _ A.start _ _ A.settings.now A.losses.now _ _ refl refl
    c.prepare.ensures.1 c.prepare.ensures.2 (search rules) (search rules) c.millimetres-a.ensures
    (to_z-of_z {w = w64} {z = A.start} (search rules)) c.requires.1 c.orbits.ensures
