-- `put_end` meets its contract.
use mathlib.Core.Path.{◌∙◌}
use mir.Syntax.{w64}
use mir.Facts.{to_z_pos, to_z-of_z}
use native.Mathlib.Omega.{arith}
use Rattle.descent_orbits.proofs.Laws.{put_down}
use borrow.Author.Rules.{rules}
use Rattle.descent_orbits.proofs.put_end.Goals as goal

pub returns : goal.returns
returns c =
    let A = c.args in
    put_down A.end.now A.d.ending A.d.last A.d.taken _ _ _ c.requires.0 (to_z-of_z {w = w64} (search rules) ∙ c.ending_number.ensures)
    (to_z_pos w64 {n = A.d.last} (omega (arith, c.requires.1))) (to_z_pos w64 {n = A.d.taken} (omega (arith, c.requires.2)))
