-- `millimetres` meets its contract.
use mir.Syntax.{w64}
use mir.Facts.{to_z-of_z}
use native.Mathlib.Omega.{arith}
use borrow.Author.Rules.{rules}
use Rattle.descent_orbits.proofs.Laws.{started}
use Rattle.descent_orbits.proofs.millimetres.Goals as goal

pub overflow_cast-result : goal.overflow_cast-result
overflow_cast-result c =
    let s = started _ c.args.start (to_z-of_z {w = w64} {z = c.args.start} (search rules)) c.requires in
    (s.sign, record { fits = omega (arith, s.size, s.most) })

pub returns : goal.returns
returns c = (started _ c.args.start (to_z-of_z {w = w64} {z = c.args.start} (search rules)) c.requires).size
