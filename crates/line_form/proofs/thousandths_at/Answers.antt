-- `thousandths_at` meets its contract.
use mir.Syntax.{w32}
use mir.Facts.{to_z-of_z}
use lib.IntN.{pos}
use lib.ListN.{get_or}
use Rattle.line_form.specs.Grammar.{thousandths_of}
use Rattle.line_form.specs.Grammar.{thousandths_at}
use borrow.Author.Rules.{rules}
use Rattle.line_form.proofs.thousandths_at.Goals as goal

pub returns : goal.returns
unfolding thousandths_at thousandths_of
returns c =
    let A = c.args in
    simp (to_z-of_z {w = w32} {z = get_or A.r.values A.i (pos 0)} (search rules))
