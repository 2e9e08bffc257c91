-- `line_at` meets its contract: the bytes from `at` up to `i` are a line begun.
use mathlib.Core.Path.{◌≡◌}
use lib.ListN.{drop}
use Rattle.line_cut.specs.Lines.{lines_from, lines_of}
use Rattle.line_cut.proofs.Laws.{between}
use Rattle.line_cut.proofs.line_at.Given as goal

abbrev pub invariant-loop-i : goal.invariant-loop-i
invariant-loop-i l = lines_from (drop l.i l.text) (between l.text l.at l.i) ≡ lines_of (drop l.at l.text)
