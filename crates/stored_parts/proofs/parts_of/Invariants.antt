-- `parts_of` meets its contract: the parts that the altitudes so far read are counted in.
use mathlib.Core.Path.{◌≡◌}
use lib.ListN.{drop}
use Rattle.stored_parts.specs.Parts.{no_parts, parts_from}
use Rattle.stored_parts.proofs.parts_of.Given as goal

abbrev pub invariant-loop-alt : goal.invariant-loop-alt
invariant-loop-alt l = parts_from l.p (drop l.alt-index l.alts) ≡ parts_from no_parts l.alts
