-- `only_known` meets its contract.
use mathlib.Core.Path.{◌≡◌}
use mir.Syntax.{w32}
use mir.Val.{of_z, to_z}
use borrow.Author.Rules.{rules}
use Rattle.known_record.specs.KnownRecord.{only_known}
use Rattle.known_record.proofs.only_known.Lts as lts
use Rattle.known_record.proofs.only_known.Tie as tie
use Rattle.known_record.proofs.only_known.Reads as reads
use Rattle.known_record.proofs.only_known.Goals as goal

-- the facts known there
abbrev Start : Type 0
Start = lts.Start tie.the-claims reads.Pre reads.Post

year_given : (c : Start) → to_z w32 (of_z w32 c.args.n.year) ≡ c.args.n.year
year_given c = search rules

doy_given : (c : Start) → to_z w32 (of_z w32 c.args.n.doy) ≡ c.args.n.doy
doy_given c = search rules

pub returns : goal.returns
unfolding only_known
returns c =
    let year_fits : to_z w32 (of_z w32 c.whole_known.result) ≡ c.whole_known.result = search rules in
    let doy_fits : to_z w32 (of_z w32 c.whole_known-2.result) ≡ c.whole_known-2.result = search rules in
    rw (year_fits, doy_fits, c.float_known-8.ensures, c.float_known-7.ensures, c.float_known-6.ensures, c.float_known-5.ensures, c.float_known-4.ensures, c.float_known-3.ensures, c.float_known-2.ensures, c.float_known.ensures, c.whole_known-2.ensures, c.whole_known.ensures, year_given c.before.before.before.before.before.before.before.before.before.before.before.before.before, doy_given c.before.before.before.before.before.before.before.before.before.before.before.before.before)
