-- `first` meets its contract: no altitude before the one with the index k is thin enough, the row is as it was, and what is there of the numbers serves.
use mathlib.Core.Path.{◌≡◌, refl, sym, ◌∙◌}
use mathlib.Core.Logic.{⊎_elim}
use mathlib.Core.Bool.{true}
use mathlib.Core.List.{List}
use Prim.Native.Nat.{ℕ, ◌-◌}
use native.Mathlib.Omega.{arith}
use borrow.Author.Rules.{rules}
use lib.IntN.{ℤ}
use lib.ListN.{length}
use lib.Ieee.{Float}
use Rattle.numbers.specs.Arithmetic.{◌‼◌}
use Rattle.setting.specs.declared.Input.{Input}
use Rattle.stored_parts.specs.declared.Parts.{Parts}
use Rattle.stored_parts.specs.Parts.{serves_of}
use Rattle.first_below.specs.FirstBelow.{first_of}
use Rattle.first_below.proofs.Laws.{Served, nothing_served, effect_of, row_is, grown_is, stayed_is, at_most, start, thin, thick, none_left}
use Rattle.first_below.proofs.first.Lts as lts
use Rattle.first_below.proofs.first.Tie as tie
use Rattle.first_below.proofs.first.Reads as reads
use Rattle.first_below.proofs.first.Goals as goal
use Rattle.first_below.proofs.first.Goals.{then-not-serves, else-not-serves}

-- the facts known there
abbrev Joined-not-serves : Type 0
Joined-not-serves = lts.Joined1 tie.the-claims reads.Pre reads.Post goal.the-invariant-loop-k goal.the-decreases-loop-k

-- Behind the test of whether the parts serve, whichever way was taken: they do, and the numbers are as many as they were.
abbrev There : List ℤ → Input → List Float → ℕ → Parts → List Float → Type 0
There w n alts k h xs = Served w n h xs × (serves_of h (alts ‼ k) ≡ true) × (length xs ≡ 234)

there_is : (c : Joined-not-serves) → There c.args.w c.args.n c.args.alts.now c.loop-k.k c.if-not-serves.there c.if-not-serves.numbers
there_is c =
    let A = c.args in
    let at = c.loop-k in
    elim c.if-not-serves.branch [
      | then-not-serves w ↦
          grown_is A.w A.n at.there _ at.numbers at.invariant.3 at.invariant.6 c.if-not-serves.there c.if-not-serves.numbers
          (w.there-is ∙ w.grown-there.ensures.0) (w.numbers-is ∙ w.grown-there.ensures.1)
      | else-not-serves w ↦
          stayed_is A.w A.n at.there _ at.numbers at.invariant.3 at.invariant.6 c.serves.result c.serves.ensures w.if-not-serves.false-raw
          c.if-not-serves.there c.if-not-serves.numbers w.there-is w.numbers-is
    ]

pub loop-k-init : goal.loop-k-init
loop-k-init c =
    let flags = c.tselec-f in
    let A = c.args in
    (refl, c.requires.0, refl, refl, effect_of A.w A.n flags.result 0 flags.ensures, effect_of A.w A.n flags.result 15 flags.ensures, nothing_served A.w A.n c.no_parts-there.result _ c.no_parts-there.ensures, start A.w A.n A.alts.now A.level)

pub slice_bounds-row_on-end : goal.slice_bounds-row_on-end
slice_bounds-row_on-end c = sym (there_is c.before.before).2

pub row_on-requires : goal.row_on-requires
row_on-requires c = ((there_is c.before.before.before).2, c.loop-k.invariant.0)

pub returns-then-taken : goal.returns-then-taken
unfolding first_of
returns-then-taken c =
    let t = c.taken in
    let row = c.row_on in
    let at = c.loop-k in
    let first = c in
    let A = first.args in
    let there = there_is c.before.before.before.before.before.before.before.before.before.before.before in
    let r = row_is A.w A.n c.if-not-serves.there _ c.if-not-serves.numbers _ _ _ there.0 (at_most 0 A.alts.now _ first.requires.1 (omega arith)) there.1 at.invariant.4 at.invariant.5 row.ensures in
    thin A.w A.n A.alts.now A.level _ at.k (search rules) r
    t.result t.ensures.0 at.row _ t.ensures.1 at.invariant.7 c.if-taken.true

pub loop-k-preserved : goal.loop-k-preserved
loop-k-preserved c =
    let t = c.taken in
    let row = c.row_on in
    let at = c.loop-k in
    let first = c in
    let A = first.args in
    let there = there_is c.before.before.before.before.before.before.before.before.before.before.before in
    let r = row_is A.w A.n c.if-not-serves.there _ c.if-not-serves.numbers _ _ _ there.0 (at_most 0 A.alts.now _ first.requires.1 (omega arith)) there.1 at.invariant.4 at.invariant.5 row.ensures in
    let s =
    thick A.w A.n A.alts.now A.level _ at.k (search rules) r
    t.result t.ensures.0 at.row _ t.ensures.1 at.invariant.7 c.if-taken.false in
    (search rules, search rules, s.0 ∙ at.invariant.2, there.2, at.invariant.4, at.invariant.5, there.0, s.1)

pub returns : goal.returns
unfolding first_of
returns c =
    let at = c.loop-k in
    (none_left _ _ (length c.args.alts.now - at.k) at.k (omega arith) ∙ at.invariant.7, at.invariant.2)
