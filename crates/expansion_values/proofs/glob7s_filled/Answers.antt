-- `glob7s_filled` meets its contract: at each turn the rest of the filling gives the list up to the last set that is needed.
use Prim.Native.Nat.{ℕ}
use mathlib.Core.Path.{◌∙◌, sym, ap}
use native.Mathlib.Nat.{le_of_eq, sub-zero}
use borrow.Author.Rules.{rules}
use lib.ListN.{replicate}
use Rattle.numbers.specs.Literals.{0·0}
use Rattle.setting.specs.Switches.{filled}
use Rattle.setting.proofs.Fill.{filled_more, filled_done}
use Rattle.expansion_values.specs.Sets.{glob7s_at_given}
use Rattle.season.proofs.Filled.{end_most}
use Rattle.expansion_values.proofs.Laws.{glob7s_length, glob7s_to_end}
use Rattle.expansion_values.proofs.glob7s_filled.Goals as goal

pub loop-k-init : goal.loop-k-init
loop-k-init c =
    let A = c.args in (
      rw c.requires.0 (end_most A.n),
      ap (λ (m : ℕ). filled m (glob7s_at_given A.n A.v A.g A.c3 A.c8 A.s.now) 0 (replicate 14 0·0)) (sub-zero A.end),
    )

pub slice_bounds-glob7s_at-end : goal.slice_bounds-glob7s_at-end
slice_bounds-glob7s_at-end c = search (rules, glob7s_length _ _ c.put_glob7s_set.ensures)

pub glob7s_at-requires : goal.glob7s_at-requires
glob7s_at-requires c =
    let e = c.put_glob7s_set.ensures in
    (le_of_eq (sym (glob7s_length _ _ e)), c.requires.1, e, search rules, c.requires.2)

pub loop-k-preserved : goal.loop-k-preserved
loop-k-preserved c =
    let l = c.loop-k in
    let A = c.args in (
      l.invariant.0,
      rw (c.glob7s_at.ensures, c.glob7s_needed-on.ensures) (filled_more A.end (glob7s_at_given A.n A.v A.g A.c3 A.c8 A.s.now) l.k l.x (search rules) ∙ l.invariant.1),
    )

pub returns : goal.returns
returns c =
    let l = c.loop-k in
    let A = c.args in
    let f = glob7s_at_given A.n A.v A.g A.c3 A.c8 A.s.now in
    sym (filled_done A.end f l.k l.x (search rules)) ∙ l.invariant.1
    ∙ ap (λ (m : ℕ). filled m f 0 (replicate 14 0·0)) c.requires.0 ∙ glob7s_to_end A.n A.v A.g A.c3 A.c8 A.s.now
