-- `glob7s_values` meets its contract.
use mathlib.Core.Path.{sym, ap, ap₂, ◌∙◌}
use Prim.Native.Nat.{ℕ}
use lib.ListN.{replicate}
use Rattle.numbers.specs.Literals.{0·0}
use Rattle.setting.specs.Switches.{filled}
use Rattle.tables.specs.Tables.{pd_t3, pd_t8}
use Rattle.expansion.specs.declared.Carried.{Carried}
use Rattle.expansion_values.specs.ExpansionValues.{active_of}
use Rattle.expansion_values.specs.Sets.{glob7s_at_given, glob7s_values_given}
use Rattle.expansion_values.specs.Activities.{in_pd3, in_pd8}
use Rattle.expansion_values.proofs.Laws.{after_set, glob7s_to_end}
use Rattle.expansion_values.proofs.glob7s_values.Goals as goal

-- no set is needed
pub returns-then-end-eq0 : goal.returns-then-end-eq0
unfolding filled
returns-then-end-eq0 c =
    let A = c.args in
    let c3 = active_of A.v pd_t3 A.c in
    let c8 = active_of A.v pd_t8 A.c7 in
    ap (λ (m : ℕ). filled m (glob7s_at_given A.n A.v A.g c3 c8 A.s.now) 0 (replicate 14 0·0)) (sym c.if-end-eq0.true ∙ c.glob7s_end-end.ensures)
    ∙ glob7s_to_end A.n A.v A.g c3 c8 A.s.now

pub glob7s_filled-requires : goal.glob7s_filled-requires
glob7s_filled-requires c = (c.glob7s_end-end.ensures, c.requires.0, c.requires.2)

pub returns : goal.returns
returns c =
    let A = c.args in
    c.glob7s_filled.ensures
    ∙ ap₂ (λ (x y : Carried). glob7s_values_given A.n A.v A.g x y A.s.now)
    (after_set A.v pd_t3 _ _ _ _ c.active-c3.ensures c.pd3-p3.ensures (c.requires.1 ∙ in_pd3 A.v))
    (after_set A.v pd_t8 _ _ _ _ c.active-c8.ensures c.pd8-p8.ensures (c.requires.1 ∙ in_pd8 A.v))
