-- `put_summit` meets its contract.
use mathlib.Core.Path.{sym, ◌∙◌}
use mathlib.Core.Bool.{false≢true}
use Rattle.atmosphere.specs.Rows.{at_itself, summit_told}
use Rattle.stored.proofs.Laws.{no_summit, summit_row}
use Rattle.stored.proofs.put_summit.Goals as goal

pub returns-then-not-on : goal.returns-then-not-on
returns-then-not-on c =
    let A = c.args in
    (no_summit A.on A.sw A.x A.l _ c.if-not-on.true-raw c.put_row.ensures, λ e. absurd (false≢true (sym c.unknown.ensures ∙ e)))

pub row_above-a-requires : goal.row_above-a-requires
row_above-a-requires c = at_itself

pub returns : goal.returns
returns c =
    let A = c.args in (
      summit_row A.on A.sw A.x A.l _ c.if-not-on.false-raw (c.put_row-2.ensures ∙ c.row_above-a.ensures.0),
      λ e. summit_told A.sw A.x A.l c.row_above-a.result.row c.row_above-a.result.dm28 c.row_above-a.ensures.0 c.row_above-a.ensures.1,
    )
