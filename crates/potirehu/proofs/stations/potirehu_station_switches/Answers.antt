-- `potirehu_station_switches` meets its contract.
use Rattle.std.specs.Prelude.{Err}
use Rattle.host_record.specs.Record.{code_of}
use mathlib.Core.Path.{ap, ◌∙◌}
use Rattle.potirehu.proofs.Laws.{switches_no_whole, switches_no_numbers, switches_no_row, switches_done}
use Rattle.potirehu.proofs.stations.potirehu_station_switches.Goals as goal

pub returns-then-whole-ne27 : goal.returns-then-whole-ne27
returns-then-whole-ne27 c =
    let A = c.args in
    switches_no_whole A.switches.now A.whole.now A.numbers.now _ c.if-whole-ne27.true (c.code.ensures ∙ ap code_of (ap Err c.at.ensures))

pub returns-then-numbers-ne259 : goal.returns-then-numbers-ne259
returns-then-numbers-ne259 c =
    let A = c.args in
    switches_no_numbers A.switches.now A.whole.now A.numbers.now _ c.if-whole-ne27.false c.if-numbers-ne259.true (c.code-then-numbers-ne259.ensures ∙ ap code_of (ap Err c.at-then-numbers-ne259.ensures))

pub returns-then-switches-ne24 : goal.returns-then-switches-ne24
returns-then-switches-ne24 c =
    let A = c.args in
    switches_no_row A.switches.now A.whole.now A.numbers.now _ c.if-whole-ne27.false c.if-numbers-ne259.false c.if-switches-ne24.true (c.code-then-switches-ne24.ensures ∙ ap code_of (ap Err c.at-then-switches-ne24.ensures))

pub returns : goal.returns
returns c =
    let A = c.args in
    let s = c.change_switches-a in
    switches_done A.switches.now A.whole.now A.numbers.now c.if-whole-ne27.false c.if-numbers-ne259.false c.if-switches-ne24.false _ s.result c.switch_row-w.result _ _
    c.code-2.ensures s.ensures.0 s.ensures.1 s.ensures.2 c.switch_row-w.ensures
