-- `line_at` meets its contract: the bytes from `at` up to `i` are a line begun.
use mathlib.Core.Path.{◌≡◌, refl, sym, ◌∙◌}
use lib.ListN.{length}
use native.Mathlib.Omega.{arith}
use borrow.Author.Rules.{rules}
use Rattle.line_cut.proofs.Laws.{walk_first, walk_more, walk_ended, walk_last}
use Rattle.line_cut.proofs.line_at.Goals as goal

pub loop-i-init : goal.loop-i-init
loop-i-init c = walk_first c.args.text.now c.args.at

pub returns-then-text-i-eq10 : goal.returns-then-text-i-eq10
returns-then-text-i-eq10 c =
    let at = c.loop-i in
    record {
      begins = search rules;
      ends = search rules;
      later = search rules;
      inside = search rules;
      lines = sym at.invariant ∙ walk_ended _ _ _ at.auto.i (search rules) c.if-text-i-eq10.true;
    }

pub loop-i-preserved : goal.loop-i-preserved
loop-i-preserved c =
    let at = c.loop-i in
    walk_more _ _ _ at.auto.i (search rules) c.if-text-i-eq10.false ∙ at.invariant

pub returns : goal.returns
returns c =
    let at = c.loop-i in
    let e : at.i ≡ length c.args.text.now = omega arith in
    record {
      begins = search rules;
      ends = search rules;
      later = search rules;
      inside = search rules;
      lines = sym (rw e at at.invariant) ∙ walk_last _ _ _ c.requires refl;
    }
