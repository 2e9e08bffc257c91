-- `exp` meets its contract.
use mathlib.Core.Path.{◌≡◌, sym, ◌∙◌, subst}
use mathlib.Core.Bool.{false}
use borrow.Author.Tests.{not-true, not-false}
use lib.Dec.{T}
use lib.Ieee.{of_bits, neg, nan_bits, is_nan, lt}
use lib.Ieee.Compare.{differs_from_itself}
use Rattle.fixed_point.proofs.Range.{is_nan_lem, at_most, at_least, at_least_no_nan}
use Rattle.natural_exponential.specs.Exp.{most, least}
use Rattle.natural_exponential.proofs.Cases.{exp_nan, exp_most, exp_least, least_most}
use Rattle.natural_exponential.proofs.exp.Lts as lts
use Rattle.natural_exponential.proofs.exp.Tie as tie
use Rattle.natural_exponential.proofs.exp.Reads as reads
use Rattle.natural_exponential.proofs.exp.Goals as goal

-- the facts known there
abbrev Then-x : Type 0
Then-x = lts.Then1 tie.the-claims reads.Pre reads.Post

-- ---- what each place's tests say
no_nan : (c : Then-x) → is_nan c.before.args.x ≡ false
unfolding of_bits neg
no_nan c = at_least_no_nan 745 0 c.args.x c.if-x.true

not_least : (c : Then-x) → lt c.before.args.x least ≡ false
unfolding of_bits neg
not_least c = not-true (lt c.args.x least) (sym (at_least 745 0 c.args.x (no_nan c)) ∙ c.if-x.true)

not_most : (c : goal.Then-x-2) → lt most c.before.before.args.x ≡ false
unfolding of_bits
not_most c = not-true (lt most c.args.x) (sym (at_most 709 0 c.args.x (no_nan c.before)) ∙ c.if-x-2.true)

-- ---- the needs
pub rest_of-r-requires : goal.rest_of-r-requires
rest_of-r-requires c = (no_nan c.before, not_most c, not_least c.before)

pub kernel-requires : goal.kernel-requires
kernel-requires c = c.rest_of-r.ensures.1

pub assembled-requires : goal.assembled-requires
assembled-requires c = (c.kernel.ensures.1, c.kernel.ensures.2, c.rest_of-r.ensures.2, c.rest_of-r.ensures.3)

pub returns-then-x-2 : goal.returns-then-x-2
returns-then-x-2 c = let e = c.rest_of-r.ensures.0 in let k = c.kernel.ensures.0 in cc (e, k)

pub float_from_bits-result : goal.float_from_bits-result
unfolding nan_bits
float_from_bits-result c = tt

pub returns-then-x : goal.returns-then-x
unfolding of_bits
returns-then-x c =
    let x = c.args.x in
    let n = no_nan c.before in
    sym (exp_most x n (not-false (lt most x) (sym (at_most 709 0 x n) ∙ c.if-x-2.false)))

pub returns-then-x-3 : goal.returns-then-x-3
returns-then-x-3 c = let e = differs_from_itself c.args.x (subst T (sym c.if-x-3.true) tt) in e ∙ sym (exp_nan c.args.x e)

pub returns : goal.returns
unfolding of_bits neg
returns c =
    let x = c.args.x in
    let n = is_nan_lem x c.if-x-3.false in
    let l = not-false (lt x least) (sym (at_least 745 0 x n) ∙ c.if-x.false) in
    sym (exp_least x n (least_most x l) l)
