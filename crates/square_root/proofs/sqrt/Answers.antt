-- `square_root::sqrt` meets its contract. Assumes nothing.
use mathlib.Core.Path.{◌≡◌, sym, ◌∙◌, subst}
use mathlib.Core.Bool.{Bool, false, not}
use lib.Dec.{T, lit≤}
use lib.Ieee.{Float, binary64, inf, of_bits, nan_bits, mul, div, lt, eq, is_nan}
use lib.Ieee.Compare.{differs_from_itself}
use Rattle.fixed_point.specs.Float.{nought, lift}
use Rattle.fixed_point.proofs.Rounded.{lifted_no_nan}
use Rattle.fixed_point.proofs.Range.{is_nan_lem}
use Rattle.square_root.proofs.RootCases.{sqrt_nan, sqrt_negative, sqrt_zero, sqrt_infinite, sqrt_tiny, sqrt_normal}
use Rattle.square_root.proofs.sqrt.Lts as lts
use Rattle.square_root.proofs.sqrt.Tie as tie
use Rattle.square_root.proofs.sqrt.Reads as reads
use Rattle.square_root.proofs.sqrt.Goals as goal

-- the facts known there
abbrev Else-x : Type 0
Else-x = lts.Else1 tie.the-claims reads.Pre reads.Post

-- the facts known there
abbrev Else-x-2 : Type 0
Else-x-2 = lts.Else2 tie.the-claims reads.Pre reads.Post

no_nan : (c : Else-x) → is_nan c.before.args.x ≡ false
no_nan c = is_nan_lem c.args.x c.if-x.false

not_negative : (c : Else-x-2) → lt c.before.before.args.x nought ≡ false
unfolding of_bits
not_negative c = c.if-x-2.false

not_zero : (c : goal.Else-x-3) → eq c.before.before.before.args.x nought ≡ false
unfolding of_bits
not_zero c = c.if-x-3.false

not_infinite : (c : goal.Else-x-4) → eq c.before.before.before.before.args.x (inf false) ≡ false
unfolding of_bits
not_infinite c = c.if-x-4.false

no : (x : Float) → is_nan x ≡ false → T (not (is_nan x))
no x e = subst (λ (b : Bool). T (not b)) (sym e) tt

pub returns-then-x : goal.returns-then-x
returns-then-x c = let e = differs_from_itself c.args.x (subst T (sym c.if-x.true) tt) in e ∙ sym (sqrt_nan c.args.x e)

pub returns-then-x-2 : goal.returns-then-x-2
unfolding of_bits div
returns-then-x-2 c = sym (sqrt_negative c.args.x (no_nan c.before) c.if-x-2.true)

pub returns-then-x-3 : goal.returns-then-x-3
unfolding of_bits
returns-then-x-3 c = sym (sqrt_zero c.args.x (no_nan c.before.before) (not_negative c.before) c.if-x-3.true)

pub float_from_bits-t-3 : goal.float_from_bits-t-3
unfolding nan_bits
float_from_bits-t-3 c = tt

pub returns-then-x-4 : goal.returns-then-x-4
unfolding of_bits
returns-then-x-4 c = sym (sqrt_infinite c.args.x (no_nan c.before.before.before) (not_negative c.before.before) (not_zero c.before) c.if-x-4.true)

pub float_from_bits-t-3-2 : goal.float_from_bits-t-3-2
unfolding nan_bits
float_from_bits-t-3-2 c = tt

pub root-requires : goal.root-requires
unfolding of_bits
root-requires c =
    let x = c.args.x in
    (no (mul binary64 x lift) (lifted_no_nan x (no_nan c.before.before.before.before)), lit≤ {m = 27} {n = 27} tt)

pub returns-then-x-5 : goal.returns-then-x-5
unfolding of_bits
returns-then-x-5 c =
    c.root.ensures ∙ sym (sqrt_tiny c.args.x (no_nan c.before.before.before.before.before) (not_negative c.before.before.before.before) (not_zero c.before.before.before) (not_infinite c.before.before) c.if-x-5.true)

pub root-requires-2 : goal.root-requires-2
root-requires-2 c =
    let x = c.args.x in
    (no x (no_nan c.before.before.before.before), lit≤ {m = 0} {n = 27} tt)

pub returns : goal.returns
unfolding of_bits
returns c =
    c.root-2.ensures ∙ sym (sqrt_normal c.args.x (no_nan c.before.before.before.before.before) (not_negative c.before.before.before.before) (not_zero c.before.before.before) (not_infinite c.before.before) c.if-x-5.false)
