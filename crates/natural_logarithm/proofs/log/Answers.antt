-- `natural_logarithm::log` meets its contract. Assumes nothing.
use mathlib.Core.Path.{◌≡◌, sym, ◌∙◌, subst}
use mathlib.Core.Bool.{Bool, false, not}
use lib.Dec.{T}
use lib.Ieee.{Float, inf, binary64, of_bits, nan_bits, mul, div, neg, lt, eq, is_nan}
use Rattle.fixed_point.specs.Float.{nought, lift}
use Rattle.fixed_point.proofs.Rounded.{lifted_no_nan}
use Rattle.natural_logarithm.proofs.LogCases.{Usual, usual, Faded, faded, zeroes, log_else, log_zero, log_infinite, log_one, log_tiny, log_bits}
use Rattle.natural_logarithm.proofs.log.Lts as lts
use Rattle.natural_logarithm.proofs.log.Tie as tie
use Rattle.natural_logarithm.proofs.log.Reads as reads
use Rattle.natural_logarithm.proofs.log.Goals as goal

-- the facts known there
abbrev Else-x-2 : Type 0
Else-x-2 = lts.Else2 tie.the-claims reads.Pre reads.Post

-- the facts known there
abbrev Else-x-4 : Type 0
Else-x-4 = lts.Else4 tie.the-claims reads.Pre reads.Post

-- the facts known there
abbrev Then-x : Type 0
Then-x = lts.Then1 tie.the-claims reads.Pre reads.Post

-- the facts known there
abbrev Then-x-4 : Type 0
Then-x-4 = lts.Then4 tie.the-claims reads.Pre reads.Post

-- ---- what each place's tests say
large : (c : Then-x) → Usual c.args.x
unfolding of_bits
large c = usual c.args.x c.if-x.true

not_infinite : (c : Else-x-2) → eq c.args.x (inf false) ≡ false
unfolding of_bits
not_infinite c = c.if-x-2.false

not_above : (c : Else-x-4) → lt nought c.args.x ≡ false
unfolding of_bits
not_above c = c.if-x-4.false

tail : (c : Then-x-4) → Faded c.args.x
unfolding of_bits
tail c = faded c.args.x c.if-x.false c.if-x-4.true

no : (x : Float) → is_nan x ≡ false → T (not (is_nan x))
no x e = subst (λ (b : Bool). T (not b)) (sym e) tt

-- ---- the needs
pub float_from_bits-t-4 : goal.float_from_bits-t-4
unfolding nan_bits
float_from_bits-t-4 c = tt

pub float_from_bits-t-6 : goal.float_from_bits-t-6
unfolding nan_bits
float_from_bits-t-6 c = tt

pub returns-then-x-2 : goal.returns-then-x-2
unfolding of_bits
returns-then-x-2 c =
    let u = large c.before in
    sym (log_infinite c.args.x u.number u.sign u.size c.if-x-2.true)

pub returns-then-x-3 : goal.returns-then-x-3
unfolding of_bits
returns-then-x-3 c =
    let u = large c.before.before in
    sym (log_one c.args.x u.number u.sign u.size (not_infinite c.before) c.if-x-3.true)

pub float_to_bits-b : goal.float_to_bits-b
float_to_bits-b c = no c.args.x (large c.before.before).number

pub returns-then-x : goal.returns-then-x
unfolding of_bits
returns-then-x c =
    let u = large c.before.before.before in
    c.digits.ensures ∙ sym (log_bits c.args.x u.number u.sign u.size (not_infinite c.before.before) c.if-x-3.false u.normal)

pub float_to_bits-b-then-x-4 : goal.float_to_bits-b-then-x-4
unfolding of_bits
float_to_bits-b-then-x-4 c =
    let x = c.args.x in
    no (mul binary64 x lift) (lifted_no_nan x (tail c).number)

pub returns-then-x-4 : goal.returns-then-x-4
unfolding of_bits
returns-then-x-4 c =
    let f = tail c.before in
    c.digits-then-x-4.ensures ∙ sym (log_tiny c.args.x f.number f.sign f.size f.finite f.other f.tail)

pub float_from_bits-result : goal.float_from_bits-result
unfolding nan_bits
float_from_bits-result c = tt

pub returns-then-x-5 : goal.returns-then-x-5
unfolding of_bits neg
returns-then-x-5 c =
    let x = c.args.x in
    let z = zeroes x c.if-x-5.true in
    sym (log_zero x z.0 z.1 c.if-x-5.true)

pub returns : goal.returns
unfolding of_bits div
returns c = sym (log_else c.args.x (not_above c.before) c.if-x-5.false)
