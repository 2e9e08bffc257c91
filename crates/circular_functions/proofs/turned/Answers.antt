-- `circular_functions::turned` meets its contract. Assumes nothing.
use mathlib.Core.Path.{◌≡◌, sym, subst}
use mathlib.Core.Bool.{true, false}
use Prim.Native.Nat.{ℕ, ◌*◌, ◌^◌, ◌≤◌, ◌<◌}
use native.Mathlib.Omega.{arith}
use native.Mathlib.Nat.{lt_of_le_of_lt}
use lib.Dec.{T, lit≤, lit<}
use lib.Ieee.{Float, binary64, fits}
use lib.Ieee.Scale.{finite}
use Rattle.fixed_point.specs.Float.{Within, over}
use Rattle.fixed_point.specs.Fixed.{scaled_of}
use Rattle.fixed_point.proofs.Decode.{finite_no_nan}
use Rattle.fixed_point.proofs.Bits.{over_true, over_false, over_within}
use Rattle.fixed_point.proofs.Range.{within_finite, within_no_nan, within_scaled}
use Rattle.circular_functions.proofs.TrigCases.{turned_reduced, turned_near}
use Rattle.circular_functions.proofs.turned.Lts as lts
use Rattle.circular_functions.proofs.turned.Tie as tie
use Rattle.circular_functions.proofs.turned.Reads as reads
use Rattle.circular_functions.proofs.turned.Goals as goal

-- the facts known there
abbrev After-scaled-2 : Type 0
After-scaled-2 = lts.After-scaled2 tie.the-claims reads.Pre reads.Post

-- the facts known there
abbrev Else-b-gt4607182418800017408 : Type 0
Else-b-gt4607182418800017408 = lts.Else1 tie.the-claims reads.Pre reads.Post

-- the facts known there
abbrev Start : Type 0
Start = lts.Start tie.the-claims reads.Pre reads.Post

-- the facts known there
abbrev Then-b-gt4607182418800017408 : Type 0
Then-b-gt4607182418800017408 = lts.Then1 tie.the-claims reads.Pre reads.Post

held : (c : Start) → T (fits binary64 c.args.x)
held c = subst T (sym c.well_formed.0.1) tt

beyond : (c : Then-b-gt4607182418800017408) → over 1 c.args.x ≡ true
beyond c = over_true 0 c.args.x (held c.before) c.if-b-gt4607182418800017408.true

inside : (c : Else-b-gt4607182418800017408) → over 1 c.args.x ≡ false
inside c = over_false 0 (lit≤ {m = 0} {n = 1000} tt) c.args.x (held c.before) (within_no_nan c.args.x 65536 c.requires.0) c.if-b-gt4607182418800017408.false

in_one : (c : Else-b-gt4607182418800017408) → Within c.args.x 1
in_one c = over_within 1 c.args.x (inside c)

-- what `scaled` asks of a number within Q
reachable : (x : Float) (Q k : ℕ) → Within x Q → k ≤ 62 → Q * 2 ^ k < 2 ^ 63 → T (finite x) × (k ≤ 62) × (scaled_of k x < 2 ^ 63)
reachable x Q k h l g = (within_finite x Q h, l, lt_of_le_of_lt (within_scaled k Q x h) g)

reduced_in : (n : ℕ) (x : Float) → n ≡ scaled_of 46 x → Within x 65536 → n ≤ 65536 * 2 ^ 46
reduced_in n x e h = subst (λ (m : ℕ). m ≤ 65536 * 2 ^ 46) (sym e) (within_scaled 46 65536 x h)

-- the scaled argument is at most 1
small : (c : After-scaled-2) → c.scaled-2.result ≤ 1 * 2 ^ 58
small c = subst (λ (n : ℕ). n ≤ 1 * 2 ^ 58) (sym c.scaled-2.ensures) (within_scaled 58 1 c.args.x (in_one c.before))

pub float_to_bits-b : goal.float_to_bits-b
float_to_bits-b c = finite_no_nan c.args.x (within_finite c.args.x 65536 c.requires.0)

pub scaled-requires : goal.scaled-requires
scaled-requires c = reachable c.args.x 65536 46 c.requires.0 (lit≤ {m = 46} {n = 62} tt) (lit< {m = 65536 * 2 ^ 46} {n = 2 ^ 63} tt)

pub reduced-requires : goal.reduced-requires
reduced-requires c =
    (reduced_in c.scaled.result c.args.x c.scaled.ensures c.requires.0, c.requires.1)

pub returns-then-b-gt4607182418800017408 : goal.returns-then-b-gt4607182418800017408
returns-then-b-gt4607182418800017408 c =
    let e = turned_reduced c.args.x c.args.k (beyond c.before.before) in
    cc e

pub scaled-requires-2 : goal.scaled-requires-2
scaled-requires-2 c = reachable c.args.x 1 58 (in_one c) (lit≤ {m = 58} {n = 62} tt) (lit< {m = 1 * 2 ^ 58} {n = 2 ^ 63} tt)

pub overflow_add-scaled : goal.overflow_add-scaled
overflow_add-scaled c = omega (arith, small c)

pub sinusoid-requires : goal.sinusoid-requires
sinusoid-requires c = (omega (arith, c.requires.1), omega (arith, small c))

pub returns : goal.returns
returns c =
    let e = turned_near c.args.x c.args.k (inside c.before.before) in
    cc e
