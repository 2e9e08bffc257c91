-- `rest_of` meets its contract.
use mathlib.Core.Path.{◌≡◌, sym, ap, ◌∙◌, subst}
use mathlib.Core.Bool.{Bool, true, false, not}
use Prim.Native.Nat.{ℕ, ◌*◌, ◌/◌, ◌^◌, ◌≤◌, ◌<◌}
use native.Mathlib.Omega.{arith}
use native.Mathlib.Nat.{add-zero, lt_of_le_of_lt}
use lib.Dec.{T, lit≤, lit<}
use lib.Ieee.{binary64, fits, to_bits}
use lib.Ieee.Bits.{to_bits-lt}
use lib.Ieee.Scale.{finite}
use Rattle.fixed_point.specs.Fixed.{scaled_of}
use Rattle.fixed_point.specs.Float.{Within, over, minus_sign}
use Rattle.fixed_point.proofs.Bits.{over_true, over_false, over_within, sign_is}
use Rattle.fixed_point.proofs.Range.{between, plus_within, within_finite, within_scaled}
use Rattle.natural_exponential.specs.Exp.{times_of, exp_reduced, exp_of}
use Rattle.natural_exponential.proofs.Cases.{exp_reduced_lem, exp_inside}
use Rattle.natural_exponential.proofs.rest_of.Lts as lts
use Rattle.natural_exponential.proofs.rest_of.Tie as tie
use Rattle.natural_exponential.proofs.rest_of.Reads as reads
use Rattle.natural_exponential.proofs.rest_of.Goals as goal

-- the facts known there
abbrev Then-b-gt4607182418800017408 : Type 0
Then-b-gt4607182418800017408 = lts.Then1 tie.the-claims reads.Pre reads.Post

-- ---- what the argument's range says
held : (c : goal.Start) → T (fits binary64 c.args.x)
held c = subst T (sym c.well_formed.0.1) tt

in_reach : (c : goal.Start) → Within c.args.x 745
in_reach c = between 709 0 745 0 745 c.args.x c.requires.0 c.requires.1 c.requires.2 (lit≤ {m = 709} {n = 745} tt) (lit≤ {m = 745} {n = 745} tt)

reach_finite : (c : goal.Start) → T (finite c.args.x)
reach_finite c = within_finite c.args.x 745 (in_reach c)

scaled_in_reach : (c : goal.Start) → scaled_of 53 c.args.x ≤ 745 * 2 ^ 53
scaled_in_reach c = within_scaled 53 745 c.args.x (in_reach c)

scaled_asked : (c : goal.Start) → T (finite c.args.x) × (53 ≤ 62) × (scaled_of 53 c.args.x < 2 ^ 63)
scaled_asked c = (reach_finite c, lit≤ {m = 53} {n = 62} tt, lt_of_le_of_lt (scaled_in_reach c) (lit< {m = 745 * 2 ^ 53} {n = 2 ^ 63} tt))

sign : (c : goal.Start) → to_bits binary64 c.args.x / 2 ^ 63 ≡ minus_sign c.args.x
sign c = sign_is c.args.x (held c) (reach_finite c)

beyond : (c : Then-b-gt4607182418800017408) → over 1 c.before.args.x ≡ true
beyond c = over_true 0 c.args.x (held c.before) c.if-b-gt4607182418800017408.true

plus : (c : goal.Then-b-lt9223372036854775808) → minus_sign c.before.before.args.x ≡ 0
plus c =
    sym (sign c.before.before) ∙ none (to_bits binary64 c.args.x) c.if-b-lt9223372036854775808.true
  where
    none : (b : ℕ) → b < 2 ^ 63 → b / 2 ^ 63 ≡ 0
    none b h = omega arith

minus : (c : goal.Else-b-lt9223372036854775808) → minus_sign c.before.before.args.x ≡ 1
minus c =
    sym (sign c.before.before) ∙ one (to_bits binary64 c.args.x) (to_bits-lt binary64 c.args.x (held c.before.before)) c.if-b-lt9223372036854775808.false
  where
    one : (b : ℕ) → b < 2 * 2 ^ 63 → 2 ^ 63 ≤ b → b / 2 ^ 63 ≡ 1
    one b h k = omega arith

-- the definition's case beyond 1, at the sign s
case : (c : Then-b-gt4607182418800017408) (s : ℕ) → minus_sign c.before.args.x ≡ s → exp_of c.before.args.x ≡ exp_reduced s (scaled_of 53 c.before.args.x)
case c s g =
    let x = c.args.x in
    exp_reduced_lem x c.requires.0 c.requires.1 c.requires.2 (beyond c) ∙ ap (λ (z : ℕ). exp_reduced z (scaled_of 53 x)) g

inside : (c : goal.Else-b-gt4607182418800017408) → over 1 c.before.args.x ≡ false
inside c = over_false 0 (lit≤ {m = 0} {n = 1000} tt) c.args.x (held c.before) c.requires.0 c.if-b-gt4607182418800017408.false

in_one : (c : goal.Else-b-gt4607182418800017408) → Within c.before.args.x 1
in_one c = over_within 1 c.args.x (inside c)

-- ---- the needs
pub float_to_bits-b : goal.float_to_bits-b
float_to_bits-b c = subst (λ (b : Bool). T (not b)) (sym c.requires.0) tt

pub scaled-requires : goal.scaled-requires
scaled-requires c = scaled_asked c.before.before

pub risen-requires : goal.risen-requires
risen-requires c =
    let x = c.args.x in
    subst (λ (n : ℕ). n ≤ 709 * 2 ^ 53) (sym c.scaled.ensures) (within_scaled 53 709 x (plus_within 709 0 x (reach_finite c.before.before.before) (plus c.before) c.requires.1))

pub returns-then-b-lt9223372036854775808 : goal.returns-then-b-lt9223372036854775808
returns-then-b-lt9223372036854775808 c =
    let e = case c.before.before.before 0 (plus c.before.before) in
    let z = add-zero (times_of c.scaled.result) in
    let k = c.risen.ensures in
    (cc (e, z, k.0, k.1), k.2, k.3, k.4)

pub scaled-requires-then-b-gt4607182418800017408 : goal.scaled-requires-then-b-gt4607182418800017408
scaled-requires-then-b-gt4607182418800017408 c = scaled_asked c.before.before

pub fallen-requires : goal.fallen-requires
fallen-requires c = subst (λ (n : ℕ). n ≤ 745 * 2 ^ 53) (sym c.scaled-then-b-gt4607182418800017408.ensures) (scaled_in_reach c.before.before.before)

pub returns-then-b-gt4607182418800017408 : goal.returns-then-b-gt4607182418800017408
returns-then-b-gt4607182418800017408 c =
    let e = case c.before.before.before 1 (minus c.before.before) in
    let k = c.fallen.ensures in
    (cc (e, k.0, k.1), k.2, k.3, k.4)

pub scaled-requires-2 : goal.scaled-requires-2
scaled-requires-2 c =
    let x = c.args.x in
    (within_finite x 1 (in_one c), lit≤ {m = 58} {n = 62} tt, lt_of_le_of_lt (within_scaled 58 1 x (in_one c)) (lit< {m = 1 * 2 ^ 58} {n = 2 ^ 63} tt))

pub near-requires : goal.near-requires
near-requires c = subst (λ (n : ℕ). n ≤ 1 * 2 ^ 58) (sym c.scaled-2.ensures) (within_scaled 58 1 c.args.x (in_one c.before))

pub returns : goal.returns
returns c =
    let e = exp_inside c.args.x c.requires.0 c.requires.1 c.requires.2 (inside c.before.before) in
    let g = sign c.before.before.before in
    let k = c.near.ensures in
    (cc (e, g, k.0, k.1), k.2, k.3, k.4)
