-- `circular_functions::sin` meets its contract. Assumes nothing.
use mathlib.Core.Path.{◌≡◌, sym, ap, ◌∙◌, subst}
use mathlib.Core.Bool.{Bool, false, not}
use Prim.Native.Nat.{ℕ, ◌*◌, ◌/◌, ◌^◌, ◌≤◌, ◌<◌}
use native.Mathlib.Omega.{arith}
use lib.Dec.{T, lit≤}
use lib.Ieee.{Float, binary64, fits, of_bits, to_bits, div, is_nan}
use lib.Ieee.Bits.{to_bits-lt}
use lib.Ieee.Compare.{differs_from_itself}
use Rattle.fixed_point.specs.Float.{Within, over}
use Rattle.fixed_point.proofs.Bits.{over_true, over_false, over_within, sign_is}
use Rattle.fixed_point.proofs.Range.{is_nan_lem, within_finite}
use Rattle.circular_functions.specs.Trig.{circular_turned}
use Rattle.circular_functions.proofs.TrigCases.{sin_nan, sin_over, sin_inside}
use Rattle.circular_functions.proofs.sin.Lts as lts
use Rattle.circular_functions.proofs.sin.Tie as tie
use Rattle.circular_functions.proofs.sin.Reads as reads
use Rattle.circular_functions.proofs.sin.Goals as goal

-- the facts known there
abbrev Else-x : Type 0
Else-x = lts.Else1 tie.the-claims reads.Pre reads.Post

-- the facts known there
abbrev Else-b-gt4679240012837945344 : Type 0
Else-b-gt4679240012837945344 = lts.Else2 tie.the-claims reads.Pre reads.Post

-- the facts known there
abbrev Start : Type 0
Start = lts.Start tie.the-claims reads.Pre reads.Post

held : (c : Start) → T (fits binary64 c.args.x)
held c = subst T (sym c.well_formed.0.1) tt

no_nan : (c : Else-x) → is_nan c.args.x ≡ false
no_nan c = is_nan_lem c.args.x c.if-x.false

inside : (c : Else-b-gt4679240012837945344) → over 65536 c.args.x ≡ false
inside c = over_false 16 (lit≤ {m = 16} {n = 1000} tt) c.args.x (held c.before.before) (no_nan c.before) c.if-b-gt4679240012837945344.false

in_reach : (c : Else-b-gt4679240012837945344) → Within c.args.x 65536
in_reach c = over_within 65536 c.args.x (inside c)

sign_le : (x : Float) → T (fits binary64 x) → to_bits binary64 x / 2 ^ 63 * 2 ≤ 2
sign_le x h = less (to_bits binary64 x) (to_bits-lt binary64 x h)
  where
    less : (b : ℕ) → b < 2 * 2 ^ 63 → b / 2 ^ 63 * 2 ≤ 2
    less b h = omega arith

pub returns-then-x : goal.returns-then-x
returns-then-x c = let e = differs_from_itself c.args.x (subst T (sym c.if-x.true) tt) in e ∙ sym (sin_nan c.args.x e)

pub float_to_bits-b : goal.float_to_bits-b
float_to_bits-b c = subst (λ (b : Bool). T (not b)) (sym (no_nan c)) tt

pub returns-then-b-gt4679240012837945344 : goal.returns-then-b-gt4679240012837945344
unfolding of_bits div
returns-then-b-gt4679240012837945344 c = sym (sin_over c.args.x (over_true 16 c.args.x (held c.before.before) c.if-b-gt4679240012837945344.true))

pub overflow_mul-b : goal.overflow_mul-b
overflow_mul-b c = omega (arith, sign_le c.args.x (held c.before.before))

pub turned-requires : goal.turned-requires
turned-requires c = (in_reach c, sign_le c.args.x (held c.before.before))

pub returns : goal.returns
returns c =
    let x = c.args.x in
    c.turned.ensures ∙ ap (λ (k : ℕ). circular_turned x (k * 2)) (sign_is x (held c.before.before.before) (within_finite x 65536 (in_reach c.before))) ∙ sym (sin_inside x (inside c.before))
