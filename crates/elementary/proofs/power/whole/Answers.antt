-- `elementary::power::whole` meets its contract. Assumes nothing.
use Rattle.std.proofs.Common.{◌≡◌, ℕ, ◌<◌, ◌≤◌, Bool, true, false, T, pos, sym, ◌∙◌, subst, arith, le→leb}
use lib.Ieee.{binary64, fits, in_float, of_int, to_unsigned, of_bits, add, sub, neg, round, lt, eq}
use Rattle.fixed_point.specs.Float.{minus_one}
use Rattle.elementary.specs.Pow.{top}
use Rattle.elementary.proofs.PowCases.{whole_lost, whole_below, whole_above, whole_large, whole_not, whole_is}
use Rattle.elementary.proofs.power.whole.Lts as lts
use Rattle.elementary.proofs.power.whole.Tie as tie
use Rattle.elementary.proofs.power.whole.Reads as reads
use Rattle.elementary.proofs.power.whole.Goals as goal

-- the facts known there
abbrev Start : Type 0
Start = lts.Start tie.the-claims reads.Pre reads.Post tie.handed_clauses

-- the facts known there
abbrev Then-e-2 : Type 0
Then-e-2 = lts.Then2 tie.the-claims reads.Pre reads.Post tie.handed_clauses

-- the facts known there
abbrev Then-e-3 : Type 0
Then-e-3 = lts.Then3 tie.the-claims reads.Pre reads.Post tie.handed_clauses

-- the facts known there
abbrev Then-n-le32 : Type 0
Then-n-le32 = lts.Then4 tie.the-claims reads.Pre reads.Post tie.handed_clauses

held : (c : Start) → T (fits binary64 c.args.e)
held c = subst T (sym c.well_formed.0.1) tt

above : (c : Then-e-2) → lt minus_one c.args.e ≡ true
unfolding of_bits neg
above c = c.if-e-2.true

under : (c : Then-e-3) → lt c.args.e top ≡ true
unfolding of_bits
under c = c.if-e-3.true

-- the call's result is the whole part
small : (c : Then-n-le32) → to_unsigned 64 c.args.e ≤ 32
small c = subst (λ (n : ℕ). n ≤ 32) c.truncating_f64_to_u64-n.ensures c.if-n-le32.true

same : (c : Then-n-le32) (b : Bool) → eq (of_int binary64 (pos c.truncating_f64_to_u64-n.result)) c.args.e ≡ b → eq (of_int binary64 (pos (to_unsigned 64 c.args.e))) c.args.e ≡ b
same c b h = subst (λ (n : ℕ). eq (of_int binary64 (pos n)) c.args.e ≡ b) c.truncating_f64_to_u64-n.ensures h

-- the number of the test gives every whole number up to 32 back, by computation
pub returns-then-e : goal.returns-then-e
unfolding of_bits add sub neg eq of_int round
returns-then-e c = whole_lost _ c.args.e (held c.before) c.if-e.true tt

pub truncating_f64_to_u64-n-requires : goal.truncating_f64_to_u64-n-requires
unfolding of_bits neg
truncating_f64_to_u64-n-requires c = record { lower_bound = subst T (sym c.if-e-2.true) tt; upper_bound = subst T (sym c.if-e-3.true) tt }

pub int_to_float-n : goal.int_to_float-n
unfolding in_float
int_to_float-n c = omega (arith, le→leb, c.if-n-le32.true)

pub returns-then-n-e : goal.returns-then-n-e
returns-then-n-e c =
    let e = c.args.e in
    c.truncating_f64_to_u64-n.ensures ∙ whole_is e (above c.before.before.before.before.before) (under c.before.before.before.before) (small c.before.before) (same c.before.before true c.if-n-e.true)

pub returns-else-n-e : goal.returns-else-n-e
returns-else-n-e c =
    whole_not c.args.e (above c.before.before.before.before.before) (under c.before.before.before.before) (small c.before.before) (same c.before.before false c.if-n-e.false)

pub returns-else-n-le32 : goal.returns-else-n-le32
returns-else-n-le32 c =
    whole_large c.args.e (above c.before.before.before) (under c.before.before) (subst (λ (n : ℕ). 32 < n) c.truncating_f64_to_u64-n.ensures c.if-n-le32.false)

pub returns-else-e-3 : goal.returns-else-e-3
unfolding of_bits
returns-else-e-3 c = whole_above c.args.e (above c.before) c.if-e-3.false

pub returns-else-e-2 : goal.returns-else-e-2
unfolding of_bits neg
returns-else-e-2 c = whole_below c.args.e c.if-e-2.false
