-- `circular_functions::part` meets its contract. Assumes nothing.
use mathlib.Core.Path.{◌≡◌, sym, ap, ◌∙◌, subst}
use mathlib.Core.Bool.{Bool, true, false, cond}
use Prim.Native.Nat.{ℕ, ◌-◌, ◌/◌, ◌%◌, ◌^◌, ◌≤◌, ◌<◌}
use native.Mathlib.Omega.{arith}
use native.Mathlib.Nat.{le_trans}
use borrow.Author.Tests.{eq-eqb, ne_eqb}
use lib.Dec.{T, eqb, lit≤}
use lib.ListN.{get_or}
use Rattle.circular_functions.specs.Trig.{sine_cubic, versine_of, scaling_of, decrement_of}
use Rattle.circular_tables.specs.Tables.{sines, cosines}
use Rattle.circular_functions.proofs.TrigBound.{sines_le, cosines_le, cosines_ge}
use Rattle.circular_functions.proofs.TrigCases.{part_is, part_some, part_le}
use Rattle.fixed_point.proofs.Choice.{either_le}
use Rattle.circular_functions.proofs.part.Lts as lts
use Rattle.circular_functions.proofs.part.Tie as tie
use Rattle.circular_functions.proofs.part.Reads as reads
use Rattle.circular_functions.proofs.part.Goals as goal

-- the facts known there
abbrev After-choose-u : Type 0
After-choose-u = lts.After-choose tie.the-claims reads.Pre reads.Post

-- the facts known there
abbrev After-choose-w : Type 0
After-choose-w = lts.After-choose2 tie.the-claims reads.Pre reads.Post

-- the facts known there
abbrev After-sine_cosine_at-entry : Type 0
After-sine_cosine_at-entry = lts.After-sine_cosine_at tie.the-claims reads.Pre reads.Post

clash : true ≡ false → ⊥
clash e = subst T e tt

-- both entries are at most 1
sine_one : (c : After-sine_cosine_at-entry) → c.sine_cosine_at-entry.result.0 ≤ 2 ^ 58
sine_one c = subst (λ (n : ℕ). n ≤ 2 ^ 58) (sym c.sine_cosine_at-entry.ensures.0) (sines_le (c.args.r / 2 ^ 50))

cosine_one : (c : After-sine_cosine_at-entry) → c.sine_cosine_at-entry.result.1 ≤ 2 ^ 58
cosine_one c = subst (λ (n : ℕ). n ≤ 2 ^ 58) (sym c.sine_cosine_at-entry.ensures.1) (cosines_le (c.args.r / 2 ^ 50))

u_le : (c : After-choose-u) → c.choose-u.result ≤ 2 ^ 58
u_le c = subst (λ (n : ℕ). n ≤ 2 ^ 58) (sym c.choose-u.ensures) (either_le (eqb c.args.h 0) (sine_one c.before) (cosine_one c.before))

w_le : (c : After-choose-w) → c.choose-w.result ≤ 2 ^ 58
w_le c = subst (λ (n : ℕ). n ≤ 2 ^ 58) (sym c.choose-w.ensures) (either_le (eqb c.args.h 0) (cosine_one c.before.before) (sine_one c.before.before))

-- for an odd parity the first value is a cosine
u_ge : (c : After-choose-u) → (c.args.h ≡ 0 → ⊥) → 2 ^ 57 ≤ c.choose-u.result
u_ge c h =
    let both = c.sine_cosine_at-entry in
    subst (λ (n : ℕ). 2 ^ 57 ≤ n) (sym (c.choose-u.ensures ∙ ap (λ (b : Bool). cond b both.result.0 both.result.1) (ne_eqb c.args.h 0 h) ∙ both.ensures.1))
    (cosines_ge (c.args.r / 2 ^ 50) (entry c.args.r c.requires))
  where
    entry : (r : ℕ) → r ≤ 2 ^ 58 → r / 2 ^ 50 < 257
    entry r h = omega arith

pub scaling-requires : goal.scaling-requires
scaling-requires c = (w_le c.before, c.cubic.ensures.1)

pub offset-requires : goal.offset-requires
offset-requires c =
    (omega (arith, u_le c.before.before.before, c.scaling.ensures.1), λ h. le_trans c.scaling.ensures.1 (le_trans (lit≤ {m = 2 ^ 51} {n = 2 ^ 57} tt) (u_ge c.before.before.before h)))

pub decrement-requires : goal.decrement-requires
decrement-requires c = (u_le c.before.before.before.before.before, c.versine.ensures.1)

pub overflow_sub-result : goal.overflow_sub-result
overflow_sub-result c =
    let h = c.args.h in
    subst (λ (n : ℕ). c.decrement.result ≤ n) (sym c.offset.ensures)
    (part_some (eqb h 0) c.choose-u.result c.scaling.result c.decrement.result c.decrement.ensures.1 c.decrement.ensures.2 c.scaling.ensures.1 (λ e. u_ge c.before.before.before.before.before.before (λ z. clash (sym (eq-eqb h 0 z) ∙ e))))

pub returns : goal.returns
returns c =
    let b = eqb c.args.h 0 in
    let r = c.args.r in
    let S = get_or sines (r / 2 ^ 50) 0 in
    let C = get_or cosines (r / 2 ^ 50) 0 in
    let d = r % 2 ^ 50 in
    let p = c.scaling.result in
    let e = c.decrement.result in
    let first : c.choose-u.result ≡ cond b S C = cc in
    let other : c.choose-w.result ≡ cond b C S = cc in
    let moves : p ≡ scaling_of c.choose-w.result (sine_cubic d) = cc in
    let drops : e ≡ decrement_of c.choose-u.result (versine_of d) = cc in
    let is = part_is b S C d c.choose-u.result c.choose-w.result p e first other moves drops in (
      ap (λ (n : ℕ). n - e) c.offset.ensures ∙ is,
      subst (λ (n : ℕ). n - e ≤ 2 ^ 59) (sym c.offset.ensures) (part_le b c.choose-u.result p e (u_le c.before.before.before.before.before.before) c.scaling.ensures.1),
    )
