-- The State that gtd7 leaves: when its mark says that dm28 was set, that dm28 is 0 where it does not, and that it says so after every accepted run below
-- 72.5 km.
use Rattle.std.specs.Prelude.{ℕ, ◌≡◌, refl, Bool, true, false, cond, not, ◌&&◌, List, eqb, ℤ, Float, Err, Ok}
use Rattle.std.proofs.Common.{sym, ap, ◌∙◌}
use Rattle.std.proofs.lemmas.Bool.{false≢true}
use Rattle.std.specs.Float.Ieee.{lt, le, eq, ne, of_bits}
use Rattle.numbers.specs.Arithmetic.{◌‼◌}
use Rattle.numbers.specs.Literals.{0·0, 1·0, 72·5}
use Rattle.refusals.specs.Refusals.{Accepted, Answer, Refused, accepted_of}
use Rattle.refusals.specs.declared.Reason.TheVariants.{NotMixed, WrongLength}
use Rattle.setting.specs.declared.Input.{Input}
use Rattle.setting.specs.declared.View.{View}
use Rattle.setting.specs.Switches.{given, is_one, on_off, filled, sw_of}
use Rattle.setting.specs.State.{fresh_of}
use Rattle.views.specs.View.{view_of}
use Rattle.parameters.specs.Parameters.{present_of}
use Rattle.parameters.specs.declared.Parameters.{Parameters}
use Rattle.mixing_limits.specs.Limits.{mixed_at}
use Rattle.places.proofs.Order.{lt_asym}
use Rattle.expansion.specs.Expansion.{state_after}
use Rattle.plan.specs.Plan.{Ran, run, stepped}
use Rattle.plan.specs.Mark.{marked_where, unmarked_leaves}
use Rattle.gts7_arithmetic.specs.declared.Site.{Site}
use Rattle.gts7_arithmetic.specs.Gts7Arithmetic.{site_from, site_with}
use Rattle.lower_atmosphere.specs.declared.Gtd7Output.{Gtd7Output}
use Rattle.acceptance.specs.Acceptance.{judged_of, unmixed_of, record_answer}
use Rattle.atmosphere.specs.Atmosphere.{gtd7_plan, left_with, left_of, answer_of}
use Rattle.atmosphere.specs.Answers.{gtd7_left}
use Rattle.model_state.specs.Mark.{gtd7_marks}

-- ---- the mark after any run

-- whether N2 is mixed at gts7's altitude
abbrev mixes_n2 : View → Site → Float → Bool
mixes_n2 v x alt = (mixed_at x.nine (v.sw ‼ 15) (cond (lt 72·5 alt) alt 72·5)).n2

-- From a fresh State gtd7 leaves the mark true exactly where N2 is mixed at gts7's altitude, whatever the number that is then in dm28
pub left_marked : (v : View) (x : Site) (alt : Float)
    → (run v (gtd7_plan v.sw x alt) fresh_of).left.dm28_set ≡ (mixed_at x.nine (v.sw ‼ 15) (cond (lt 72·5 alt) alt 72·5)).n2
unfolding stepped state_after fresh_of
left_marked v x alt =
    ap (λ (r : Ran Gtd7Output). r.left.dm28_set) (gtd7_left v x alt)
    ∙ marked_where _ (gtd7_plan v.sw x alt) _ refl (mixes_n2 v x alt) (gtd7_marks v.sw x alt)

-- 'In State a dm28 of 0 means that nobody set it': where the mark is false after gtd7 from a fresh State, dm28 is 0
pub unmarked_zero : (v : View) (x : Site) (alt : Float)
    → (run v (gtd7_plan v.sw x alt) fresh_of).left.dm28_set ≡ false → (run v (gtd7_plan v.sw x alt) fresh_of).left.dm28 ≡ 0·0
unfolding stepped state_after fresh_of
unmarked_zero v x alt e =
    ap (λ (r : Ran Gtd7Output). r.left.dm28) (gtd7_left v x alt)
    ∙ unmarked_leaves _ (gtd7_plan v.sw x alt) _ refl (mixes_n2 v x alt) (gtd7_marks v.sw x alt)
    (sym (ap (λ (r : Ran Gtd7Output). r.left.dm28_set) (gtd7_left v x alt)) ∙ e)

-- ---- after accepted runs below 72.5 km

ten_passed : (a : Answer) (c : Bool) → cond (not (accepted_of a)) a (cond c (Refused NotMixed 3) Accepted) ≡ Accepted → c ≡ false
ten_passed (Ok v) true e = absurd (false≢true (ap accepted_of e))
ten_passed (Ok v) false e = refl
ten_passed (Err r) c e = absurd (false≢true (ap accepted_of e))

length_passed : (b : Bool) (a : Answer) → cond (not b) (Refused WrongLength 11) a ≡ Accepted → a ≡ Accepted
length_passed true a e = e
length_passed false a e = absurd (false≢true (ap accepted_of e))

is_on : (one low : Bool) → low ≡ true → (not one && low) ≡ false → one ≡ true
is_on true low e f = refl
is_on false low e f = absurd (false≢true (sym f ∙ e))

-- an accepted record below 72.5 km has switch 15 at 1
pub mixing_given : (w : List ℤ) (n : Input) (len : ℕ) → answer_of w n len ≡ Accepted → lt n.alt 72·5 ≡ true → is_one (given w 15) ≡ true
unfolding answer_of record_answer unmixed_of
mixing_given w n len e low =
    is_on (is_one (given w 15)) (lt n.alt 72·5) low (ten_passed (judged_of w n) _ (length_passed (eqb len 11) _ e))

view_15 : (w : List ℤ) (n : Input) → (view_of w n).sw ‼ 15 ≡ on_off (is_one (given w 15))
unfolding view_of sw_of filled
view_15 w n = refl

on_at_72 : (c : Parameters) → le 72·5 c.n2 ≡ true → (mixed_at c 1·0 72·5).n2 ≡ true
unfolding mixed_at ne eq of_bits
on_at_72 c e = e

-- Where switch 15 is 1 and N2's mixing does not end below 72.5 km, the mark is true after a run below 72.5 km
pub marked_below : (c : Parameters) (w : List ℤ) (n : Input) → is_one (given w 15) ≡ true → le 72·5 c.n2 ≡ true → lt n.alt 72·5 ≡ true
    → (left_with c w n).dm28_set ≡ true
unfolding left_with site_with site_from
marked_below c w n one high low =
    left_marked (view_of w n) _ n.alt
    ∙ rw (view_15 w n, one, lt_asym n.alt 72·5 low) (on_at_72 c high)

present_high : le 72·5 present_of.n2 ≡ true
unfolding present_of le lt eq of_bits
present_high = refl

-- In every accepted run below 72.5 km the mark is true at the end.
pub mixed_below : (w : List ℤ) (n : Input) (len : ℕ) → answer_of w n len ≡ Accepted → lt n.alt 72·5 ≡ true → (left_of w n).dm28_set ≡ true
unfolding left_of
mixed_below w n len e low = marked_below present_of w n (mixing_given w n len e low) present_high low
