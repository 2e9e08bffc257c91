-- S1 to S10 of document 01: one table, and one statement that covers it; and ccor at e = 70 and -70.
use Rattle.std.specs.Prelude.{◌≤◌, ◌≡◌, refl, Bool, true, false, Result, List, [], ◌∷◌, ℤ, pos, length, Float}
use Rattle.std.specs.Float.Ieee.{neg, of_bits, add, sub, mul, div, lt, le, eq, is_nan, round}
use Rattle.numbers.specs.Arithmetic.{◌⊕◌, ◌⊖◌, ◌⊘◌, ◌‼◌}
use Rattle.numbers.specs.Tests.{finite_of}
use Rattle.numbers.specs.Literals.{dec, 0·0, 0·5, 1·0, 2·0, 3·0, 4·0, 5·0, 70·0, 100·0, 400·0, 1000·0}
use Rattle.refusals.specs.Refusals.{Accepted, Answer, Refused}
use Rattle.refusals.specs.declared.Reason.TheVariants.{OutOfRange}
use Rattle.elementary.specs.Exp.{exp_of}
use Rattle.exponential_tables.specs.Tables.{coarse, fine}
use Rattle.mixing.specs.Mixing.{ccor_of, dnet_of}
use Rattle.spline.specs.Nodes.{splint_of, searched, splini_of, integral, segment_of}
use Rattle.spline_calls.specs.Outcome.{Outcome, gives, counted}
use Rattle.spline_calls.specs.Calls.{three_long, splini_call, splint_call}
use Rattle.setting.specs.declared.Input.{Input}
use Rattle.setting.specs.declared.State.{State}
use Rattle.setting.specs.Switches.{given, is_one, sw_of, swc_of}
use Rattle.setting.specs.ApHistory.{asks_history_of, lacks_history_of}
use Rattle.setting.specs.Cases.{s5, s6}
use Rattle.setting.specs.declared.Left.{Left}
use Rattle.expansion_calls.specs.declared.ExpansionRefusal.{ExpansionRefusal}
use Rattle.expansion_calls.specs.ExpansionCalls.{accepted_call, glob7s_call_of}
use Rattle.expansion_calls.specs.Cases.{s7}
use Rattle.acceptance.specs.Acceptance.{within_of, array_unfit_of, unfit_of, array_outside_of, outside_of, found_of, judged_of, unmixed_of, record_answer}
use Rattle.acceptance.specs.Cases.{sample, array_there}
use Rattle.atmosphere.specs.Atmosphere.{answer_of}

-- a case: what the definition gives, and document 01's figure or answer
pub data Case : Type 0 where
  number : Float → Float → Case
  answer : Answer → Answer → Case
  expanded : Result (Left Float) (Left ExpansionRefusal) → Result (Left Float) (Left ExpansionRefusal) → Case
  outcome : Outcome Float → Outcome Float → Case

abbrev pub Holds : Case → Type 0
Holds (number x y) = x ≡ y
Holds (answer x y) = x ≡ y
Holds (expanded x y) = x ≡ y
Holds (outcome x y) = x ≡ y

abbrev pub Every : List Case → Type 0
Every [] = Unit
Every (c ∷ cs) = Holds c × Every cs

-- nodes 0 and 1, values 2 and 4, second derivatives 0
abbrev pub xa : List Float
xa = 0·0 ∷ 1·0 ∷ []

abbrev pub ya : List Float
ya = 2·0 ∷ 4·0 ∷ []

abbrev pub y2a : List Float
y2a = 0·0 ∷ 0·0 ∷ []

-- S1 to S10, in order, at any zhm, xmm, xm and r, in a row w, with coefficients p, for a record n and a State s
abbrev pub cases : Float → Float → Float → Float → List ℤ → List Float → Input → State → List Case
cases zhm xmm xm r w p n s =
    number (dnet_of 0·0 0·0 zhm xmm xm) 1·0 ∷
    number (dnet_of 5·0 0·0 zhm xmm xm) 5·0 ∷
    number (dnet_of (neg 1·0) 0·0 zhm xmm xm) (neg 1·0) ∷
    number (ccor_of 100·0 r 1·0 0·0) 1·0 ∷
    number (sw_of w ‼ 3) 0·0 ∷ number (swc_of w ‼ 3) 1·0 ∷
    number (sw_of w ‼ 9) 2·0 ∷ number (swc_of w ‼ 9) 2·0 ∷
    expanded (glob7s_call_of w n p s) (accepted_call (neg 1·0) s) ∷
    answer (answer_of w (sample 400·0 (neg 1000·0)) 11) Accepted ∷
    answer (answer_of w (sample 400·0 (neg (dec 10005 1))) 11) (Refused OutOfRange 5) ∷
    outcome (splint_call xa ya y2a 2 0·5) (gives 3·0) ∷
    outcome (splini_call xa ya y2a 2 0·5) (gives (dec 125 2)) ∷
    []

mixing_holds : (zhm xmm xm r : Float)
    → (dnet_of 0·0 0·0 zhm xmm xm ≡ 1·0) × (dnet_of 5·0 0·0 zhm xmm xm ≡ 5·0) × (dnet_of (neg 1·0) 0·0 zhm xmm xm ≡ neg 1·0) × (ccor_of 100·0 r 1·0 0·0 ≡ 1·0)
unfolding dnet_of ccor_of exp_of coarse fine of_bits add sub mul div lt eq neg is_nan round
mixing_holds zhm xmm xm r = (refl, refl, refl, refl)

spline_holds : (splint_call xa ya y2a 2 0·5 ≡ gives 3·0) × (splini_call xa ya y2a 2 0·5 ≡ gives (dec 125 2))
unfolding splint_call splini_call three_long counted splint_of searched splini_of integral segment_of of_bits dec add sub mul div lt eq neg round
spline_holds = (refl, refl)

longitude_judged : (w : List ℤ) → (judged_of w (sample 400·0 (neg 1000·0)) ≡ Accepted) × (judged_of w (sample 400·0 (neg (dec 10005 1))) ≡ Refused OutOfRange 5)
unfolding judged_of lacks_history_of outside_of array_outside_of unfit_of array_unfit_of found_of within_of finite_of dec neg le lt round of_bits
longitude_judged w = (rw (array_there (asks_history_of w)) refl, rw (array_there (asks_history_of w)) refl)

-- at 400 km 10 does not occur, whatever switch 15 is
high_mixed : (one : Bool) (longitude : Float) → unmixed_of one (sample 400·0 longitude).alt ≡ false
unfolding unmixed_of lt of_bits
high_mixed true longitude = refl
high_mixed false longitude = refl

longitude_holds : (w : List ℤ) → (answer_of w (sample 400·0 (neg 1000·0)) 11 ≡ Accepted) × (answer_of w (sample 400·0 (neg (dec 10005 1))) 11 ≡ Refused OutOfRange 5)
unfolding answer_of record_answer
longitude_holds w =
    let j = longitude_judged w in
    (rw (j.0, high_mixed (is_one (given w 15)) (neg 1000·0)), rw j.1)

-- Each case holds: S5 and S6 where switches 3 and 9 are at 2, S7 where there are 100 to 150 coefficients and p[99] = 1.
pub cases_hold : (zhm xmm xm r : Float) (w : List ℤ) (p : List Float) (n : Input) (s : State)
    → given w 3 ≡ pos 2 → given w 9 ≡ pos 2 → 100 ≤ length p → length p ≤ 150 → p ‼ 99 ≡ 1·0
    → Every (cases zhm xmm xm r w p n s)
cases_hold zhm xmm xm r w p n s three nine lo hi e =
    let m = mixing_holds zhm xmm xm r in
    let a = s5 w three in
    let b = s6 w nine in
    let l = longitude_holds w in
    (m.0, (m.1, (m.2, (m.3, (a.0, (a.1, (b.0, (b.1, (s7 w n p s lo hi e, (l.0, (l.1, (spline_holds.0, (spline_holds.1, tt)))))))))))))

-- e exactly 70, and exactly -70, takes the formula
pub ccor_at_70 : (alt r h1 zh : Float) → (alt ⊖ zh) ⊘ h1 ≡ 70·0 → ccor_of alt r h1 zh ≡ exp_of (r ⊘ (1·0 ⊕ exp_of 70·0))
unfolding ccor_of lt neg of_bits
ccor_at_70 alt r h1 zh e = rw (e) refl

pub ccor_at_minus_70 : (alt r h1 zh : Float) → (alt ⊖ zh) ⊘ h1 ≡ neg 70·0 → ccor_of alt r h1 zh ≡ exp_of (r ⊘ (1·0 ⊕ exp_of (neg 70·0)))
unfolding ccor_of lt neg of_bits
ccor_at_minus_70 alt r h1 zh e = rw (e) refl
