-- `outside` meets its contract: the day, the first of the other fields, or of the values behind them, by its place in the list of the tests.
use Rattle.std.specs.Prelude.{refl, not, Bool, position, ◌≡◌, ◌∷◌, [], List, Float}
use Rattle.std.proofs.Common.{arith, ap, sym, ◌∙◌, rules}
use Rattle.numbers.specs.Literals.{0·0, 400·0}
use Rattle.setting.specs.ApHistory.{absent_of}
use Rattle.acceptance.specs.declared.Ranged.{Ranged}
use Rattle.acceptance.specs.Acceptance.{within_of, ranges_of, outside_of, array_outside_of, found_of}
use Rattle.acceptance.proofs.Lowest.{history_place, first_here, none_absent, first_there, none_there}
use Rattle.acceptance.proofs.outside.Goals as goal

abbrev test : Ranged → Bool
test r = not (within_of r.lo r.hi r.x)

abbrev activity : Float → Bool
activity x = not (within_of 0·0 400·0 x)

pub returns-then-not-day_within : goal.returns-then-not-day_within
unfolding outside_of found_of
returns-then-not-day_within c = rw (sym c.day_within.ensures ∙ c.if-not-day_within.true) refl

pub returns-in-Some : goal.returns-in-Some
unfolding outside_of array_outside_of history_place
returns-in-Some c =
    rw (sym c.day_within.ensures ∙ c.if-not-day_within.false) (first_here test 2 (ranges_of c.args.n) (omega arith) activity (absent_of c.args.n.history) c.args.n.ap_array _ (sym (c.first_outside.ensures ∙ ap (position test) c.ranges-2.ensures) ∙ c.in-Some.is))

pub returns-then-absent : goal.returns-then-absent
unfolding outside_of array_outside_of history_place
returns-then-absent c =
    let e = sym (c.first_outside.ensures ∙ ap (position test) c.ranges-2.ensures) ∙ c.in_default.is in
    rw (sym c.day_within.ensures ∙ c.if-not-day_within.false) (none_absent test 2 (ranges_of c.args.n) (omega arith) activity _ c.args.n.ap_array e (sym c.absent.ensures ∙ c.if-absent.true))

pub returns-in-Some-first_activity_outside : goal.returns-in-Some-first_activity_outside
unfolding outside_of array_outside_of history_place
returns-in-Some-first_activity_outside c =
    let e = sym (c.first_outside.ensures ∙ ap (position test) c.ranges-2.ensures) ∙ c.in_default.is in
    rw (sym c.day_within.ensures ∙ c.if-not-day_within.false) (first_there test 2 (ranges_of c.args.n) (omega arith) activity _ c.args.n.ap_array _ e (sym c.absent.ensures ∙ c.if-absent.false) (search rules)
    (sym c.first_activity_outside.ensures ∙ c.in-Some-first_activity_outside.is))

pub returns-in-None : goal.returns-in-None
unfolding outside_of array_outside_of history_place
returns-in-None c =
    let e = sym (c.first_outside.ensures ∙ ap (position test) c.ranges-2.ensures) ∙ c.in_default.is in
    rw (sym c.day_within.ensures ∙ c.if-not-day_within.false) (none_there test 2 (ranges_of c.args.n) (omega arith) activity _ c.args.n.ap_array e (sym c.absent.ensures ∙ c.if-absent.false) (search rules)
    (sym c.first_activity_outside.ensures ∙ c.in-None.is))
