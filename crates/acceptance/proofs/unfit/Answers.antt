-- `unfit` meets its contract: the first of the fields, or of the values behind them, by its place in the list of the tests.
use Rattle.std.specs.Prelude.{not, Bool, ◌≡◌, ◌∷◌, [], List, Float}
use Rattle.std.proofs.Common.{arith, sym, ◌∙◌, rules}
use Rattle.numbers.specs.Tests.{finite_of}
use Rattle.setting.specs.ApHistory.{absent_of}
use Rattle.setting.specs.declared.Input.{Input}
use Rattle.acceptance.specs.Acceptance.{unfit_of, array_unfit_of}
use Rattle.acceptance.proofs.Lowest.{history_place, first_here, none_absent, first_there, none_there}
use Rattle.acceptance.proofs.unfit.Goals as goal

abbrev fields : Input → List Float
fields n = n.sec ∷ n.alt ∷ n.g_lat ∷ n.g_long ∷ n.lst ∷ n.f107a ∷ n.f107 ∷ n.ap ∷ []

abbrev test : Float → Bool
test x = not (finite_of x)

pub returns-in-Some : goal.returns-in-Some
unfolding unfit_of array_unfit_of history_place
returns-in-Some c =
    first_here test 2 (fields c.args.n) (omega arith) test (absent_of c.args.n.history) c.args.n.ap_array _ (sym c.first_unfit.ensures ∙ c.in-Some.is)

pub returns-then-absent : goal.returns-then-absent
unfolding unfit_of array_unfit_of history_place
returns-then-absent c =
    let e = sym c.first_unfit.ensures ∙ c.in_default.is in
    none_absent test 2 (fields c.args.n) (omega arith) test _ c.args.n.ap_array e (sym c.absent.ensures ∙ c.if-absent.true)

pub returns-in-Some-first_unfit : goal.returns-in-Some-first_unfit
unfolding unfit_of array_unfit_of history_place
returns-in-Some-first_unfit c =
    let e = sym c.first_unfit.ensures ∙ c.in_default.is in
    first_there test 2 (fields c.args.n) (omega arith) test _ c.args.n.ap_array _ e (sym c.absent.ensures ∙ c.if-absent.false) (search rules)
    (sym c.first_unfit-2.ensures ∙ c.in-Some-first_unfit.is)

pub returns-in-None : goal.returns-in-None
unfolding unfit_of array_unfit_of history_place
returns-in-None c =
    let e = sym c.first_unfit.ensures ∙ c.in_default.is in
    none_there test 2 (fields c.args.n) (omega arith) test _ c.args.n.ap_array e (sym c.absent.ensures ∙ c.if-absent.false) (search rules)
    (sym c.first_unfit-2.ensures ∙ c.in-None.is)
