-- gtd7 after the C release, and the one-altitude call: demand 2's definition.
use Rattle.std.specs.Prelude.{ℕ, cond, not, List, eqb, ℤ, length, Float}
use Rattle.std.specs.Float.Ieee.{lt, le}
use Rattle.numbers.specs.Arithmetic.{◌‼◌}
use Rattle.numbers.specs.Literals.{72·5}
use Rattle.parameters.specs.Parameters.{present_of}
use Rattle.parameters.specs.declared.Parameters.{Parameters}
use Rattle.refusals.specs.Refusals.{Answer, Refused, accepted_of}
use Rattle.refusals.specs.declared.Reason.TheVariants.{WrongLength}
use Rattle.setting.specs.declared.Input.{Input}
use Rattle.setting.specs.declared.State.{State}
use Rattle.setting.specs.declared.View.{View}
use Rattle.setting.specs.State.{fresh_of}
use Rattle.views.specs.View.{view_of}
use Rattle.plan.specs.Fields.{set_gravity, set_dd}
use Rattle.plan.specs.Plan.{Plan, done, ask, keep, either, ◌>>=◌, ◌>>◌, run, told, answer_to}
use Rattle.plan.specs.declared.ExpansionValues.{ExpansionValues}
use Rattle.gts7_arithmetic.specs.declared.Site.{Site}
use Rattle.gts7_arithmetic.specs.Gts7Arithmetic.{site_with}
use Rattle.stages.specs.Stages.{gts7_plan}
use Rattle.lower_atmosphere.specs.declared.Gtd7Output.{Gtd7Output}
use Rattle.lower_atmosphere.specs.LowerAtmosphere.{meso_plan, lower_plan, gtd7_above, gtd7_below}
use Rattle.acceptance.specs.Acceptance.{record_answer}

-- gtd7: gts7 at 72.5 km or above, and from there down the lower nodes
unfoldable pub gtd7_plan : List Float → Site → Float → Plan Gtd7Output
gtd7_plan sw x alt = do
  set_gravity x.gsurf x.re
  u ← gts7_plan sw x (cond (lt 72·5 alt) alt 72·5)
  either (le 72·5 alt)
      (done (gtd7_above u))
      (do
        m ← meso_plan sw u
        w ← lower_plan sw alt m
        let b = gtd7_below (sw ‼ 0) x alt u w
        set_dd b.dd
        done b)

-- d[0] to d[8], t[0], t[1] at an altitude, from the expansions' values
unfoldable pub eleven_from : List Float → Site → ExpansionValues → Float → List Float
eleven_from sw x l alt = (told (answer_to l) (gtd7_plan sw x alt)).row

-- the same from a fresh State: demand 2's definition
unfoldable pub eleven_at_of : View → Site → Float → List Float
eleven_at_of v x alt = (run v (gtd7_plan v.sw x alt) fresh_of).result.row

-- the eleven numbers of a record under a switch row, with nine constants
unfoldable pub eleven_with : Parameters → List ℤ → Input → List Float
eleven_with c w n =
    let v = view_of w n in
    eleven_at_of v (site_with c v.sw n.g_lat v.doy n.f107a) n.alt

-- the same with the present nine
unfoldable pub eleven_of : List ℤ → Input → List Float
eleven_of w n = eleven_with present_of w n

-- the State after gtd7 from a fresh one, with nine constants
unfoldable pub left_with : Parameters → List ℤ → Input → State
left_with c w n =
    let v = view_of w n in
    (run v (gtd7_plan v.sw (site_with c v.sw n.g_lat v.doy n.f107a) n.alt) fresh_of).left

-- the same with the present nine
unfoldable pub left_of : List ℤ → Input → State
left_of w n = left_with present_of w n

-- the one-altitude call: 4 for a row that is not of length 11, then what the record meets
unfoldable pub answer_of : List ℤ → Input → ℕ → Answer
answer_of w n len = cond (not (eqb len 11)) (Refused WrongLength 11) (record_answer w n)

-- the lent row afterwards: the eleven numbers where the call is accepted, else as it was
unfoldable pub row_after : List ℤ → Input → List Float → List Float
row_after w n xs = cond (accepted_of (answer_of w n (length xs))) (eleven_of w n) xs
