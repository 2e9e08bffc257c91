-- gtd7's row has eleven numbers.
use Rattle.std.specs.Prelude.{◌≡◌, refl, Bool, true, false, cond, List, ℤ, length, Float}
use Rattle.std.proofs.Common.{◌∙◌, ap}
use Rattle.std.specs.Float.Ieee.{lt, le}
use Rattle.numbers.specs.Arithmetic.{◌‼◌}
use Rattle.numbers.specs.Literals.{72·5}
use Rattle.setting.specs.declared.Input.{Input}
use Rattle.setting.specs.declared.State.{State}
use Rattle.setting.specs.declared.View.{View}
use Rattle.setting.specs.State.{fresh_of}
use Rattle.views.specs.View.{view_of}
use Rattle.plan.specs.Fields.{fields_of, with_fields, set_gravity, set_dd}
use Rattle.plan.specs.Plan.{Plan, done, keep, either, ◌>>=◌, Ran, run, run->>=}
use Rattle.gts7_arithmetic.specs.declared.Site.{Site}
use Rattle.gts7_arithmetic.specs.declared.Gts7Output.{Gts7Output}
use Rattle.gts7_arithmetic.specs.Gts7Arithmetic.{site_of}
use Rattle.stages.specs.Stages.{gts7_plan}
use Rattle.lower_atmosphere.specs.declared.Gtd7Output.{Gtd7Output}
use Rattle.lower_atmosphere.specs.LowerAtmosphere.{meso_plan, lower_plan, gtd7_above, gtd7_below}
use Rattle.atmosphere.specs.Atmosphere.{gtd7_plan, eleven_at_of, eleven_with, eleven_of}

-- a plan whose last part gives eleven numbers, whatever it is handed, gives eleven numbers
abbrev Long : Ran Gtd7Output → Type 0
Long r = length r.result.row ≡ 11

then_long : {A : Type 0} (v : View) (m : Plan A) (k : A → Plan Gtd7Output) → ((a : A) (s : State) → Long (run v (k a) s)) → (s : State) → Long (run v (m >>= k) s)
then_long v m k h s = ap (λ (r : Ran Gtd7Output). length r.result.row) (run->>= v m k s) ∙ h (run v m s).result (run v m s).left

either_long : (v : View) (b : Bool) (m n : Plan Gtd7Output) → ((s : State) → Long (run v m s)) → ((s : State) → Long (run v n s)) → (s : State) → Long (run v (either b m n) s)
either_long v true m n f g s = f s
either_long v false m n f g s = g s

keep_long : (v : View) (u : _) (m : Plan Gtd7Output) → ((s : State) → Long (run v m s)) → (s : State) → Long (run v (keep u m) s)
unfolding run
keep_long v u m h s = h (with_fields s (u (fields_of s)))

done_long : (v : View) (a : Gtd7Output) → length a.row ≡ 11 → (s : State) → Long (run v (done a) s)
unfolding run
done_long v a e s = e

above_long : (u : Gts7Output) → length (gtd7_above u).row ≡ 11
unfolding gtd7_above
above_long u = refl

below_long : (sw0 : Float) (x : Site) (alt : Float) (u : Gts7Output) (w : _) → length (gtd7_below sw0 x alt u w).row ≡ 11
unfolding gtd7_below
below_long sw0 x alt u w = refl

gtd7_long : (v : View) (sw : List Float) (x : Site) (alt : Float) (s : State) → Long (run v (gtd7_plan sw x alt) s)
unfolding gtd7_plan
gtd7_long v sw x alt =
    keep_long v (set_gravity x.gsurf x.re) _
    (then_long v (gts7_plan sw x (cond (lt 72·5 alt) alt 72·5)) _
    (λ u. either_long v (le 72·5 alt) (done (gtd7_above u)) _
    (done_long v (gtd7_above u) (above_long u))
    (then_long v (meso_plan sw u) _
    (λ m. then_long v (lower_plan sw alt m) _
    (λ w. keep_long v (set_dd (gtd7_below (sw ‼ 0) x alt u w).dd) _
    (done_long v (gtd7_below (sw ‼ 0) x alt u w) (below_long (sw ‼ 0) x alt u w)))))))

pub eleven_long : (w : List ℤ) (n : Input) → length (eleven_of w n) ≡ 11
unfolding eleven_of eleven_with site_of eleven_at_of
eleven_long w n =
    let v = view_of w n in
    gtd7_long v v.sw (site_of v.sw n.g_lat v.doy n.f107a) n.alt fresh_of
