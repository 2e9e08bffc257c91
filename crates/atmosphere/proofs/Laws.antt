-- The one-altitude call's outcomes.
use Prim.Native.Nat.{ℕ}
use mathlib.Core.Path.{◌≡◌, refl, sym, ◌∙◌, ap}
use mathlib.Core.Bool.{Bool, true, false, cond, not}
use mathlib.Core.List.{List}
use borrow.Author.Tests.{eqb-true}
use lib.Dec.{eqb}
use lib.IntN.{ℤ}
use lib.ListN.{length}
use lib.Ieee.{Float, binary64, of_int, eq, of_bits}
use Rattle.numbers.specs.Arithmetic.{◌‼◌}
use Rattle.numbers.specs.Literals.{0·0}
use Rattle.refusals.specs.Refusals.{Answer, Refused, accepted_of}
use Rattle.refusals.specs.declared.Reason.TheVariants.{WrongLength}
use Rattle.setting.specs.declared.Input.{Input}
use Rattle.setting.specs.Switches.{sw_of}
use Rattle.views.specs.View.{view_of}
use Rattle.views.specs.Phases.{annual_cos_of}
use Rattle.tables.specs.Tables.{pt_t}
use Rattle.expansion_values.specs.declared.RecordValues.{RecordValues}
use Rattle.needed_sets.specs.NeededSets.{need_at}
use Rattle.expansion_values.specs.ExpansionValues.{expansion_values_of, record_values_of}
use Rattle.gts7_arithmetic.specs.declared.Site.{Site}
use Rattle.parameters.specs.Parameters.{present_of}
use Rattle.parameters.specs.declared.Parameters.{Parameters}
use Rattle.gts7_arithmetic.specs.Gts7Arithmetic.{HasMass, site_from, site_with, gather_of}
use Rattle.gts7_arithmetic.specs.Given.{site_given}
use Rattle.atmosphere.specs.Atmosphere.{eleven_from, eleven_with, eleven_of, answer_of, row_after}
use Rattle.atmosphere.specs.Answers.{eleven_told}
use Rattle.mixing_limits.specs.Limits.{mixed_at, some_mixed}
use Rattle.mixing_limits.specs.declared.Mixed.{Mixed}
use Rattle.mixing_limits.proofs.Some.{n2_some}
use Rattle.plan.specs.declared.ExpansionValues.{ExpansionValues}
use Rattle.plan.specs.Plan.{◌>>=◌, told, answer_to}
use Rattle.profile.specs.declared.unchecked.Shape.{Shape}
use Rattle.species.specs.Species.{n2_of}
use Rattle.gts7_arithmetic.specs.declared.Gts7Output.{Gts7Output}
use Rattle.stages.specs.Stages.{shape_plan, n2_plan, gts7_plan}
use Rattle.footing.proofs.Below.{gts7_is}

-- an accepted answer passed the first test
first_passed : (b : Bool) (a : Answer) → accepted_of (cond (not b) (Refused WrongLength 11) a) ≡ true → b ≡ true
first_passed true a h = refl
first_passed false a h = h

pub accepted_length : (w : List ℤ) (n : Input) (len : ℕ) → accepted_of (answer_of w n len) ≡ true → len ≡ 11
unfolding answer_of
accepted_length w n len h = eqb-true len 11 (first_passed (eqb len 11) _ h)

-- the verdict that the code computed is the definition's
pub verdict : {a d : Answer} {v b : Bool} → a ≡ d → v ≡ accepted_of a → v ≡ b → accepted_of d ≡ b
verdict e f g = sym (ap accepted_of e) ∙ sym f ∙ g

pub row_kept : (w : List ℤ) (n : Input) (xs : List Float) → accepted_of (answer_of w n (length xs)) ≡ false → xs ≡ row_after w n xs
unfolding row_after
row_kept w n xs h = simp h

pub row_written : (w : List ℤ) (n : Input) (xs : List Float) → accepted_of (answer_of w n (length xs)) ≡ true → eleven_of w n ≡ row_after w n xs
unfolding row_after
row_written w n xs h = simp h

pub present_mass : eq present_of.xmm 0·0 ≡ false
unfolding present_of eq of_bits
present_mass = refl

pub site_mass : (c : Parameters) (sw : List Float) (lat slat cos_pt f107a : Float) (x : Site) → x ≡ site_from c sw lat slat cos_pt f107a → eq c.xmm 0·0 ≡ false → HasMass x
unfolding site_from
site_mass c sw lat slat cos_pt f107a x e m = ap (λ (y : Site). eq y.nine.xmm 0·0) e ∙ m

-- the site that a record's values give is the definition's
site_is : (c : Parameters) (w : List ℤ) (n : Input)
    → site_from c (view_of w n).sw n.g_lat (view_of w n).slat (annual_cos_of (view_of w n).doy (pt_t ‼ 13)) n.f107a
    ≡ site_with c (view_of w n).sw n.g_lat (view_of w n).doy n.f107a
unfolding view_of annual_cos_of
site_is c w n = site_given c (sw_of w) n.g_lat (of_int binary64 n.doy) n.f107a

pub row_with_law : (c : Parameters) (w : List ℤ) (n : Input) (row : List Float) (v : RecordValues)
    → row ≡ eleven_from v.sw (site_from c v.sw n.g_lat v.slat v.cos_pt n.f107a) v.values n.alt
    → v ≡ record_values_of w n (need_at n.alt)
    → eq c.xmm 0·0 ≡ false
    → row ≡ eleven_with c w n
unfolding eleven_with record_values_of
row_with_law c w n row v e f m =
    let u = view_of w n in
    (rw f at e)
    ∙ ap (λ (x : Site). eleven_from u.sw x (expansion_values_of u (need_at n.alt)) n.alt) (site_is c w n)
    ∙ sym (eleven_told u (site_with c u.sw n.g_lat u.doy n.f107a) n.alt (site_mass c u.sw n.g_lat _ _ n.f107a _ (sym (site_is c w n)) m))

-- ---- N2's mixed density where nothing is mixed

off : (p q : Bool) → (p ≡ true → q ≡ true) → q ≡ false → p ≡ false
off true q f e = sym (f refl) ∙ e
off false q f e = refl

n2_unmixed : (sw : List Float) (h : Shape) (on : Bool) (z zhf xmm : Float) (l : ExpansionValues) → on ≡ false → 0·0 ≡ (told (answer_to l) (n2_plan sw h on z zhf xmm)).dm
unfolding told n2_plan ◌>>=◌ n2_of
n2_unmixed sw h on z zhf xmm l e = rw e

pub unmixed_dm28 : (sw : List Float) (x : Site) (z : Float) (l : ExpansionValues) (m : Mixed) → m ≡ mixed_at x.nine (sw ‼ 15) z → some_mixed m ≡ false
    → 0·0 ≡ (told (answer_to l) (gts7_plan sw x z)).base.dm
unfolding gather_of
unmixed_dm28 sw x z l m e f =
    let h = told (answer_to l) (shape_plan sw x z) in
    let k = mixed_at x.nine (sw ‼ 15) z in
    n2_unmixed sw h k.n2 z x.zhf x.nine.xmm l (off k.n2 (some_mixed k) (n2_some k) (sym (ap some_mixed e) ∙ f))
    ∙ sym (ap (λ (u : Gts7Output). u.base.dm) (gts7_is sw x z l h _ refl refl))

-- gts7's altitude is the one asked for
pub dm28_at : (sw : List Float) (x : Site) (l : ExpansionValues) (altt z dm : Float) → dm ≡ (told (answer_to l) (gts7_plan sw x altt)).base.dm → altt ≡ z → dm ≡ (told (answer_to l) (gts7_plan sw x z)).base.dm
dm28_at sw x l altt z dm e f = e ∙ ap (λ (y : Float). (told (answer_to l) (gts7_plan sw x y)).base.dm) f
