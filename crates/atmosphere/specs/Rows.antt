-- gtd7's eleven numbers by the way that an altitude takes: at or above 72.5 km gts7's, below it those that its footing gives.
use Rattle.std.specs.Prelude.{◌≡◌, refl, Bool, true, false, cond, List, Float}
use Rattle.std.proofs.Common.{sym, ◌∙◌, ap}
use Rattle.std.specs.Float.Ieee.{lt, le, eq, of_bits}
use Rattle.numbers.specs.Arithmetic.{◌‼◌}
use Rattle.numbers.specs.Literals.{32·5, 72·5}
use Rattle.numbers.specs.Booleans.{neither}
use Rattle.plan.specs.declared.ExpansionValues.{ExpansionValues}
use Rattle.plan.specs.Plan.{Plan, either, told, answer_to, then, last, told_keep}
use Rattle.gts7_arithmetic.specs.declared.Site.{Site}
use Rattle.gts7_arithmetic.specs.declared.Gts7Output.{Gts7Output}
use Rattle.gts7_arithmetic.specs.Gts7Arithmetic.{HasMass}
use Rattle.stages.specs.Stages.{gts7_plan}
use Rattle.lower_atmosphere.specs.declared.Gtd7Output.{Gtd7Output}
use Rattle.lower_atmosphere.specs.declared.Meso.{Meso}
use Rattle.lower_atmosphere.specs.declared.Nodes.{Nodes}
use Rattle.lower_atmosphere.specs.LowerAtmosphere.{meso_plan, lower_plan, gtd7_above, gtd7_below}
use Rattle.footing.specs.declared.Footing.{Footing}
use Rattle.footing.specs.declared.Summit.{Summit}
use Rattle.footing.specs.Footing.{footing_of, summit_of, row_below_of}
use Rattle.footing.proofs.Below.{row_is, summit_is}
use Rattle.atmosphere.specs.Atmosphere.{gtd7_plan, eleven_from}

-- one of two plans, by a test whose value is known
either_true : {A : Type 0} (b : Bool) (m n : Plan A) → b ≡ true → either b m n ≡ m
either_true b m n e = ap (λ (t : Bool). either t m n) e

either_false : {A : Type 0} (b : Bool) (m n : Plan A) → b ≡ false → either b m n ≡ n
either_false b m n e = ap (λ (t : Bool). either t m n) e

gtd7_above_lem : (sw : List Float) (x : Site) (alt : Float) (l : ExpansionValues) (w : Gtd7Output) (u : Gts7Output) (altt : Float)
    → w ≡ gtd7_above u
    → u ≡ told (answer_to l) (gts7_plan sw x altt)
    → altt ≡ cond (lt 72·5 alt) alt 72·5
    → le 72·5 alt ≡ true
    → w ≡ told (answer_to l) (gtd7_plan sw x alt)
unfolding gtd7_plan
gtd7_above_lem sw x alt l w u altt e0 e1 e2 t =
    e0
    ∙ sym
    (told_keep (answer_to l) _ _
    ∙ then (answer_to l) (gts7_plan sw x (cond (lt 72·5 alt) alt 72·5)) _ u (rw e2 at e1)
    ∙ ap (told (answer_to l)) (either_true (le 72·5 alt) _ _ t)
    ∙ last (answer_to l) _)

gtd7_below_lem : (sw : List Float) (x : Site) (alt : Float) (l : ExpansionValues) (w : Gtd7Output) (n : Nodes) (m : Meso) (u : Gts7Output) (altt : Float)
    → w ≡ gtd7_below (sw ‼ 0) x alt u n
    → n ≡ told (answer_to l) (lower_plan sw alt m)
    → m ≡ told (answer_to l) (meso_plan sw u)
    → u ≡ told (answer_to l) (gts7_plan sw x altt)
    → altt ≡ cond (lt 72·5 alt) alt 72·5
    → le 72·5 alt ≡ false
    → w ≡ told (answer_to l) (gtd7_plan sw x alt)
unfolding gtd7_plan
gtd7_below_lem sw x alt l w n m u altt e0 e1 e2 e3 e4 t =
    e0
    ∙ sym
    (told_keep (answer_to l) _ _
    ∙ then (answer_to l) (gts7_plan sw x (cond (lt 72·5 alt) alt 72·5)) _ u (rw e4 at e3)
    ∙ ap (told (answer_to l)) (either_false (le 72·5 alt) _ _ t)
    ∙ then (answer_to l) (meso_plan sw u) _ m e2
    ∙ then (answer_to l) (lower_plan sw alt m) _ n e1
    ∙ told_keep (answer_to l) _ _
    ∙ last (answer_to l) _)

pub eleven_above : (sw : List Float) (x : Site) (l : ExpansionValues) (alt : Float) (w : Gtd7Output) (u : Gts7Output) (altt : Float)
    → w ≡ gtd7_above u
    → u ≡ told (answer_to l) (gts7_plan sw x altt)
    → altt ≡ cond (lt 72·5 alt) alt 72·5
    → le 72·5 alt ≡ true
    → w.row ≡ eleven_from sw x l alt
unfolding eleven_from
eleven_above sw x l alt w u altt e0 e1 e2 t = ap (λ (r : Gtd7Output). r.row) (gtd7_above_lem sw x alt l w u altt e0 e1 e2 t)

-- 72.5 km is at or above itself
pub at_itself : le 72·5 72·5 ≡ true
unfolding le lt eq of_bits
at_itself = refl

either_way : (b : Bool) (x : Float) → x ≡ cond b x x
either_way true x = refl
either_way false x = refl

-- what the altitudes below 72.5 km read of gts7 there stands in the row of 72.5 km, but for N2's mixed density
pub summit_told : (sw : List Float) (x : Site) (l : ExpansionValues) (row : List Float) (dm : Float)
    → row ≡ eleven_from sw x l 72·5
    → dm ≡ (told (answer_to l) (gts7_plan sw x (cond (lt 72·5 72·5) 72·5 72·5))).base.dm
    → ◌≡◌ {A = Summit} (record { known = true; he = row ‼ 0; n2 = row ‼ 2; o2 = row ‼ 3; ar = row ‼ 4; dm28 = dm }) (summit_of sw x l)
unfolding gtd7_above
summit_told sw x l row dm e f =
    let u = told (answer_to l) (gts7_plan sw x 72·5) in
    let r = e ∙ sym (eleven_above sw x l 72·5 (gtd7_above u) u 72·5 refl refl (either_way (lt 72·5 72·5) 72·5) at_itself) in
    let d : dm ≡ u.base.dm = f ∙ ap (λ (z : Float). (told (answer_to l) (gts7_plan sw x z)).base.dm) (sym (either_way (lt 72·5 72·5) 72·5)) in
    ap {A = Float} {B = Summit} (λ k. record { known = true; he = row ‼ 0; n2 = row ‼ 2; o2 = row ‼ 3; ar = row ‼ 4; dm28 = k }) d
    ∙ ap {A = List Float} {B = Summit} (λ t. record { known = true; he = t ‼ 0; n2 = t ‼ 2; o2 = t ‼ 3; ar = t ‼ 4; dm28 = u.base.dm }) r
    ∙ summit_is sw x l

-- an altitude that is not at or above another is not above it
not_above : (x y : Float) → le x y ≡ false → lt x y ≡ false
unfolding le
not_above x y e = (neither (lt x y) (eq x y) e).0

pub eleven_below : (sw : List Float) (x : Site) (l : ExpansionValues) (alt : Float) (tropo : Bool) (f : Footing) (row : List Float)
    → HasMass x
    → row ≡ row_below_of (sw ‼ 0) f alt
    → f ≡ footing_of sw x l tropo
    → (lt alt 32·5 ≡ true → tropo ≡ true)
    → le 72·5 alt ≡ false
    → row ≡ eleven_from sw x l alt
unfolding eleven_from
eleven_below sw x l alt tropo f row gas e0 e1 c t =
    let u = told (answer_to l) (gts7_plan sw x 72·5) in
    e0
    ∙ ap (λ (g : Footing). row_below_of (sw ‼ 0) g alt) e1
    ∙ row_is sw x l tropo alt gas c (not_above 72·5 alt t)
    ∙ ap (λ (r : Gtd7Output). r.row)
    (gtd7_below_lem sw x alt l _ (told (answer_to l) (lower_plan sw alt (told (answer_to l) (meso_plan sw u)))) (told (answer_to l) (meso_plan sw u)) u 72·5 refl refl refl refl
    (sym (ap (λ (b : Bool). cond b alt 72·5) (not_above 72·5 alt t))) t)
