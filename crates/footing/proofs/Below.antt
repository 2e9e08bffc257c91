-- The row that a footing gives below 72.5 km is gtd7's.
use Rattle.std.specs.Prelude.{ℕ, ◌≡◌, Bool, cond, not, List, Float}
use Rattle.std.proofs.Math.Path.{refl, sym}
use Rattle.std.proofs.Common.{ap, ◌∙◌}
use Rattle.std.proofs.Math.Bool.{true, false}
use Rattle.std.specs.Float.Ieee.{lt, eq, ne, of_bits}
use Rattle.numbers.specs.Arithmetic.{◌⊗◌, ◌‼◌}
use Rattle.numbers.specs.Literals.{0·0, 1·0, 32·5, 72·5}
use Rattle.mixing_limits.specs.Limits.{mixed_at}
use Rattle.mixing_limits.specs.declared.Mixed.{Mixed}
use Rattle.profile.specs.Curve.{layer_of, floored_of}
use Rattle.profile.specs.Profile.{densm_of, profile_answer, temperature_in}
use Rattle.layers.specs.Layers.{span_of, densm_upper, densm_lower}
use Rattle.profile.specs.declared.unchecked.Profile.{Profile}
use Rattle.profile.specs.declared.unchecked.Profile.TheVariants.{Temperature, Density}
use Rattle.profile.specs.declared.unchecked.Shape.{Shape}
use Rattle.plan.specs.declared.ExpansionValues.{ExpansionValues}
use Rattle.plan.specs.Plan.{◌>>=◌, told, answer_to, then, last, told_keep}
use Rattle.species.specs.declared.Blend.{Blend}
use Rattle.tables.specs.Tables.{pdm_t2, pdl_t1}
use Rattle.gts7_arithmetic.specs.declared.Site.{Site}
use Rattle.gts7_arithmetic.specs.declared.SixSpecies.{SixSpecies}
use Rattle.gts7_arithmetic.specs.declared.Gts7Output.{Gts7Output}
use Rattle.gts7_arithmetic.specs.Gts7Arithmetic.{HasMass, anomalous_of, units_of, gather_of}
use Rattle.stages.specs.Stages.{shape_plan, n2_plan, helium_plan, oxygen_plan, o2_plan, argon_plan, hydrogen_plan, nitrogen_plan, anomalous_plan, species_plan, gts7_plan}
use Rattle.lower_atmosphere.specs.declared.Meso.{Meso}
use Rattle.lower_atmosphere.specs.declared.Nodes.{Nodes}
use Rattle.lower_atmosphere.specs.LowerAtmosphere.{troposphere_of, unset_nodes, meso_nodes_plan, meso_plan, lower_plan, dm28m_of, zn2, zn3, lower_n2, lower_temperature, gtd7_below}
use Rattle.footing.specs.declared.Curves.{Curves}
use Rattle.footing.specs.declared.Footing.{Footing}
use Rattle.footing.specs.declared.Summit.{Summit}
use Rattle.footing.specs.Footing.{three_of, in_units_of, summit_from, summit_at, summit_of, curves_of, standing_of, footing_of, reached_of, row_below_of}

-- ---- densm's temperature does not depend on the gas

in_answer : (b : Bool) (d t : Float) → temperature_in (cond b (Temperature t) (Density d t)) ≡ t
in_answer true d t = refl
in_answer false d t = refl

answer_temperature : (xm d t : Float) → temperature_in (profile_answer xm d t) ≡ t
unfolding profile_answer
answer_temperature xm d t = in_answer (eq xm 0·0) d t

chosen_temperature : (b : Bool) (x y : Profile) (s t : Float) → temperature_in x ≡ s → temperature_in y ≡ t → temperature_in (cond b x y) ≡ cond b s t
chosen_temperature true x y s t e f = e
chosen_temperature false x y s t e f = f

densm_temperature : (rgas gsurf re alt d0 xm tz : Float) (mn3 : ℕ) (zn3 tn3 tgn3 : List Float) (mn2 : ℕ) (zn2 tn2 tgn2 : List Float)
    → temperature_in (densm_of rgas gsurf re alt d0 xm tz mn3 zn3 tn3 tgn3 mn2 zn2 tn2 tgn2)
    ≡ cond (lt (zn2 ‼ 0) alt) tz (cond (lt (zn3 ‼ 0) alt) (floored_of re zn2 tn2 mn2 tgn2 alt).tz (layer_of re zn3 tn3 mn3 tgn3 alt).tz)
unfolding densm_of
densm_temperature rgas gsurf re alt d0 xm tz mn3 zn3 tn3 tgn3 mn2 zn2 tn2 tgn2 =
    chosen_temperature (lt (zn2 ‼ 0) alt) _ _ _ _ (answer_temperature xm d0 tz)
    (chosen_temperature (lt (zn3 ‼ 0) alt) _ _ _ _ (answer_temperature xm _ _) (answer_temperature xm _ _))

nested_first : (b : Bool) (x y : Float) → cond b (cond b x y) y ≡ cond b x y
nested_first true x y = refl
nested_first false x y = refl

temperature_is : (x : Site) (alt d : Float) (w : Nodes) → temperature_in (lower_temperature x alt (temperature_in (lower_n2 x alt d w)) w) ≡ temperature_in (lower_n2 x alt d w)
unfolding lower_n2 lower_temperature
temperature_is x alt d w =
    let in_layers = cond (lt (zn3 ‼ 0) alt) (floored_of x.re zn2 w.tn2 4 w.tgn2 alt).tz (layer_of x.re zn3 w.tn3 5 w.tgn3 alt).tz in
    let of_n2 = densm_temperature x.nine.rgas x.gsurf x.re alt d x.nine.xmm 0·0 5 zn3 w.tn3 w.tgn3 4 zn2 w.tn2 w.tgn2 in
    densm_temperature x.nine.rgas x.gsurf x.re alt 1·0 0·0 _ 5 zn3 w.tn3 w.tgn3 4 zn2 w.tn2 w.tgn2
    ∙ ap (λ (t : Float). cond (lt (zn2 ‼ 0) alt) t in_layers) of_n2
    ∙ nested_first (lt (zn2 ‼ 0) alt) 0·0 in_layers
    ∙ sym of_n2

-- ---- the row, from what it reads of gts7

below_is : (sw0 : Float) (x : Site) (alt : Float) (u : Gts7Output) (w : Nodes) (f : Footing)
    → f.tinf ≡ u.shape.tinf
    → f.dm28m ≡ dm28m_of sw0 u.base.dm
    → f.he ≡ u.d ‼ 0
    → f.n2 ≡ u.d ‼ 2
    → f.o2 ≡ u.d ‼ 3
    → f.ar ≡ u.d ‼ 4
    → reached_of f.x f.dm28m f.meso f.curves alt ≡ lower_n2 x alt (dm28m_of sw0 u.base.dm) w
    → row_below_of sw0 f alt ≡ (gtd7_below sw0 x alt u w).row
unfolding gtd7_below row_below_of
below_is sw0 x alt u w f e0 e1 e2 e3 e4 e5 e6 =
    rw (e6, e0, e1, e2, e3, e4, e5, temperature_is x alt (dm28m_of sw0 u.base.dm) w)

-- ---- what gts7 gives

scaled : (b : Bool) (xs ys : List Float) (i : ℕ) → cond b (ys ‼ i) (xs ‼ i) ≡ cond (not b) xs ys ‼ i
scaled true xs ys i = refl
scaled false xs ys i = refl

module _ (sw0 he o n2 o2 ar all h n oh : Float) where
  units_he : in_units_of sw0 he ≡ units_of sw0 he o n2 o2 ar all h n oh ‼ 0
  unfolding in_units_of units_of
  units_he = scaled (ne sw0 0·0) _ _ 0

  units_n2 : in_units_of sw0 n2 ≡ units_of sw0 he o n2 o2 ar all h n oh ‼ 2
  unfolding in_units_of units_of
  units_n2 = scaled (ne sw0 0·0) _ _ 2

  units_o2 : in_units_of sw0 o2 ≡ units_of sw0 he o n2 o2 ar all h n oh ‼ 3
  unfolding in_units_of units_of
  units_o2 = scaled (ne sw0 0·0) _ _ 3

  units_ar : in_units_of sw0 ar ≡ units_of sw0 he o n2 o2 ar all h n oh ‼ 4
  unfolding in_units_of units_of
  units_ar = scaled (ne sw0 0·0) _ _ 4

six_is : (sw : List Float) (h : Shape) (m : Mixed) (z b28 flux xmm : Float) (l : ExpansionValues)
    → let zhm = pdm_t2 ‼ 3 ⊗ pdl_t1 ‼ 5 in
    told (answer_to l) (species_plan sw h m z b28 flux xmm)
    ≡ record {
      he = told (answer_to l) (helium_plan sw h m.he z b28 zhm xmm);
      o = told (answer_to l) (oxygen_plan sw h m.o z zhm xmm flux);
      o2 = told (answer_to l) (o2_plan sw h m.o2 z b28 zhm xmm flux);
      ar = told (answer_to l) (argon_plan sw h m.ar z b28 zhm xmm);
      h = told (answer_to l) (hydrogen_plan sw h m.h z b28 zhm xmm);
      n = told (answer_to l) (nitrogen_plan sw h m.n z b28 zhm xmm);
    }
unfolding species_plan
six_is sw h m z b28 flux xmm l =
    let zhm = pdm_t2 ‼ 3 ⊗ pdl_t1 ‼ 5 in
    then (answer_to l) (helium_plan sw h m.he z b28 zhm xmm) _ _ refl
    ∙ then (answer_to l) (oxygen_plan sw h m.o z zhm xmm flux) _ _ refl
    ∙ then (answer_to l) (o2_plan sw h m.o2 z b28 zhm xmm flux) _ _ refl
    ∙ then (answer_to l) (argon_plan sw h m.ar z b28 zhm xmm) _ _ refl
    ∙ then (answer_to l) (hydrogen_plan sw h m.h z b28 zhm xmm) _ _ refl
    ∙ then (answer_to l) (nitrogen_plan sw h m.n z b28 zhm xmm) _ _ refl
    ∙ last (answer_to l) _

pub gts7_is : (sw : List Float) (x : Site) (z : Float) (l : ExpansionValues) (h : Shape) (b : Blend)
    → h ≡ told (answer_to l) (shape_plan sw x z)
    → b ≡ told (answer_to l) (n2_plan sw h (mixed_at x.nine (sw ‼ 15) z).n2 z x.zhf x.nine.xmm)
    → told (answer_to l) (gts7_plan sw x z)
    ≡ gather_of (sw ‼ 0) h z b (told (answer_to l) (species_plan sw h (mixed_at x.nine (sw ‼ 15) z) z b.b x.flux x.nine.xmm)) (told (answer_to l) (anomalous_plan sw (anomalous_of h) z))
unfolding gts7_plan
gts7_is sw x z l h b e f =
    then (answer_to l) (shape_plan sw x z) _ h e
    ∙ then (answer_to l) (n2_plan sw h (mixed_at x.nine (sw ‼ 15) z).n2 z x.zhf x.nine.xmm) _ b f
    ∙ then (answer_to l) (species_plan sw h (mixed_at x.nine (sw ‼ 15) z) z b.b x.flux x.nine.xmm) _ _ refl
    ∙ then (answer_to l) (anomalous_plan sw (anomalous_of h) z) _ _ refl
    ∙ told_keep (answer_to l) _ _
    ∙ last (answer_to l) _

same_densities : (he n2 o2 ar dm a b c d : Float) → he ≡ a → n2 ≡ b → o2 ≡ c → ar ≡ d
    → ◌≡◌ {A = Summit} (record { known = true; he = he; n2 = n2; o2 = o2; ar = ar; dm28 = dm }) (record { known = true; he = a; n2 = b; o2 = c; ar = d; dm28 = dm })
same_densities he n2 o2 ar dm a b c d e f g h = rw (e, f, g, h)

-- what the altitudes below 72.5 km read of gts7 there is what gts7 gives
pub summit_is : (sw : List Float) (x : Site) (l : ExpansionValues)
    → let u = told (answer_to l) (gts7_plan sw x 72·5) in
    ◌≡◌ {A = Summit} (record { known = true; he = u.d ‼ 0; n2 = u.d ‼ 2; o2 = u.d ‼ 3; ar = u.d ‼ 4; dm28 = u.base.dm }) (summit_of sw x l)
unfolding summit_of summit_at summit_from three_of gather_of
summit_is sw x l =
    let h = told (answer_to l) (shape_plan sw x 72·5) in
    let k = mixed_at x.nine (sw ‼ 15) 72·5 in
    let b = told (answer_to l) (n2_plan sw h k.n2 72·5 x.zhf x.nine.xmm) in
    let s = six_is sw h k 72·5 b.b x.flux x.nine.xmm l in
    ap {A = Gts7Output} {B = Summit} (λ u. record { known = true; he = u.d ‼ 0; n2 = u.d ‼ 2; o2 = u.d ‼ 3; ar = u.d ‼ 4; dm28 = u.base.dm }) (gts7_is sw x 72·5 l h b refl refl)
    ∙ same_densities _ _ _ _ b.dm _ _ _ _
    (sym (units_he (sw ‼ 0) _ _ _ _ _ _ _ _ _) ∙ ap (λ (k : SixSpecies). in_units_of (sw ‼ 0) k.he.dens) s)
    (sym (units_n2 (sw ‼ 0) _ _ _ _ _ _ _ _ _))
    (sym (units_o2 (sw ‼ 0) _ _ _ _ _ _ _ _ _) ∙ ap (λ (k : SixSpecies). in_units_of (sw ‼ 0) k.o2.dens) s)
    (sym (units_ar (sw ‼ 0) _ _ _ _ _ _ _ _ _) ∙ ap (λ (k : SixSpecies). in_units_of (sw ‼ 0) k.ar.dens) s)

-- ---- the layers

under_32 : lt 0·0 32·5 ≡ true
unfolding lt of_bits
under_32 = refl

module _ (sw : List Float) (l : ExpansionValues) (m : Meso) where
  -- lower_plan reads of the altitude whether it is below 32.5 km
  same_nodes : (y z : Float) → lt y 32·5 ≡ lt z 32·5 → told (answer_to l) (lower_plan sw y m) ≡ told (answer_to l) (lower_plan sw z m)
  unfolding lower_plan
  same_nodes y z e = rw e

  no_nodes : (z : Float) → lt z 32·5 ≡ false → unset_nodes m ≡ told (answer_to l) (lower_plan sw z m)
  unfolding lower_plan told
  no_nodes z e = rw e

  -- the nodes above 32.5 km are there in either case
  topmost : (z : Float) (b : Bool) → lt z 32·5 ≡ b
      → ((told (answer_to l) (lower_plan sw z m)).tn2 ≡ m.tn2) × ((told (answer_to l) (lower_plan sw z m)).tgn2 ≡ m.tgn2)
  unfolding lower_plan told ◌>>=◌ troposphere_of unset_nodes
  topmost z true e = (rw e, rw e)
  topmost z false e = (rw e, rw e)

  upper_span : (x : Site) (d : Float) (tropo : Bool)
      → (curves_of sw x d m l tropo).upper ≡ span_of x.nine.rgas x.gsurf x.re x.nine.xmm (layer_of x.re zn2 m.tn2 4 m.tgn2 32·5)
  unfolding curves_of
  upper_span x d true = refl
  upper_span x d false = refl

  module _ (x : Site) (gas : HasMass x) (d alt : Float) (inside : lt 72·5 alt ≡ false) where
    in_upper : (tropo : Bool) → lt 32·5 alt ≡ true → reached_of x d m (curves_of sw x d m l tropo) alt ≡ lower_n2 x alt d (told (answer_to l) (lower_plan sw alt m))
    unfolding reached_of lower_n2
    in_upper tropo t =
        let w = told (answer_to l) (lower_plan sw alt m) in
        let same = topmost alt (lt alt 32·5) refl in
        rw (t, upper_span x d tropo, same.0, same.1)
        (densm_upper x.nine.rgas x.gsurf x.re alt d x.nine.xmm 0·0 zn3 w.tn3 w.tgn3 zn2 m.tn2 m.tgn2 32·5 gas inside t t)

    in_lower : lt 32·5 alt ≡ false → lt alt 32·5 ≡ true → reached_of x d m (curves_of sw x d m l true) alt ≡ lower_n2 x alt d (told (answer_to l) (lower_plan sw alt m))
    unfolding reached_of lower_n2 curves_of
    in_lower f t =
        let w = told (answer_to l) (lower_plan sw alt m) in
        let same = topmost alt true t in
        rw (f, t, same_nodes 0·0 alt (under_32 ∙ sym t), same.0, same.1)
        (densm_lower x.nine.rgas x.gsurf x.re alt d x.nine.xmm 0·0 zn3 w.tn3 w.tgn3 zn2 m.tn2 m.tgn2 0·0 gas inside f f)

    at_32 : (k : Curves) → lt 32·5 alt ≡ false → lt alt 32·5 ≡ false → reached_of x d m k alt ≡ lower_n2 x alt d (told (answer_to l) (lower_plan sw alt m))
    unfolding reached_of
    at_32 k f g = rw (f, g) (ap (lower_n2 x alt d) (no_nodes alt g))

    reached_is : (tropo a b : Bool) → lt 32·5 alt ≡ a → lt alt 32·5 ≡ b → (b ≡ true → tropo ≡ true)
        → reached_of x d m (curves_of sw x d m l tropo) alt ≡ lower_n2 x alt d (told (answer_to l) (lower_plan sw alt m))
    reached_is tropo true b e f c = in_upper tropo e
    reached_is tropo false true e f c = ap (λ (t : Bool). reached_of x d m (curves_of sw x d m l t) alt) (c refl) ∙ in_lower e f
    reached_is tropo false false e f c = at_32 (curves_of sw x d m l tropo) e f

-- From the footing at 72.5 km, the mass of mixed air not being 0, the row of an altitude not above it is that of gtd7; the footing has the troposphere where the altitude asks for it
pub row_is : (sw : List Float) (x : Site) (l : ExpansionValues) (tropo : Bool) (alt : Float) → HasMass x → (lt alt 32·5 ≡ true → tropo ≡ true) → lt 72·5 alt ≡ false
    → let u = told (answer_to l) (gts7_plan sw x 72·5) in
    row_below_of (sw ‼ 0) (footing_of sw x l tropo) alt
    ≡ (gtd7_below (sw ‼ 0) x alt u (told (answer_to l) (lower_plan sw alt (told (answer_to l) (meso_plan sw u))))).row
unfolding footing_of standing_of three_of meso_plan gather_of
row_is sw x l tropo alt gas c inside =
    let h = told (answer_to l) (shape_plan sw x 72·5) in
    let k = mixed_at x.nine (sw ‼ 15) 72·5 in
    let b = told (answer_to l) (n2_plan sw h k.n2 72·5 x.zhf x.nine.xmm) in
    let y = told (answer_to l) (species_plan sw h k 72·5 b.b x.flux x.nine.xmm) in
    let o = told (answer_to l) (anomalous_plan sw (anomalous_of h) 72·5) in
    let u = gather_of (sw ‼ 0) h 72·5 b y o in
    let m = told (answer_to l) (meso_nodes_plan sw h) in
    let s = six_is sw h k 72·5 b.b x.flux x.nine.xmm l in
    below_is (sw ‼ 0) x alt u (told (answer_to l) (lower_plan sw alt m)) (footing_of sw x l tropo)
    refl
    refl
    (ap (λ (k : SixSpecies). in_units_of (sw ‼ 0) k.he.dens) (sym s) ∙ units_he (sw ‼ 0) _ _ _ _ _ _ _ _ _)
    (units_n2 (sw ‼ 0) _ _ _ _ _ _ _ _ _)
    (ap (λ (k : SixSpecies). in_units_of (sw ‼ 0) k.o2.dens) (sym s) ∙ units_o2 (sw ‼ 0) _ _ _ _ _ _ _ _ _)
    (ap (λ (k : SixSpecies). in_units_of (sw ‼ 0) k.ar.dens) (sym s) ∙ units_ar (sw ‼ 0) _ _ _ _ _ _ _ _ _)
    (reached_is sw l m x gas (dm28m_of (sw ‼ 0) b.dm) alt inside tropo (lt 32·5 alt) (lt alt 32·5) refl refl c)
    ∙ ap (λ (g : Gts7Output). (gtd7_below (sw ‼ 0) x alt g (told (answer_to l) (lower_plan sw alt (told (answer_to l) (meso_nodes_plan sw g.shape))))).row)
    (sym (gts7_is sw x 72·5 l h b refl refl))
