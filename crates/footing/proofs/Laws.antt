-- The footing, from what each stage gives.
use mathlib.Core.Path.{◌≡◌, ap, ◌∙◌}
use mathlib.Core.Bool.{Bool, true, false}
use mathlib.Core.List.{List, [], ◌∷◌}
use lib.Ieee.{Float, lt}
use Rattle.numbers.specs.Arithmetic.{◌⊕◌, ◌⊖◌, ◌⊗◌, ◌⊘◌, ◌‼◌}
use Rattle.numbers.specs.Literals.{0·0, 1·0, 32·5, 72·5}
use Rattle.mixing_limits.specs.Limits.{mixed_at}
use Rattle.mixing_limits.specs.declared.Mixed.{Mixed}
use Rattle.profile.specs.declared.unchecked.Shape.{Shape}
use Rattle.profile.specs.declared.unchecked.Profile.{Profile}
use Rattle.profile.specs.Profile.{returned_number, temperature_in}
use Rattle.layers.specs.Layers.{down_of}
use Rattle.plan.specs.declared.ExpansionValues.{ExpansionValues}
use Rattle.plan.specs.Plan.{told, answer_to}
use Rattle.species.specs.declared.Blend.{Blend}
use Rattle.species.specs.declared.Mixture.{Mixture}
use Rattle.tables.specs.Tables.{pdm_t0, pdm_t2, pdm_t3, pdm_t4, pdl_t1}
use Rattle.gts7_arithmetic.specs.declared.Site.{Site}
use Rattle.gts7_arithmetic.specs.Gts7Arithmetic.{mass_of}
use Rattle.stages.specs.Stages.{shape_plan, n2_plan, helium_plan, o2_plan, argon_plan}
use Rattle.lower_atmosphere.specs.declared.Meso.{Meso}
use Rattle.lower_atmosphere.specs.declared.Nodes.{Nodes}
use Rattle.mixing.specs.Mixing.{dmc_of}
use Rattle.lower_atmosphere.specs.LowerAtmosphere.{meso_nodes_plan, unset_nodes, dm28m_of, lower_n2, full_of, kilograms_of}
use Rattle.footing.specs.declared.Curves.{Curves}
use Rattle.footing.specs.declared.Footing.{Footing}
use Rattle.footing.specs.declared.Summit.{Summit}
use Rattle.footing.specs.declared.Three.{Three}
use Rattle.footing.specs.Footing.{three_of, summit_from, summit_at, summit_of, curves_of, standing_of, footing_of, reached_of, row_below_of}

-- the entry that a species has, from the row that was read
pub third : (m row : List Float) → m ≡ row → m ‼ 2 ≡ row ‼ 2
third m row e = ap (λ (x : List Float). x ‼ 2) e

pub three_law : (sw : List Float) (h : Shape) (k : Mixed) (b28 flux xmm : Float) (l : ExpansionValues) (ar o2 he : Mixture) (d m : List Float)
    → ar ≡ told (answer_to l) (argon_plan sw h k.ar 72·5 b28 (m ‼ 3 ⊗ d ‼ 5) xmm)
    → o2 ≡ told (answer_to l) (o2_plan sw h k.o2 72·5 b28 (m ‼ 3 ⊗ d ‼ 5) xmm flux)
    → he ≡ told (answer_to l) (helium_plan sw h k.he 72·5 b28 (m ‼ 3 ⊗ d ‼ 5) xmm)
    → d ≡ pdl_t1
    → m ≡ pdm_t2
    → ◌≡◌ {A = Three} (record { he = he; o2 = o2; ar = ar }) (three_of sw h k b28 flux xmm l)
unfolding three_of
three_law sw h k b28 flux xmm l ar o2 he d m e0 e1 e2 e3 e4 = rw (e0, e1, e2, e3, e4)

pub summit_law : (sw : List Float) (x : Site) (h : Shape) (l : ExpansionValues) (r : Summit) (y : Three) (b : Blend) (m : Mixed)
    → r ≡ summit_from (sw ‼ 0) b y
    → y ≡ three_of sw h m b.b x.flux x.nine.xmm l
    → b ≡ told (answer_to l) (n2_plan sw h m.n2 72·5 x.zhf x.nine.xmm)
    → m ≡ mixed_at x.nine (sw ‼ 15) 72·5
    → r ≡ summit_at sw x h l
unfolding summit_at
summit_law sw x h l r y b m e0 e1 e2 e3 = rw (e0, e1, e2, e3)

pub summit_there : (sw : List Float) (x : Site) (h : Shape) (l : ExpansionValues) (q : Summit) → h ≡ told (answer_to l) (shape_plan sw x 72·5) → q ≡ summit_of sw x l → q ≡ summit_at sw x h l
unfolding summit_of
summit_there sw x h l q e f = rw e f

pub footing_law : (sw : List Float) (x : Site) (l : ExpansionValues) (tropo : Bool) (k : Curves) (d : Float) (e : Meso) (u : Summit) (h : Shape)
    → k ≡ curves_of sw x d e l tropo
    → d ≡ dm28m_of (sw ‼ 0) u.dm28
    → e ≡ told (answer_to l) (meso_nodes_plan sw h)
    → u ≡ summit_at sw x h l
    → h ≡ told (answer_to l) (shape_plan sw x 72·5)
    → ◌≡◌ {A = Footing} (record { x = x; tinf = h.tinf; dm28m = d; he = u.he; n2 = u.n2; o2 = u.o2; ar = u.ar; meso = e; curves = k }) (footing_of sw x l tropo)
unfolding footing_of standing_of summit_at summit_from
footing_law sw x l tropo k d e u h e0 e1 e2 e3 e4 = rw (e0, e1, e2, e3, e4)

-- densm for N2, by the side of 32.5 km on which the altitude lies
module _ (x : Site) (d : Float) (m : Meso) (k : Curves) (alt : Float) (r : Profile) where
  pub upper_law : r ≡ down_of x.re 72·5 k.upper 4 d alt → lt 32·5 alt ≡ true → r ≡ reached_of x d m k alt
  unfolding reached_of
  upper_law e t = rw t e

  pub lower_law : r ≡ down_of x.re 32·5 k.lower 5 k.d32 alt → lt alt 32·5 ≡ true → lt 32·5 alt ≡ false → r ≡ reached_of x d m k alt
  unfolding reached_of
  lower_law e t f = rw (f, t) e

  pub between_law : (w : Nodes) → r ≡ lower_n2 x alt d w → w ≡ unset_nodes m → lt alt 32·5 ≡ false → lt 32·5 alt ≡ false → r ≡ reached_of x d m k alt
  unfolding reached_of
  between_law w e u f g = rw (g, f) (e ∙ ap (lower_n2 x alt d) u)

pub row_law : (sw0 : Float) (f : Footing) (alt : Float) (all g ar o2 he t1 n : Float) (a : Profile) (c : Float) (m4 m3 m0 : List Float)
    → all ≡ kilograms_of sw0 g
    → g ≡ mass_of he 0·0 (n ⊗ (1·0 ⊕ (f.n2 ⊘ f.dm28m ⊖ 1·0) ⊗ c)) o2 ar 0·0 0·0
    → ar ≡ full_of (n ⊗ (1·0 ⊕ (f.n2 ⊘ f.dm28m ⊖ 1·0) ⊗ c)) (m4 ‼ 1) f.ar f.n2 c
    → o2 ≡ full_of (n ⊗ (1·0 ⊕ (f.n2 ⊘ f.dm28m ⊖ 1·0) ⊗ c)) (m3 ‼ 1) f.o2 f.n2 c
    → he ≡ full_of (n ⊗ (1·0 ⊕ (f.n2 ⊘ f.dm28m ⊖ 1·0) ⊗ c)) (m0 ‼ 1) f.he f.n2 c
    → t1 ≡ temperature_in a
    → n ≡ returned_number a
    → a ≡ reached_of f.x f.dm28m f.meso f.curves alt
    → c ≡ dmc_of alt
    → m4 ≡ pdm_t4
    → m3 ≡ pdm_t3
    → m0 ≡ pdm_t0
    → he ∷ 0·0 ∷ (n ⊗ (1·0 ⊕ (f.n2 ⊘ f.dm28m ⊖ 1·0) ⊗ c)) ∷ o2 ∷ ar ∷ all ∷ 0·0 ∷ 0·0 ∷ 0·0 ∷ f.tinf ∷ t1 ∷ [] ≡ row_below_of sw0 f alt
unfolding row_below_of
row_law sw0 f alt all g ar o2 he t1 n a c m4 m3 m0 e0 e1 e2 e3 e4 e5 e6 e7 e8 e9 e10 e11 =
    simp (e0, e1, e2, e3, e4, e5, e6, e7, e8, e9, e10, e11)
