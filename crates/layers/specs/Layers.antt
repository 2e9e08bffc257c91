-- densm in two parts: what a layer's nodes fix for every altitude, and what an altitude reads there.
use Rattle.std.specs.Prelude.{ℕ, ◌≡◌, true, false, List, [], ◌∷◌, replicate, Float}
use Rattle.std.proofs.Math.Path.{refl}
use Rattle.std.specs.Float.Ieee.{neg, lt, eq}
use Rattle.numbers.specs.Arithmetic.{◌⊕◌, ◌⊗◌, ◌⊘◌, ◌‼◌}
use Rattle.numbers.specs.Literals.{0·0, 1·0, 2·0}
use Rattle.elementary.specs.Exp.{exp_of}
use Rattle.elementary.specs.Pow.{pow_of}
use Rattle.spline.specs.Nodes.{segment_of, integral, splini_of, searched, splint_of}
use Rattle.profile.specs.Gravity.{zeta_of}
use Rattle.profile.specs.Curve.{layer_of, floored_of, exponent_of, capped_of}
use Rattle.profile.specs.Profile.{lowered_of, profile_answer, densm_of}
use Rattle.profile.specs.declared.curve.Curve.{Curve}
use Rattle.profile.specs.declared.unchecked.Profile.{Profile}
use Rattle.profile.specs.declared.unchecked.Profile.TheVariants.{Density}
use Rattle.layers.specs.declared.Read.{Read}
use Rattle.layers.specs.declared.Span.{Span}

unfoldable pub first_five : List Float → List Float
first_five a = (a ‼ 0) ∷ (a ‼ 1) ∷ (a ‼ 2) ∷ (a ‼ 3) ∷ (a ‼ 4) ∷ []

-- what the nodes of a curve fix; gamm is exponent_of's
unfoldable pub span_of : Float → Float → Float → Float → Curve → Span
span_of rgas gsurf re xm l =
    let glb = gsurf ⊘ pow_of (1·0 ⊕ l.z1 ⊘ re) 2·0 in
    record {
      t1 = l.t1;
      zgdif = l.zgdif;
      gamm = xm ⊗ glb ⊗ l.zgdif ⊘ rgas;
      xs = first_five l.xs;
      ys = first_five l.ys;
      y2 = first_five l.y2;
    }

-- a layer that nothing reads
unfoldable pub blank_of : Span
blank_of = record { t1 = 0·0; zgdif = 0·0; gamm = 0·0; xs = replicate 5 0·0; ys = replicate 5 0·0; y2 = replicate 5 0·0 }

unfoldable pub layer_read : List Float → List Float → List Float → ℕ → Float → Read
layer_read xs ys y2 n x = record { y = splint_of xs ys y2 n x; yi = splini_of xs ys y2 n x }

-- the density d at the first node, z1, carried down to z over n nodes, and the temperature there
unfoldable pub down_of : Float → Float → Span → ℕ → Float → Float → Profile
down_of re z1 s n d z =
    let a = layer_read s.xs s.ys s.y2 n (zeta_of re z z1 ⊘ s.zgdif) in
    let tz = 1·0 ⊘ a.y in
    let expl = capped_of (s.gamm ⊗ a.yi) in
    Density (d ⊗ (s.t1 ⊘ tz) ⊗ exp_of (neg expl)) tz

-- ---- of ten numbers the spline reads as many as there are nodes

module _ (xs ys y2 : List Float) (x : Float) where
  splint_four : splint_of (first_five xs) (first_five ys) (first_five y2) 4 x ≡ splint_of xs ys y2 4 x
  unfolding first_five splint_of searched
  splint_four = refl

  pub splint_five : splint_of (first_five xs) (first_five ys) (first_five y2) 5 x ≡ splint_of xs ys y2 5 x
  unfolding first_five splint_of searched
  splint_five = refl

  splini_four : splini_of (first_five xs) (first_five ys) (first_five y2) 4 x ≡ splini_of xs ys y2 4 x
  unfolding first_five splini_of integral segment_of
  splini_four = refl

  pub splini_five : splini_of (first_five xs) (first_five ys) (first_five y2) 5 x ≡ splini_of xs ys y2 5 x
  unfolding first_five splini_of integral segment_of
  splini_five = refl

-- ---- a layer of densm, whatever the altitude w at which its nodes were worked out

-- densm's answer behind a layer
abbrev pub answer_on : Float → Float → Float → Float → Float → Curve → ℕ → Profile
answer_on rgas gsurf re xm d l n = profile_answer xm (lowered_of rgas gsurf re xm d l n) l.tz

module _ (rgas gsurf re xm d : Float) (zn tn tgn : List Float) (w z : Float) (gas : eq xm 0·0 ≡ false) where
  pub down_four : down_of re (zn ‼ 0) (span_of rgas gsurf re xm (layer_of re zn tn 4 tgn w)) 4 d z ≡ answer_on rgas gsurf re xm d (layer_of re zn tn 4 tgn z) 4
  unfolding down_of layer_read span_of layer_of profile_answer lowered_of exponent_of
  down_four = rw (gas, splint_four, splini_four)

  pub down_five : down_of re (zn ‼ 0) (span_of rgas gsurf re xm (layer_of re zn tn 5 tgn w)) 5 d z ≡ answer_on rgas gsurf re xm d (layer_of re zn tn 5 tgn z) 5
  unfolding down_of layer_read span_of layer_of profile_answer lowered_of exponent_of
  down_five = rw (gas, splint_five, splini_five)

-- ---- densm over two layers of four nodes and five

module _ (rgas gsurf re alt d xm tz : Float) (zn3 tn3 tgn3 zn2 tn2 tgn2 : List Float) (w : Float) (gas : eq xm 0·0 ≡ false) (inside : lt (zn2 ‼ 0) alt ≡ false) where
  -- In the upper one, down to where its nodes end
  pub densm_upper : lt (zn2 ‼ 3) alt ≡ true → lt (zn3 ‼ 0) alt ≡ true
      → down_of re (zn2 ‼ 0) (span_of rgas gsurf re xm (layer_of re zn2 tn2 4 tgn2 w)) 4 d alt ≡ densm_of rgas gsurf re alt d xm tz 5 zn3 tn3 tgn3 4 zn2 tn2 tgn2
  unfolding densm_of floored_of
  densm_upper over above = rw (inside, over, above) (down_four rgas gsurf re xm d zn2 tn2 tgn2 w alt gas)

  -- In the lower one, from the density where the upper one's nodes end
  pub densm_lower : lt (zn2 ‼ 3) alt ≡ false → lt (zn3 ‼ 0) alt ≡ false
      → down_of re (zn3 ‼ 0) (span_of rgas gsurf re xm (layer_of re zn3 tn3 5 tgn3 w)) 5 (lowered_of rgas gsurf re xm d (layer_of re zn2 tn2 4 tgn2 (zn2 ‼ 3)) 4) alt
      ≡ densm_of rgas gsurf re alt d xm tz 5 zn3 tn3 tgn3 4 zn2 tn2 tgn2
  unfolding densm_of floored_of
  densm_lower not_over not_above =
      rw (inside, not_over, not_above) (down_five rgas gsurf re xm (lowered_of rgas gsurf re xm d (layer_of re zn2 tn2 4 tgn2 (zn2 ‼ 3)) 4) zn3 tn3 tgn3 w alt gas)
