-- A footing reads no value of PD[1], PD[6], PD[7] and PD[8].
use Rattle.std.specs.Prelude.{◌≡◌, Bool, true, false, not, List, Float}
use Rattle.std.proofs.Math.Path.{refl, sym}
use Rattle.std.proofs.Common.{◌∙◌}
use Rattle.std.specs.Float.Ieee.{lt}
use Rattle.numbers.specs.Arithmetic.{◌‼◌}
use Rattle.numbers.specs.Literals.{32·5, 72·5, 300·0}
use Rattle.mixing_limits.specs.declared.Mixed.{Mixed}
use Rattle.profile.specs.declared.unchecked.Shape.{Shape}
use Rattle.plan.specs.declared.ExpansionValues.{ExpansionValues}
use Rattle.plan.specs.Plan.{Plan, Ask, either, ◌>>=◌, told, answer_to, then, last}
use Rattle.tables.specs.Tables.{pdl_t1}
use Rattle.gts7_arithmetic.specs.declared.Site.{Site}
use Rattle.stages.specs.Stages.{tinf_plan, gradient_plan, tlb_plan, nodes_plan, shape_plan, n2_plan, helium_plan, o2_plan, argon_plan}
use Rattle.lower_atmosphere.specs.declared.Meso.{Meso}
use Rattle.lower_atmosphere.specs.LowerAtmosphere.{meso_nodes_plan, lower_plan}
use Rattle.footing.specs.Footing.{three_of, curves_of, footing_of}

-- the values but for those four are the same
pub record SameButFour (l m : ExpansionValues) : Type 0 where
  pub pt : l.pt ≡ m.pt
  pub ps : l.ps ≡ m.ps
  pub pd0 : l.pd0 ≡ m.pd0
  pub pd2 : l.pd2 ≡ m.pd2
  pub pd3 : l.pd3 ≡ m.pd3
  pub pd4 : l.pd4 ≡ m.pd4
  pub pd5 : l.pd5 ≡ m.pd5
  pub ptl0 : l.ptl0 ≡ m.ptl0
  pub ptl1 : l.ptl1 ≡ m.ptl1
  pub ptl2 : l.ptl2 ≡ m.ptl2
  pub ptl3 : l.ptl3 ≡ m.ptl3
  pub pma0 : l.pma0 ≡ m.pma0
  pub pma1 : l.pma1 ≡ m.pma1
  pub pma2 : l.pma2 ≡ m.pma2
  pub pma3 : l.pma3 ≡ m.pma3
  pub pma4 : l.pma4 ≡ m.pma4
  pub pma5 : l.pma5 ≡ m.pma5
  pub pma6 : l.pma6 ≡ m.pma6
  pub pma7 : l.pma7 ≡ m.pma7
  pub pma8 : l.pma8 ≡ m.pma8
  pub pma9 : l.pma9 ≡ m.pma9

one_of : {A : Type 0} (g k : Ask → Float) (b : Bool) (p q : Plan A) → told g p ≡ told k p → told g q ≡ told k q → told g (either b p q) ≡ told k (either b p q)
one_of g k true p q e f = e
one_of g k false p q e f = f

module _ (l m : ExpansionValues) (s : SameButFour l m) (sw : List Float) where
  tinf_same : (z : Float) → told (answer_to l) (tinf_plan sw z) ≡ told (answer_to m) (tinf_plan sw z)
  unfolding told tinf_plan ◌>>=◌
  tinf_same z = one_of (answer_to l) (answer_to m) (lt (pdl_t1 ‼ 15) z) _ _ (rw s.pt) refl

  gradient_same : (z : Float) → told (answer_to l) (gradient_plan sw z) ≡ told (answer_to m) (gradient_plan sw z)
  unfolding told gradient_plan ◌>>=◌
  gradient_same z = one_of (answer_to l) (answer_to m) (lt 72·5 z) _ _ (rw s.ps) refl

  tlb_same : told (answer_to l) (tlb_plan sw) ≡ told (answer_to m) (tlb_plan sw)
  unfolding told tlb_plan ◌>>=◌
  tlb_same = rw s.pd3

  nodes_same : (z : Float) → told (answer_to l) (nodes_plan sw z) ≡ told (answer_to m) (nodes_plan sw z)
  unfolding told nodes_plan ◌>>=◌
  nodes_same z = one_of (answer_to l) (answer_to m) (lt z 300·0) _ _ (rw (s.ptl0, s.ptl1, s.ptl2, s.ptl3, s.pma8)) refl

  shape_same : (x : Site) (z : Float) → told (answer_to l) (shape_plan sw x z) ≡ told (answer_to m) (shape_plan sw x z)
  unfolding shape_plan
  shape_same x z =
      then (answer_to l) (tinf_plan sw z) _ _ (sym (tinf_same z))
      ∙ then (answer_to l) (gradient_plan sw z) _ _ (sym (gradient_same z))
      ∙ then (answer_to l) (tlb_plan sw) _ _ (sym tlb_same)
      ∙ then (answer_to l) (nodes_plan sw z) _ _ (sym (nodes_same z))
      ∙ last (answer_to l) _
      ∙ sym
      (then (answer_to m) (tinf_plan sw z) _ _ refl
      ∙ then (answer_to m) (gradient_plan sw z) _ _ refl
      ∙ then (answer_to m) (tlb_plan sw) _ _ refl
      ∙ then (answer_to m) (nodes_plan sw z) _ _ refl
      ∙ last (answer_to m) _)

  n2_same : (h : Shape) (on : Bool) (z zhf xmm : Float) → told (answer_to l) (n2_plan sw h on z zhf xmm) ≡ told (answer_to m) (n2_plan sw h on z zhf xmm)
  unfolding told n2_plan ◌>>=◌
  n2_same h on z zhf xmm = rw s.pd2

  helium_same : (h : Shape) (on : Bool) (z b28 zhm xmm : Float) → told (answer_to l) (helium_plan sw h on z b28 zhm xmm) ≡ told (answer_to m) (helium_plan sw h on z b28 zhm xmm)
  unfolding told helium_plan ◌>>=◌
  helium_same h on z b28 zhm xmm = rw s.pd0

  o2_same : (h : Shape) (on : Bool) (z b28 zhm xmm flux : Float) → told (answer_to l) (o2_plan sw h on z b28 zhm xmm flux) ≡ told (answer_to m) (o2_plan sw h on z b28 zhm xmm flux)
  unfolding told o2_plan ◌>>=◌
  o2_same h on z b28 zhm xmm flux = rw s.pd4

  argon_same : (h : Shape) (on : Bool) (z b28 zhm xmm : Float) → told (answer_to l) (argon_plan sw h on z b28 zhm xmm) ≡ told (answer_to m) (argon_plan sw h on z b28 zhm xmm)
  unfolding told argon_plan ◌>>=◌
  argon_same h on z b28 zhm xmm = rw s.pd5

  meso_same : (h : Shape) → told (answer_to l) (meso_nodes_plan sw h) ≡ told (answer_to m) (meso_nodes_plan sw h)
  unfolding told meso_nodes_plan ◌>>=◌
  meso_same h = rw (s.pma0, s.pma1, s.pma2, s.pma9)

  lower_same : (z : Float) (w : Meso) → told (answer_to l) (lower_plan sw z w) ≡ told (answer_to m) (lower_plan sw z w)
  unfolding told lower_plan ◌>>=◌
  lower_same z w = one_of (answer_to l) (answer_to m) (not (lt z 32·5)) _ _ refl (rw (s.pma3, s.pma4, s.pma5, s.pma6, s.pma7))

  three_same : (h : Shape) (k : Mixed) (b28 flux xmm : Float) → three_of sw h k b28 flux xmm l ≡ three_of sw h k b28 flux xmm m
  unfolding three_of
  three_same h k b28 flux xmm = rw (helium_same h k.he 72·5 b28, o2_same h k.o2 72·5 b28, argon_same h k.ar 72·5 b28)

  curves_same : (x : Site) (d : Float) (w : Meso) (tropo : Bool) → curves_of sw x d w l tropo ≡ curves_of sw x d w m tropo
  unfolding curves_of
  curves_same x d w tropo = rw lower_same

  pub footing_same : (x : Site) (tropo : Bool) → footing_of sw x l tropo ≡ footing_of sw x m tropo
  unfolding footing_of
  footing_same x tropo = rw (shape_same x 72·5, n2_same, three_same, meso_same, curves_same)
