-- `season_phase` meets its contract. Made by scripts/season.py.
use Prim.Native.Nat.{ℕ}
use mathlib.Core.Path.{◌≡◌, refl, sym, ap, ◌∙◌}
use native.Mathlib.Omega.{arith}
use lib.Ieee.{Float, neg, of_bits}
use Rattle.numbers.specs.Arithmetic.{◌‼◌}
use Rattle.tables.specs.Tables.{pt_t, ps_t, pd_t0, pd_t1, pd_t2, pd_t3, pd_t4, pd_t5, pd_t6, pd_t7, pd_t8, ptl_t0, ptl_t1, ptl_t2, ptl_t3, pma_t0, pma_t1, pma_t2, pma_t3, pma_t4, pma_t5, pma_t6, pma_t7, pma_t8, pma_t9}
use Rattle.needed_sets.specs.Sets.{globe7_sets, glob7s_sets}
use Rattle.fixed_point.proofs.Arms.{rest_above}
use Rattle.season_phases.specs.Phases.{place_phases, season_phases, phases_of}
use Rattle.season_phases.proofs.season_phase.Goals as goal

-- the arm of the key k gives the phase at k
phase_at : {i k : ℕ} {x : Float} → i ≡ k → x ≡ place_phases ‼ k → x ≡ place_phases ‼ i
phase_at e f = f ∙ sym (ap (λ (j : ℕ). place_phases ‼ j) e)

pub returns-in-0 : goal.returns-in-0
unfolding place_phases season_phases phases_of globe7_sets glob7s_sets pt_t ps_t pd_t0 pd_t1 pd_t2 pd_t3 pd_t4 pd_t5 pd_t6 pd_t7 pd_t8 ptl_t0 ptl_t1 ptl_t2 ptl_t3 pma_t0 pma_t1 pma_t2 pma_t3 pma_t4 pma_t5 pma_t6 pma_t7 pma_t8 pma_t9 neg of_bits
returns-in-0 c = phase_at c.in-0.is refl

pub returns-in-1 : goal.returns-in-1
unfolding place_phases season_phases phases_of globe7_sets glob7s_sets pt_t ps_t pd_t0 pd_t1 pd_t2 pd_t3 pd_t4 pd_t5 pd_t6 pd_t7 pd_t8 ptl_t0 ptl_t1 ptl_t2 ptl_t3 pma_t0 pma_t1 pma_t2 pma_t3 pma_t4 pma_t5 pma_t6 pma_t7 pma_t8 pma_t9 neg of_bits
returns-in-1 c = phase_at c.in-1.is refl

pub returns-in-2 : goal.returns-in-2
unfolding place_phases season_phases phases_of globe7_sets glob7s_sets pt_t ps_t pd_t0 pd_t1 pd_t2 pd_t3 pd_t4 pd_t5 pd_t6 pd_t7 pd_t8 ptl_t0 ptl_t1 ptl_t2 ptl_t3 pma_t0 pma_t1 pma_t2 pma_t3 pma_t4 pma_t5 pma_t6 pma_t7 pma_t8 pma_t9 neg of_bits
returns-in-2 c = phase_at c.in-2.is refl

pub returns-in-3 : goal.returns-in-3
unfolding place_phases season_phases phases_of globe7_sets glob7s_sets pt_t ps_t pd_t0 pd_t1 pd_t2 pd_t3 pd_t4 pd_t5 pd_t6 pd_t7 pd_t8 ptl_t0 ptl_t1 ptl_t2 ptl_t3 pma_t0 pma_t1 pma_t2 pma_t3 pma_t4 pma_t5 pma_t6 pma_t7 pma_t8 pma_t9 neg of_bits
returns-in-3 c = phase_at c.in-3.is refl

pub returns-in-4 : goal.returns-in-4
unfolding place_phases season_phases phases_of globe7_sets glob7s_sets pt_t ps_t pd_t0 pd_t1 pd_t2 pd_t3 pd_t4 pd_t5 pd_t6 pd_t7 pd_t8 ptl_t0 ptl_t1 ptl_t2 ptl_t3 pma_t0 pma_t1 pma_t2 pma_t3 pma_t4 pma_t5 pma_t6 pma_t7 pma_t8 pma_t9 neg of_bits
returns-in-4 c = phase_at c.in-4.is refl

pub returns-in-5 : goal.returns-in-5
unfolding place_phases season_phases phases_of globe7_sets glob7s_sets pt_t ps_t pd_t0 pd_t1 pd_t2 pd_t3 pd_t4 pd_t5 pd_t6 pd_t7 pd_t8 ptl_t0 ptl_t1 ptl_t2 ptl_t3 pma_t0 pma_t1 pma_t2 pma_t3 pma_t4 pma_t5 pma_t6 pma_t7 pma_t8 pma_t9 neg of_bits
returns-in-5 c = phase_at c.in-5.is refl

pub returns-in-6 : goal.returns-in-6
unfolding place_phases season_phases phases_of globe7_sets glob7s_sets pt_t ps_t pd_t0 pd_t1 pd_t2 pd_t3 pd_t4 pd_t5 pd_t6 pd_t7 pd_t8 ptl_t0 ptl_t1 ptl_t2 ptl_t3 pma_t0 pma_t1 pma_t2 pma_t3 pma_t4 pma_t5 pma_t6 pma_t7 pma_t8 pma_t9 neg of_bits
returns-in-6 c = phase_at c.in-6.is refl

pub returns-in-7 : goal.returns-in-7
unfolding place_phases season_phases phases_of globe7_sets glob7s_sets pt_t ps_t pd_t0 pd_t1 pd_t2 pd_t3 pd_t4 pd_t5 pd_t6 pd_t7 pd_t8 ptl_t0 ptl_t1 ptl_t2 ptl_t3 pma_t0 pma_t1 pma_t2 pma_t3 pma_t4 pma_t5 pma_t6 pma_t7 pma_t8 pma_t9 neg of_bits
returns-in-7 c = phase_at c.in-7.is refl

pub returns-in-8 : goal.returns-in-8
unfolding place_phases season_phases phases_of globe7_sets glob7s_sets pt_t ps_t pd_t0 pd_t1 pd_t2 pd_t3 pd_t4 pd_t5 pd_t6 pd_t7 pd_t8 ptl_t0 ptl_t1 ptl_t2 ptl_t3 pma_t0 pma_t1 pma_t2 pma_t3 pma_t4 pma_t5 pma_t6 pma_t7 pma_t8 pma_t9 neg of_bits
returns-in-8 c = phase_at c.in-8.is refl

pub returns-in-9 : goal.returns-in-9
unfolding place_phases season_phases phases_of globe7_sets glob7s_sets pt_t ps_t pd_t0 pd_t1 pd_t2 pd_t3 pd_t4 pd_t5 pd_t6 pd_t7 pd_t8 ptl_t0 ptl_t1 ptl_t2 ptl_t3 pma_t0 pma_t1 pma_t2 pma_t3 pma_t4 pma_t5 pma_t6 pma_t7 pma_t8 pma_t9 neg of_bits
returns-in-9 c = phase_at c.in-9.is refl

pub returns-in-10 : goal.returns-in-10
unfolding place_phases season_phases phases_of globe7_sets glob7s_sets pt_t ps_t pd_t0 pd_t1 pd_t2 pd_t3 pd_t4 pd_t5 pd_t6 pd_t7 pd_t8 ptl_t0 ptl_t1 ptl_t2 ptl_t3 pma_t0 pma_t1 pma_t2 pma_t3 pma_t4 pma_t5 pma_t6 pma_t7 pma_t8 pma_t9 neg of_bits
returns-in-10 c = phase_at c.in-10.is refl

pub returns-in-11 : goal.returns-in-11
unfolding place_phases season_phases phases_of globe7_sets glob7s_sets pt_t ps_t pd_t0 pd_t1 pd_t2 pd_t3 pd_t4 pd_t5 pd_t6 pd_t7 pd_t8 ptl_t0 ptl_t1 ptl_t2 ptl_t3 pma_t0 pma_t1 pma_t2 pma_t3 pma_t4 pma_t5 pma_t6 pma_t7 pma_t8 pma_t9 neg of_bits
returns-in-11 c = phase_at c.in-11.is refl

pub returns-in-12 : goal.returns-in-12
unfolding place_phases season_phases phases_of globe7_sets glob7s_sets pt_t ps_t pd_t0 pd_t1 pd_t2 pd_t3 pd_t4 pd_t5 pd_t6 pd_t7 pd_t8 ptl_t0 ptl_t1 ptl_t2 ptl_t3 pma_t0 pma_t1 pma_t2 pma_t3 pma_t4 pma_t5 pma_t6 pma_t7 pma_t8 pma_t9 neg of_bits
returns-in-12 c = phase_at c.in-12.is refl

pub returns-in-13 : goal.returns-in-13
unfolding place_phases season_phases phases_of globe7_sets glob7s_sets pt_t ps_t pd_t0 pd_t1 pd_t2 pd_t3 pd_t4 pd_t5 pd_t6 pd_t7 pd_t8 ptl_t0 ptl_t1 ptl_t2 ptl_t3 pma_t0 pma_t1 pma_t2 pma_t3 pma_t4 pma_t5 pma_t6 pma_t7 pma_t8 pma_t9 neg of_bits
returns-in-13 c = phase_at c.in-13.is refl

pub returns-in-14 : goal.returns-in-14
unfolding place_phases season_phases phases_of globe7_sets glob7s_sets pt_t ps_t pd_t0 pd_t1 pd_t2 pd_t3 pd_t4 pd_t5 pd_t6 pd_t7 pd_t8 ptl_t0 ptl_t1 ptl_t2 ptl_t3 pma_t0 pma_t1 pma_t2 pma_t3 pma_t4 pma_t5 pma_t6 pma_t7 pma_t8 pma_t9 neg of_bits
returns-in-14 c = phase_at c.in-14.is refl

pub returns-in-15 : goal.returns-in-15
unfolding place_phases season_phases phases_of globe7_sets glob7s_sets pt_t ps_t pd_t0 pd_t1 pd_t2 pd_t3 pd_t4 pd_t5 pd_t6 pd_t7 pd_t8 ptl_t0 ptl_t1 ptl_t2 ptl_t3 pma_t0 pma_t1 pma_t2 pma_t3 pma_t4 pma_t5 pma_t6 pma_t7 pma_t8 pma_t9 neg of_bits
returns-in-15 c = phase_at c.in-15.is refl

pub returns-in-16 : goal.returns-in-16
unfolding place_phases season_phases phases_of globe7_sets glob7s_sets pt_t ps_t pd_t0 pd_t1 pd_t2 pd_t3 pd_t4 pd_t5 pd_t6 pd_t7 pd_t8 ptl_t0 ptl_t1 ptl_t2 ptl_t3 pma_t0 pma_t1 pma_t2 pma_t3 pma_t4 pma_t5 pma_t6 pma_t7 pma_t8 pma_t9 neg of_bits
returns-in-16 c = phase_at c.in-16.is refl

pub returns-in-17 : goal.returns-in-17
unfolding place_phases season_phases phases_of globe7_sets glob7s_sets pt_t ps_t pd_t0 pd_t1 pd_t2 pd_t3 pd_t4 pd_t5 pd_t6 pd_t7 pd_t8 ptl_t0 ptl_t1 ptl_t2 ptl_t3 pma_t0 pma_t1 pma_t2 pma_t3 pma_t4 pma_t5 pma_t6 pma_t7 pma_t8 pma_t9 neg of_bits
returns-in-17 c = phase_at c.in-17.is refl

pub returns-in-18 : goal.returns-in-18
unfolding place_phases season_phases phases_of globe7_sets glob7s_sets pt_t ps_t pd_t0 pd_t1 pd_t2 pd_t3 pd_t4 pd_t5 pd_t6 pd_t7 pd_t8 ptl_t0 ptl_t1 ptl_t2 ptl_t3 pma_t0 pma_t1 pma_t2 pma_t3 pma_t4 pma_t5 pma_t6 pma_t7 pma_t8 pma_t9 neg of_bits
returns-in-18 c = phase_at c.in-18.is refl

pub returns-in-19 : goal.returns-in-19
unfolding place_phases season_phases phases_of globe7_sets glob7s_sets pt_t ps_t pd_t0 pd_t1 pd_t2 pd_t3 pd_t4 pd_t5 pd_t6 pd_t7 pd_t8 ptl_t0 ptl_t1 ptl_t2 ptl_t3 pma_t0 pma_t1 pma_t2 pma_t3 pma_t4 pma_t5 pma_t6 pma_t7 pma_t8 pma_t9 neg of_bits
returns-in-19 c = phase_at c.in-19.is refl

pub returns-in-20 : goal.returns-in-20
unfolding place_phases season_phases phases_of globe7_sets glob7s_sets pt_t ps_t pd_t0 pd_t1 pd_t2 pd_t3 pd_t4 pd_t5 pd_t6 pd_t7 pd_t8 ptl_t0 ptl_t1 ptl_t2 ptl_t3 pma_t0 pma_t1 pma_t2 pma_t3 pma_t4 pma_t5 pma_t6 pma_t7 pma_t8 pma_t9 neg of_bits
returns-in-20 c = phase_at c.in-20.is refl

pub returns-in-21 : goal.returns-in-21
unfolding place_phases season_phases phases_of globe7_sets glob7s_sets pt_t ps_t pd_t0 pd_t1 pd_t2 pd_t3 pd_t4 pd_t5 pd_t6 pd_t7 pd_t8 ptl_t0 ptl_t1 ptl_t2 ptl_t3 pma_t0 pma_t1 pma_t2 pma_t3 pma_t4 pma_t5 pma_t6 pma_t7 pma_t8 pma_t9 neg of_bits
returns-in-21 c = phase_at c.in-21.is refl

pub returns-in-22 : goal.returns-in-22
unfolding place_phases season_phases phases_of globe7_sets glob7s_sets pt_t ps_t pd_t0 pd_t1 pd_t2 pd_t3 pd_t4 pd_t5 pd_t6 pd_t7 pd_t8 ptl_t0 ptl_t1 ptl_t2 ptl_t3 pma_t0 pma_t1 pma_t2 pma_t3 pma_t4 pma_t5 pma_t6 pma_t7 pma_t8 pma_t9 neg of_bits
returns-in-22 c = phase_at c.in-22.is refl

pub returns-in-23 : goal.returns-in-23
unfolding place_phases season_phases phases_of globe7_sets glob7s_sets pt_t ps_t pd_t0 pd_t1 pd_t2 pd_t3 pd_t4 pd_t5 pd_t6 pd_t7 pd_t8 ptl_t0 ptl_t1 ptl_t2 ptl_t3 pma_t0 pma_t1 pma_t2 pma_t3 pma_t4 pma_t5 pma_t6 pma_t7 pma_t8 pma_t9 neg of_bits
returns-in-23 c = phase_at c.in-23.is refl

pub returns-in-24 : goal.returns-in-24
unfolding place_phases season_phases phases_of globe7_sets glob7s_sets pt_t ps_t pd_t0 pd_t1 pd_t2 pd_t3 pd_t4 pd_t5 pd_t6 pd_t7 pd_t8 ptl_t0 ptl_t1 ptl_t2 ptl_t3 pma_t0 pma_t1 pma_t2 pma_t3 pma_t4 pma_t5 pma_t6 pma_t7 pma_t8 pma_t9 neg of_bits
returns-in-24 c = phase_at c.in-24.is refl

pub returns-in-25 : goal.returns-in-25
unfolding place_phases season_phases phases_of globe7_sets glob7s_sets pt_t ps_t pd_t0 pd_t1 pd_t2 pd_t3 pd_t4 pd_t5 pd_t6 pd_t7 pd_t8 ptl_t0 ptl_t1 ptl_t2 ptl_t3 pma_t0 pma_t1 pma_t2 pma_t3 pma_t4 pma_t5 pma_t6 pma_t7 pma_t8 pma_t9 neg of_bits
returns-in-25 c = phase_at c.in-25.is refl

pub returns-in-26 : goal.returns-in-26
unfolding place_phases season_phases phases_of globe7_sets glob7s_sets pt_t ps_t pd_t0 pd_t1 pd_t2 pd_t3 pd_t4 pd_t5 pd_t6 pd_t7 pd_t8 ptl_t0 ptl_t1 ptl_t2 ptl_t3 pma_t0 pma_t1 pma_t2 pma_t3 pma_t4 pma_t5 pma_t6 pma_t7 pma_t8 pma_t9 neg of_bits
returns-in-26 c = phase_at c.in-26.is refl

pub returns-in-27 : goal.returns-in-27
unfolding place_phases season_phases phases_of globe7_sets glob7s_sets pt_t ps_t pd_t0 pd_t1 pd_t2 pd_t3 pd_t4 pd_t5 pd_t6 pd_t7 pd_t8 ptl_t0 ptl_t1 ptl_t2 ptl_t3 pma_t0 pma_t1 pma_t2 pma_t3 pma_t4 pma_t5 pma_t6 pma_t7 pma_t8 pma_t9 neg of_bits
returns-in-27 c = phase_at c.in-27.is refl

pub returns-in-28 : goal.returns-in-28
unfolding place_phases season_phases phases_of globe7_sets glob7s_sets pt_t ps_t pd_t0 pd_t1 pd_t2 pd_t3 pd_t4 pd_t5 pd_t6 pd_t7 pd_t8 ptl_t0 ptl_t1 ptl_t2 ptl_t3 pma_t0 pma_t1 pma_t2 pma_t3 pma_t4 pma_t5 pma_t6 pma_t7 pma_t8 pma_t9 neg of_bits
returns-in-28 c = phase_at c.in-28.is refl

pub returns-in-29 : goal.returns-in-29
unfolding place_phases season_phases phases_of globe7_sets glob7s_sets pt_t ps_t pd_t0 pd_t1 pd_t2 pd_t3 pd_t4 pd_t5 pd_t6 pd_t7 pd_t8 ptl_t0 ptl_t1 ptl_t2 ptl_t3 pma_t0 pma_t1 pma_t2 pma_t3 pma_t4 pma_t5 pma_t6 pma_t7 pma_t8 pma_t9 neg of_bits
returns-in-29 c = phase_at c.in-29.is refl

pub returns-in-30 : goal.returns-in-30
unfolding place_phases season_phases phases_of globe7_sets glob7s_sets pt_t ps_t pd_t0 pd_t1 pd_t2 pd_t3 pd_t4 pd_t5 pd_t6 pd_t7 pd_t8 ptl_t0 ptl_t1 ptl_t2 ptl_t3 pma_t0 pma_t1 pma_t2 pma_t3 pma_t4 pma_t5 pma_t6 pma_t7 pma_t8 pma_t9 neg of_bits
returns-in-30 c = phase_at c.in-30.is refl

pub returns-in-31 : goal.returns-in-31
unfolding place_phases season_phases phases_of globe7_sets glob7s_sets pt_t ps_t pd_t0 pd_t1 pd_t2 pd_t3 pd_t4 pd_t5 pd_t6 pd_t7 pd_t8 ptl_t0 ptl_t1 ptl_t2 ptl_t3 pma_t0 pma_t1 pma_t2 pma_t3 pma_t4 pma_t5 pma_t6 pma_t7 pma_t8 pma_t9 neg of_bits
returns-in-31 c = phase_at c.in-31.is refl

pub returns-in-32 : goal.returns-in-32
unfolding place_phases season_phases phases_of globe7_sets glob7s_sets pt_t ps_t pd_t0 pd_t1 pd_t2 pd_t3 pd_t4 pd_t5 pd_t6 pd_t7 pd_t8 ptl_t0 ptl_t1 ptl_t2 ptl_t3 pma_t0 pma_t1 pma_t2 pma_t3 pma_t4 pma_t5 pma_t6 pma_t7 pma_t8 pma_t9 neg of_bits
returns-in-32 c = phase_at c.in-32.is refl

pub returns-in-33 : goal.returns-in-33
unfolding place_phases season_phases phases_of globe7_sets glob7s_sets pt_t ps_t pd_t0 pd_t1 pd_t2 pd_t3 pd_t4 pd_t5 pd_t6 pd_t7 pd_t8 ptl_t0 ptl_t1 ptl_t2 ptl_t3 pma_t0 pma_t1 pma_t2 pma_t3 pma_t4 pma_t5 pma_t6 pma_t7 pma_t8 pma_t9 neg of_bits
returns-in-33 c = phase_at c.in-33.is refl

pub returns-in-34 : goal.returns-in-34
unfolding place_phases season_phases phases_of globe7_sets glob7s_sets pt_t ps_t pd_t0 pd_t1 pd_t2 pd_t3 pd_t4 pd_t5 pd_t6 pd_t7 pd_t8 ptl_t0 ptl_t1 ptl_t2 ptl_t3 pma_t0 pma_t1 pma_t2 pma_t3 pma_t4 pma_t5 pma_t6 pma_t7 pma_t8 pma_t9 neg of_bits
returns-in-34 c = phase_at c.in-34.is refl

pub returns-in-35 : goal.returns-in-35
unfolding place_phases season_phases phases_of globe7_sets glob7s_sets pt_t ps_t pd_t0 pd_t1 pd_t2 pd_t3 pd_t4 pd_t5 pd_t6 pd_t7 pd_t8 ptl_t0 ptl_t1 ptl_t2 ptl_t3 pma_t0 pma_t1 pma_t2 pma_t3 pma_t4 pma_t5 pma_t6 pma_t7 pma_t8 pma_t9 neg of_bits
returns-in-35 c = phase_at c.in-35.is refl

pub returns-in-36 : goal.returns-in-36
unfolding place_phases season_phases phases_of globe7_sets glob7s_sets pt_t ps_t pd_t0 pd_t1 pd_t2 pd_t3 pd_t4 pd_t5 pd_t6 pd_t7 pd_t8 ptl_t0 ptl_t1 ptl_t2 ptl_t3 pma_t0 pma_t1 pma_t2 pma_t3 pma_t4 pma_t5 pma_t6 pma_t7 pma_t8 pma_t9 neg of_bits
returns-in-36 c = phase_at c.in-36.is refl

pub returns-in-37 : goal.returns-in-37
unfolding place_phases season_phases phases_of globe7_sets glob7s_sets pt_t ps_t pd_t0 pd_t1 pd_t2 pd_t3 pd_t4 pd_t5 pd_t6 pd_t7 pd_t8 ptl_t0 ptl_t1 ptl_t2 ptl_t3 pma_t0 pma_t1 pma_t2 pma_t3 pma_t4 pma_t5 pma_t6 pma_t7 pma_t8 pma_t9 neg of_bits
returns-in-37 c = phase_at c.in-37.is refl

pub returns-in-38 : goal.returns-in-38
unfolding place_phases season_phases phases_of globe7_sets glob7s_sets pt_t ps_t pd_t0 pd_t1 pd_t2 pd_t3 pd_t4 pd_t5 pd_t6 pd_t7 pd_t8 ptl_t0 ptl_t1 ptl_t2 ptl_t3 pma_t0 pma_t1 pma_t2 pma_t3 pma_t4 pma_t5 pma_t6 pma_t7 pma_t8 pma_t9 neg of_bits
returns-in-38 c = phase_at c.in-38.is refl

pub returns-in-39 : goal.returns-in-39
unfolding place_phases season_phases phases_of globe7_sets glob7s_sets pt_t ps_t pd_t0 pd_t1 pd_t2 pd_t3 pd_t4 pd_t5 pd_t6 pd_t7 pd_t8 ptl_t0 ptl_t1 ptl_t2 ptl_t3 pma_t0 pma_t1 pma_t2 pma_t3 pma_t4 pma_t5 pma_t6 pma_t7 pma_t8 pma_t9 neg of_bits
returns-in-39 c = phase_at c.in-39.is refl

pub returns-in-40 : goal.returns-in-40
unfolding place_phases season_phases phases_of globe7_sets glob7s_sets pt_t ps_t pd_t0 pd_t1 pd_t2 pd_t3 pd_t4 pd_t5 pd_t6 pd_t7 pd_t8 ptl_t0 ptl_t1 ptl_t2 ptl_t3 pma_t0 pma_t1 pma_t2 pma_t3 pma_t4 pma_t5 pma_t6 pma_t7 pma_t8 pma_t9 neg of_bits
returns-in-40 c = phase_at c.in-40.is refl

pub returns-in-41 : goal.returns-in-41
unfolding place_phases season_phases phases_of globe7_sets glob7s_sets pt_t ps_t pd_t0 pd_t1 pd_t2 pd_t3 pd_t4 pd_t5 pd_t6 pd_t7 pd_t8 ptl_t0 ptl_t1 ptl_t2 ptl_t3 pma_t0 pma_t1 pma_t2 pma_t3 pma_t4 pma_t5 pma_t6 pma_t7 pma_t8 pma_t9 neg of_bits
returns-in-41 c = phase_at c.in-41.is refl

pub returns-in-42 : goal.returns-in-42
unfolding place_phases season_phases phases_of globe7_sets glob7s_sets pt_t ps_t pd_t0 pd_t1 pd_t2 pd_t3 pd_t4 pd_t5 pd_t6 pd_t7 pd_t8 ptl_t0 ptl_t1 ptl_t2 ptl_t3 pma_t0 pma_t1 pma_t2 pma_t3 pma_t4 pma_t5 pma_t6 pma_t7 pma_t8 pma_t9 neg of_bits
returns-in-42 c = phase_at c.in-42.is refl

pub returns-in-43 : goal.returns-in-43
unfolding place_phases season_phases phases_of globe7_sets glob7s_sets pt_t ps_t pd_t0 pd_t1 pd_t2 pd_t3 pd_t4 pd_t5 pd_t6 pd_t7 pd_t8 ptl_t0 ptl_t1 ptl_t2 ptl_t3 pma_t0 pma_t1 pma_t2 pma_t3 pma_t4 pma_t5 pma_t6 pma_t7 pma_t8 pma_t9 neg of_bits
returns-in-43 c = phase_at c.in-43.is refl

pub returns-in-44 : goal.returns-in-44
unfolding place_phases season_phases phases_of globe7_sets glob7s_sets pt_t ps_t pd_t0 pd_t1 pd_t2 pd_t3 pd_t4 pd_t5 pd_t6 pd_t7 pd_t8 ptl_t0 ptl_t1 ptl_t2 ptl_t3 pma_t0 pma_t1 pma_t2 pma_t3 pma_t4 pma_t5 pma_t6 pma_t7 pma_t8 pma_t9 neg of_bits
returns-in-44 c = phase_at c.in-44.is refl

pub returns-in-45 : goal.returns-in-45
unfolding place_phases season_phases phases_of globe7_sets glob7s_sets pt_t ps_t pd_t0 pd_t1 pd_t2 pd_t3 pd_t4 pd_t5 pd_t6 pd_t7 pd_t8 ptl_t0 ptl_t1 ptl_t2 ptl_t3 pma_t0 pma_t1 pma_t2 pma_t3 pma_t4 pma_t5 pma_t6 pma_t7 pma_t8 pma_t9 neg of_bits
returns-in-45 c = phase_at c.in-45.is refl

pub returns-in-46 : goal.returns-in-46
unfolding place_phases season_phases phases_of globe7_sets glob7s_sets pt_t ps_t pd_t0 pd_t1 pd_t2 pd_t3 pd_t4 pd_t5 pd_t6 pd_t7 pd_t8 ptl_t0 ptl_t1 ptl_t2 ptl_t3 pma_t0 pma_t1 pma_t2 pma_t3 pma_t4 pma_t5 pma_t6 pma_t7 pma_t8 pma_t9 neg of_bits
returns-in-46 c = phase_at c.in-46.is refl

pub returns-in-47 : goal.returns-in-47
unfolding place_phases season_phases phases_of globe7_sets glob7s_sets pt_t ps_t pd_t0 pd_t1 pd_t2 pd_t3 pd_t4 pd_t5 pd_t6 pd_t7 pd_t8 ptl_t0 ptl_t1 ptl_t2 ptl_t3 pma_t0 pma_t1 pma_t2 pma_t3 pma_t4 pma_t5 pma_t6 pma_t7 pma_t8 pma_t9 neg of_bits
returns-in-47 c = phase_at c.in-47.is refl

pub returns-in-48 : goal.returns-in-48
unfolding place_phases season_phases phases_of globe7_sets glob7s_sets pt_t ps_t pd_t0 pd_t1 pd_t2 pd_t3 pd_t4 pd_t5 pd_t6 pd_t7 pd_t8 ptl_t0 ptl_t1 ptl_t2 ptl_t3 pma_t0 pma_t1 pma_t2 pma_t3 pma_t4 pma_t5 pma_t6 pma_t7 pma_t8 pma_t9 neg of_bits
returns-in-48 c = phase_at c.in-48.is refl

pub returns-in-49 : goal.returns-in-49
unfolding place_phases season_phases phases_of globe7_sets glob7s_sets pt_t ps_t pd_t0 pd_t1 pd_t2 pd_t3 pd_t4 pd_t5 pd_t6 pd_t7 pd_t8 ptl_t0 ptl_t1 ptl_t2 ptl_t3 pma_t0 pma_t1 pma_t2 pma_t3 pma_t4 pma_t5 pma_t6 pma_t7 pma_t8 pma_t9 neg of_bits
returns-in-49 c = phase_at c.in-49.is refl

pub returns-in-50 : goal.returns-in-50
unfolding place_phases season_phases phases_of globe7_sets glob7s_sets pt_t ps_t pd_t0 pd_t1 pd_t2 pd_t3 pd_t4 pd_t5 pd_t6 pd_t7 pd_t8 ptl_t0 ptl_t1 ptl_t2 ptl_t3 pma_t0 pma_t1 pma_t2 pma_t3 pma_t4 pma_t5 pma_t6 pma_t7 pma_t8 pma_t9 neg of_bits
returns-in-50 c = phase_at c.in-50.is refl

pub returns-in-51 : goal.returns-in-51
unfolding place_phases season_phases phases_of globe7_sets glob7s_sets pt_t ps_t pd_t0 pd_t1 pd_t2 pd_t3 pd_t4 pd_t5 pd_t6 pd_t7 pd_t8 ptl_t0 ptl_t1 ptl_t2 ptl_t3 pma_t0 pma_t1 pma_t2 pma_t3 pma_t4 pma_t5 pma_t6 pma_t7 pma_t8 pma_t9 neg of_bits
returns-in-51 c = phase_at c.in-51.is refl

pub returns-in-52 : goal.returns-in-52
unfolding place_phases season_phases phases_of globe7_sets glob7s_sets pt_t ps_t pd_t0 pd_t1 pd_t2 pd_t3 pd_t4 pd_t5 pd_t6 pd_t7 pd_t8 ptl_t0 ptl_t1 ptl_t2 ptl_t3 pma_t0 pma_t1 pma_t2 pma_t3 pma_t4 pma_t5 pma_t6 pma_t7 pma_t8 pma_t9 neg of_bits
returns-in-52 c = phase_at c.in-52.is refl

pub returns-in-53 : goal.returns-in-53
unfolding place_phases season_phases phases_of globe7_sets glob7s_sets pt_t ps_t pd_t0 pd_t1 pd_t2 pd_t3 pd_t4 pd_t5 pd_t6 pd_t7 pd_t8 ptl_t0 ptl_t1 ptl_t2 ptl_t3 pma_t0 pma_t1 pma_t2 pma_t3 pma_t4 pma_t5 pma_t6 pma_t7 pma_t8 pma_t9 neg of_bits
returns-in-53 c = phase_at c.in-53.is refl

pub returns-in-54 : goal.returns-in-54
unfolding place_phases season_phases phases_of globe7_sets glob7s_sets pt_t ps_t pd_t0 pd_t1 pd_t2 pd_t3 pd_t4 pd_t5 pd_t6 pd_t7 pd_t8 ptl_t0 ptl_t1 ptl_t2 ptl_t3 pma_t0 pma_t1 pma_t2 pma_t3 pma_t4 pma_t5 pma_t6 pma_t7 pma_t8 pma_t9 neg of_bits
returns-in-54 c = phase_at c.in-54.is refl

pub returns-in-55 : goal.returns-in-55
unfolding place_phases season_phases phases_of globe7_sets glob7s_sets pt_t ps_t pd_t0 pd_t1 pd_t2 pd_t3 pd_t4 pd_t5 pd_t6 pd_t7 pd_t8 ptl_t0 ptl_t1 ptl_t2 ptl_t3 pma_t0 pma_t1 pma_t2 pma_t3 pma_t4 pma_t5 pma_t6 pma_t7 pma_t8 pma_t9 neg of_bits
returns-in-55 c = phase_at c.in-55.is refl

pub returns-in-56 : goal.returns-in-56
unfolding place_phases season_phases phases_of globe7_sets glob7s_sets pt_t ps_t pd_t0 pd_t1 pd_t2 pd_t3 pd_t4 pd_t5 pd_t6 pd_t7 pd_t8 ptl_t0 ptl_t1 ptl_t2 ptl_t3 pma_t0 pma_t1 pma_t2 pma_t3 pma_t4 pma_t5 pma_t6 pma_t7 pma_t8 pma_t9 neg of_bits
returns-in-56 c = phase_at c.in-56.is refl

pub returns-in-57 : goal.returns-in-57
unfolding place_phases season_phases phases_of globe7_sets glob7s_sets pt_t ps_t pd_t0 pd_t1 pd_t2 pd_t3 pd_t4 pd_t5 pd_t6 pd_t7 pd_t8 ptl_t0 ptl_t1 ptl_t2 ptl_t3 pma_t0 pma_t1 pma_t2 pma_t3 pma_t4 pma_t5 pma_t6 pma_t7 pma_t8 pma_t9 neg of_bits
returns-in-57 c = phase_at c.in-57.is refl

pub returns-in-58 : goal.returns-in-58
unfolding place_phases season_phases phases_of globe7_sets glob7s_sets pt_t ps_t pd_t0 pd_t1 pd_t2 pd_t3 pd_t4 pd_t5 pd_t6 pd_t7 pd_t8 ptl_t0 ptl_t1 ptl_t2 ptl_t3 pma_t0 pma_t1 pma_t2 pma_t3 pma_t4 pma_t5 pma_t6 pma_t7 pma_t8 pma_t9 neg of_bits
returns-in-58 c = phase_at c.in-58.is refl

pub returns-in-59 : goal.returns-in-59
unfolding place_phases season_phases phases_of globe7_sets glob7s_sets pt_t ps_t pd_t0 pd_t1 pd_t2 pd_t3 pd_t4 pd_t5 pd_t6 pd_t7 pd_t8 ptl_t0 ptl_t1 ptl_t2 ptl_t3 pma_t0 pma_t1 pma_t2 pma_t3 pma_t4 pma_t5 pma_t6 pma_t7 pma_t8 pma_t9 neg of_bits
returns-in-59 c = phase_at c.in-59.is refl

pub returns-in-60 : goal.returns-in-60
unfolding place_phases season_phases phases_of globe7_sets glob7s_sets pt_t ps_t pd_t0 pd_t1 pd_t2 pd_t3 pd_t4 pd_t5 pd_t6 pd_t7 pd_t8 ptl_t0 ptl_t1 ptl_t2 ptl_t3 pma_t0 pma_t1 pma_t2 pma_t3 pma_t4 pma_t5 pma_t6 pma_t7 pma_t8 pma_t9 neg of_bits
returns-in-60 c = phase_at c.in-60.is refl

pub returns-in-61 : goal.returns-in-61
unfolding place_phases season_phases phases_of globe7_sets glob7s_sets pt_t ps_t pd_t0 pd_t1 pd_t2 pd_t3 pd_t4 pd_t5 pd_t6 pd_t7 pd_t8 ptl_t0 ptl_t1 ptl_t2 ptl_t3 pma_t0 pma_t1 pma_t2 pma_t3 pma_t4 pma_t5 pma_t6 pma_t7 pma_t8 pma_t9 neg of_bits
returns-in-61 c = phase_at c.in-61.is refl

pub returns-in-62 : goal.returns-in-62
unfolding place_phases season_phases phases_of globe7_sets glob7s_sets pt_t ps_t pd_t0 pd_t1 pd_t2 pd_t3 pd_t4 pd_t5 pd_t6 pd_t7 pd_t8 ptl_t0 ptl_t1 ptl_t2 ptl_t3 pma_t0 pma_t1 pma_t2 pma_t3 pma_t4 pma_t5 pma_t6 pma_t7 pma_t8 pma_t9 neg of_bits
returns-in-62 c = phase_at c.in-62.is refl

pub returns-in-63 : goal.returns-in-63
unfolding place_phases season_phases phases_of globe7_sets glob7s_sets pt_t ps_t pd_t0 pd_t1 pd_t2 pd_t3 pd_t4 pd_t5 pd_t6 pd_t7 pd_t8 ptl_t0 ptl_t1 ptl_t2 ptl_t3 pma_t0 pma_t1 pma_t2 pma_t3 pma_t4 pma_t5 pma_t6 pma_t7 pma_t8 pma_t9 neg of_bits
returns-in-63 c = phase_at c.in-63.is refl

pub returns-in-64 : goal.returns-in-64
unfolding place_phases season_phases phases_of globe7_sets glob7s_sets pt_t ps_t pd_t0 pd_t1 pd_t2 pd_t3 pd_t4 pd_t5 pd_t6 pd_t7 pd_t8 ptl_t0 ptl_t1 ptl_t2 ptl_t3 pma_t0 pma_t1 pma_t2 pma_t3 pma_t4 pma_t5 pma_t6 pma_t7 pma_t8 pma_t9 neg of_bits
returns-in-64 c = phase_at c.in-64.is refl

pub returns-in-65 : goal.returns-in-65
unfolding place_phases season_phases phases_of globe7_sets glob7s_sets pt_t ps_t pd_t0 pd_t1 pd_t2 pd_t3 pd_t4 pd_t5 pd_t6 pd_t7 pd_t8 ptl_t0 ptl_t1 ptl_t2 ptl_t3 pma_t0 pma_t1 pma_t2 pma_t3 pma_t4 pma_t5 pma_t6 pma_t7 pma_t8 pma_t9 neg of_bits
returns-in-65 c = phase_at c.in-65.is refl

pub returns-in-66 : goal.returns-in-66
unfolding place_phases season_phases phases_of globe7_sets glob7s_sets pt_t ps_t pd_t0 pd_t1 pd_t2 pd_t3 pd_t4 pd_t5 pd_t6 pd_t7 pd_t8 ptl_t0 ptl_t1 ptl_t2 ptl_t3 pma_t0 pma_t1 pma_t2 pma_t3 pma_t4 pma_t5 pma_t6 pma_t7 pma_t8 pma_t9 neg of_bits
returns-in-66 c = phase_at c.in-66.is refl

pub returns-in-67 : goal.returns-in-67
unfolding place_phases season_phases phases_of globe7_sets glob7s_sets pt_t ps_t pd_t0 pd_t1 pd_t2 pd_t3 pd_t4 pd_t5 pd_t6 pd_t7 pd_t8 ptl_t0 ptl_t1 ptl_t2 ptl_t3 pma_t0 pma_t1 pma_t2 pma_t3 pma_t4 pma_t5 pma_t6 pma_t7 pma_t8 pma_t9 neg of_bits
returns-in-67 c = phase_at c.in-67.is refl

pub returns-in-68 : goal.returns-in-68
unfolding place_phases season_phases phases_of globe7_sets glob7s_sets pt_t ps_t pd_t0 pd_t1 pd_t2 pd_t3 pd_t4 pd_t5 pd_t6 pd_t7 pd_t8 ptl_t0 ptl_t1 ptl_t2 ptl_t3 pma_t0 pma_t1 pma_t2 pma_t3 pma_t4 pma_t5 pma_t6 pma_t7 pma_t8 pma_t9 neg of_bits
returns-in-68 c = phase_at c.in-68.is refl

pub returns-in-69 : goal.returns-in-69
unfolding place_phases season_phases phases_of globe7_sets glob7s_sets pt_t ps_t pd_t0 pd_t1 pd_t2 pd_t3 pd_t4 pd_t5 pd_t6 pd_t7 pd_t8 ptl_t0 ptl_t1 ptl_t2 ptl_t3 pma_t0 pma_t1 pma_t2 pma_t3 pma_t4 pma_t5 pma_t6 pma_t7 pma_t8 pma_t9 neg of_bits
returns-in-69 c = phase_at c.in-69.is refl

pub returns-in-70 : goal.returns-in-70
unfolding place_phases season_phases phases_of globe7_sets glob7s_sets pt_t ps_t pd_t0 pd_t1 pd_t2 pd_t3 pd_t4 pd_t5 pd_t6 pd_t7 pd_t8 ptl_t0 ptl_t1 ptl_t2 ptl_t3 pma_t0 pma_t1 pma_t2 pma_t3 pma_t4 pma_t5 pma_t6 pma_t7 pma_t8 pma_t9 neg of_bits
returns-in-70 c = phase_at c.in-70.is refl

pub returns-in-71 : goal.returns-in-71
unfolding place_phases season_phases phases_of globe7_sets glob7s_sets pt_t ps_t pd_t0 pd_t1 pd_t2 pd_t3 pd_t4 pd_t5 pd_t6 pd_t7 pd_t8 ptl_t0 ptl_t1 ptl_t2 ptl_t3 pma_t0 pma_t1 pma_t2 pma_t3 pma_t4 pma_t5 pma_t6 pma_t7 pma_t8 pma_t9 neg of_bits
returns-in-71 c = phase_at c.in-71.is refl

pub returns-in-72 : goal.returns-in-72
unfolding place_phases season_phases phases_of globe7_sets glob7s_sets pt_t ps_t pd_t0 pd_t1 pd_t2 pd_t3 pd_t4 pd_t5 pd_t6 pd_t7 pd_t8 ptl_t0 ptl_t1 ptl_t2 ptl_t3 pma_t0 pma_t1 pma_t2 pma_t3 pma_t4 pma_t5 pma_t6 pma_t7 pma_t8 pma_t9 neg of_bits
returns-in-72 c = phase_at c.in-72.is refl

pub returns-in-73 : goal.returns-in-73
unfolding place_phases season_phases phases_of globe7_sets glob7s_sets pt_t ps_t pd_t0 pd_t1 pd_t2 pd_t3 pd_t4 pd_t5 pd_t6 pd_t7 pd_t8 ptl_t0 ptl_t1 ptl_t2 ptl_t3 pma_t0 pma_t1 pma_t2 pma_t3 pma_t4 pma_t5 pma_t6 pma_t7 pma_t8 pma_t9 neg of_bits
returns-in-73 c = phase_at c.in-73.is refl

pub returns-in-74 : goal.returns-in-74
unfolding place_phases season_phases phases_of globe7_sets glob7s_sets pt_t ps_t pd_t0 pd_t1 pd_t2 pd_t3 pd_t4 pd_t5 pd_t6 pd_t7 pd_t8 ptl_t0 ptl_t1 ptl_t2 ptl_t3 pma_t0 pma_t1 pma_t2 pma_t3 pma_t4 pma_t5 pma_t6 pma_t7 pma_t8 pma_t9 neg of_bits
returns-in-74 c = phase_at c.in-74.is refl

pub returns-in-75 : goal.returns-in-75
unfolding place_phases season_phases phases_of globe7_sets glob7s_sets pt_t ps_t pd_t0 pd_t1 pd_t2 pd_t3 pd_t4 pd_t5 pd_t6 pd_t7 pd_t8 ptl_t0 ptl_t1 ptl_t2 ptl_t3 pma_t0 pma_t1 pma_t2 pma_t3 pma_t4 pma_t5 pma_t6 pma_t7 pma_t8 pma_t9 neg of_bits
returns-in-75 c = phase_at c.in-75.is refl

pub returns-in-76 : goal.returns-in-76
unfolding place_phases season_phases phases_of globe7_sets glob7s_sets pt_t ps_t pd_t0 pd_t1 pd_t2 pd_t3 pd_t4 pd_t5 pd_t6 pd_t7 pd_t8 ptl_t0 ptl_t1 ptl_t2 ptl_t3 pma_t0 pma_t1 pma_t2 pma_t3 pma_t4 pma_t5 pma_t6 pma_t7 pma_t8 pma_t9 neg of_bits
returns-in-76 c = phase_at c.in-76.is refl

pub returns-in-77 : goal.returns-in-77
unfolding place_phases season_phases phases_of globe7_sets glob7s_sets pt_t ps_t pd_t0 pd_t1 pd_t2 pd_t3 pd_t4 pd_t5 pd_t6 pd_t7 pd_t8 ptl_t0 ptl_t1 ptl_t2 ptl_t3 pma_t0 pma_t1 pma_t2 pma_t3 pma_t4 pma_t5 pma_t6 pma_t7 pma_t8 pma_t9 neg of_bits
returns-in-77 c = phase_at c.in-77.is refl

pub returns-in-78 : goal.returns-in-78
unfolding place_phases season_phases phases_of globe7_sets glob7s_sets pt_t ps_t pd_t0 pd_t1 pd_t2 pd_t3 pd_t4 pd_t5 pd_t6 pd_t7 pd_t8 ptl_t0 ptl_t1 ptl_t2 ptl_t3 pma_t0 pma_t1 pma_t2 pma_t3 pma_t4 pma_t5 pma_t6 pma_t7 pma_t8 pma_t9 neg of_bits
returns-in-78 c = phase_at c.in-78.is refl

pub returns-in-79 : goal.returns-in-79
unfolding place_phases season_phases phases_of globe7_sets glob7s_sets pt_t ps_t pd_t0 pd_t1 pd_t2 pd_t3 pd_t4 pd_t5 pd_t6 pd_t7 pd_t8 ptl_t0 ptl_t1 ptl_t2 ptl_t3 pma_t0 pma_t1 pma_t2 pma_t3 pma_t4 pma_t5 pma_t6 pma_t7 pma_t8 pma_t9 neg of_bits
returns-in-79 c = phase_at c.in-79.is refl

pub returns-in-80 : goal.returns-in-80
unfolding place_phases season_phases phases_of globe7_sets glob7s_sets pt_t ps_t pd_t0 pd_t1 pd_t2 pd_t3 pd_t4 pd_t5 pd_t6 pd_t7 pd_t8 ptl_t0 ptl_t1 ptl_t2 ptl_t3 pma_t0 pma_t1 pma_t2 pma_t3 pma_t4 pma_t5 pma_t6 pma_t7 pma_t8 pma_t9 neg of_bits
returns-in-80 c = phase_at c.in-80.is refl

pub returns-in-81 : goal.returns-in-81
unfolding place_phases season_phases phases_of globe7_sets glob7s_sets pt_t ps_t pd_t0 pd_t1 pd_t2 pd_t3 pd_t4 pd_t5 pd_t6 pd_t7 pd_t8 ptl_t0 ptl_t1 ptl_t2 ptl_t3 pma_t0 pma_t1 pma_t2 pma_t3 pma_t4 pma_t5 pma_t6 pma_t7 pma_t8 pma_t9 neg of_bits
returns-in-81 c = phase_at c.in-81.is refl

pub returns-in-82 : goal.returns-in-82
unfolding place_phases season_phases phases_of globe7_sets glob7s_sets pt_t ps_t pd_t0 pd_t1 pd_t2 pd_t3 pd_t4 pd_t5 pd_t6 pd_t7 pd_t8 ptl_t0 ptl_t1 ptl_t2 ptl_t3 pma_t0 pma_t1 pma_t2 pma_t3 pma_t4 pma_t5 pma_t6 pma_t7 pma_t8 pma_t9 neg of_bits
returns-in-82 c = phase_at c.in-82.is refl

pub returns-in-83 : goal.returns-in-83
unfolding place_phases season_phases phases_of globe7_sets glob7s_sets pt_t ps_t pd_t0 pd_t1 pd_t2 pd_t3 pd_t4 pd_t5 pd_t6 pd_t7 pd_t8 ptl_t0 ptl_t1 ptl_t2 ptl_t3 pma_t0 pma_t1 pma_t2 pma_t3 pma_t4 pma_t5 pma_t6 pma_t7 pma_t8 pma_t9 neg of_bits
returns-in-83 c = phase_at c.in-83.is refl

pub returns-in-84 : goal.returns-in-84
unfolding place_phases season_phases phases_of globe7_sets glob7s_sets pt_t ps_t pd_t0 pd_t1 pd_t2 pd_t3 pd_t4 pd_t5 pd_t6 pd_t7 pd_t8 ptl_t0 ptl_t1 ptl_t2 ptl_t3 pma_t0 pma_t1 pma_t2 pma_t3 pma_t4 pma_t5 pma_t6 pma_t7 pma_t8 pma_t9 neg of_bits
returns-in-84 c = phase_at c.in-84.is refl

pub returns-in-85 : goal.returns-in-85
unfolding place_phases season_phases phases_of globe7_sets glob7s_sets pt_t ps_t pd_t0 pd_t1 pd_t2 pd_t3 pd_t4 pd_t5 pd_t6 pd_t7 pd_t8 ptl_t0 ptl_t1 ptl_t2 ptl_t3 pma_t0 pma_t1 pma_t2 pma_t3 pma_t4 pma_t5 pma_t6 pma_t7 pma_t8 pma_t9 neg of_bits
returns-in-85 c = phase_at c.in-85.is refl

pub returns-in-86 : goal.returns-in-86
unfolding place_phases season_phases phases_of globe7_sets glob7s_sets pt_t ps_t pd_t0 pd_t1 pd_t2 pd_t3 pd_t4 pd_t5 pd_t6 pd_t7 pd_t8 ptl_t0 ptl_t1 ptl_t2 ptl_t3 pma_t0 pma_t1 pma_t2 pma_t3 pma_t4 pma_t5 pma_t6 pma_t7 pma_t8 pma_t9 neg of_bits
returns-in-86 c = phase_at c.in-86.is refl

pub returns-in-87 : goal.returns-in-87
unfolding place_phases season_phases phases_of globe7_sets glob7s_sets pt_t ps_t pd_t0 pd_t1 pd_t2 pd_t3 pd_t4 pd_t5 pd_t6 pd_t7 pd_t8 ptl_t0 ptl_t1 ptl_t2 ptl_t3 pma_t0 pma_t1 pma_t2 pma_t3 pma_t4 pma_t5 pma_t6 pma_t7 pma_t8 pma_t9 neg of_bits
returns-in-87 c = phase_at c.in-87.is refl

pub returns-in-88 : goal.returns-in-88
unfolding place_phases season_phases phases_of globe7_sets glob7s_sets pt_t ps_t pd_t0 pd_t1 pd_t2 pd_t3 pd_t4 pd_t5 pd_t6 pd_t7 pd_t8 ptl_t0 ptl_t1 ptl_t2 ptl_t3 pma_t0 pma_t1 pma_t2 pma_t3 pma_t4 pma_t5 pma_t6 pma_t7 pma_t8 pma_t9 neg of_bits
returns-in-88 c = phase_at c.in-88.is refl

pub returns-in-89 : goal.returns-in-89
unfolding place_phases season_phases phases_of globe7_sets glob7s_sets pt_t ps_t pd_t0 pd_t1 pd_t2 pd_t3 pd_t4 pd_t5 pd_t6 pd_t7 pd_t8 ptl_t0 ptl_t1 ptl_t2 ptl_t3 pma_t0 pma_t1 pma_t2 pma_t3 pma_t4 pma_t5 pma_t6 pma_t7 pma_t8 pma_t9 neg of_bits
returns-in-89 c = phase_at c.in-89.is refl

pub returns-in-90 : goal.returns-in-90
unfolding place_phases season_phases phases_of globe7_sets glob7s_sets pt_t ps_t pd_t0 pd_t1 pd_t2 pd_t3 pd_t4 pd_t5 pd_t6 pd_t7 pd_t8 ptl_t0 ptl_t1 ptl_t2 ptl_t3 pma_t0 pma_t1 pma_t2 pma_t3 pma_t4 pma_t5 pma_t6 pma_t7 pma_t8 pma_t9 neg of_bits
returns-in-90 c = phase_at c.in-90.is refl

pub returns-in-91 : goal.returns-in-91
unfolding place_phases season_phases phases_of globe7_sets glob7s_sets pt_t ps_t pd_t0 pd_t1 pd_t2 pd_t3 pd_t4 pd_t5 pd_t6 pd_t7 pd_t8 ptl_t0 ptl_t1 ptl_t2 ptl_t3 pma_t0 pma_t1 pma_t2 pma_t3 pma_t4 pma_t5 pma_t6 pma_t7 pma_t8 pma_t9 neg of_bits
returns-in-91 c = phase_at c.in-91.is refl

pub returns-in-92 : goal.returns-in-92
unfolding place_phases season_phases phases_of globe7_sets glob7s_sets pt_t ps_t pd_t0 pd_t1 pd_t2 pd_t3 pd_t4 pd_t5 pd_t6 pd_t7 pd_t8 ptl_t0 ptl_t1 ptl_t2 ptl_t3 pma_t0 pma_t1 pma_t2 pma_t3 pma_t4 pma_t5 pma_t6 pma_t7 pma_t8 pma_t9 neg of_bits
returns-in-92 c = phase_at c.in-92.is refl

pub returns-in-93 : goal.returns-in-93
unfolding place_phases season_phases phases_of globe7_sets glob7s_sets pt_t ps_t pd_t0 pd_t1 pd_t2 pd_t3 pd_t4 pd_t5 pd_t6 pd_t7 pd_t8 ptl_t0 ptl_t1 ptl_t2 ptl_t3 pma_t0 pma_t1 pma_t2 pma_t3 pma_t4 pma_t5 pma_t6 pma_t7 pma_t8 pma_t9 neg of_bits
returns-in-93 c = phase_at c.in-93.is refl

pub returns-in-94 : goal.returns-in-94
unfolding place_phases season_phases phases_of globe7_sets glob7s_sets pt_t ps_t pd_t0 pd_t1 pd_t2 pd_t3 pd_t4 pd_t5 pd_t6 pd_t7 pd_t8 ptl_t0 ptl_t1 ptl_t2 ptl_t3 pma_t0 pma_t1 pma_t2 pma_t3 pma_t4 pma_t5 pma_t6 pma_t7 pma_t8 pma_t9 neg of_bits
returns-in-94 c = phase_at c.in-94.is refl

pub returns-in-95 : goal.returns-in-95
unfolding place_phases season_phases phases_of globe7_sets glob7s_sets pt_t ps_t pd_t0 pd_t1 pd_t2 pd_t3 pd_t4 pd_t5 pd_t6 pd_t7 pd_t8 ptl_t0 ptl_t1 ptl_t2 ptl_t3 pma_t0 pma_t1 pma_t2 pma_t3 pma_t4 pma_t5 pma_t6 pma_t7 pma_t8 pma_t9 neg of_bits
returns-in-95 c = phase_at c.in-95.is refl

pub returns-in-96 : goal.returns-in-96
unfolding place_phases season_phases phases_of globe7_sets glob7s_sets pt_t ps_t pd_t0 pd_t1 pd_t2 pd_t3 pd_t4 pd_t5 pd_t6 pd_t7 pd_t8 ptl_t0 ptl_t1 ptl_t2 ptl_t3 pma_t0 pma_t1 pma_t2 pma_t3 pma_t4 pma_t5 pma_t6 pma_t7 pma_t8 pma_t9 neg of_bits
returns-in-96 c = phase_at c.in-96.is refl

pub returns-in-97 : goal.returns-in-97
unfolding place_phases season_phases phases_of globe7_sets glob7s_sets pt_t ps_t pd_t0 pd_t1 pd_t2 pd_t3 pd_t4 pd_t5 pd_t6 pd_t7 pd_t8 ptl_t0 ptl_t1 ptl_t2 ptl_t3 pma_t0 pma_t1 pma_t2 pma_t3 pma_t4 pma_t5 pma_t6 pma_t7 pma_t8 pma_t9 neg of_bits
returns-in-97 c = phase_at c.in-97.is refl

pub returns-in-98 : goal.returns-in-98
unfolding place_phases season_phases phases_of globe7_sets glob7s_sets pt_t ps_t pd_t0 pd_t1 pd_t2 pd_t3 pd_t4 pd_t5 pd_t6 pd_t7 pd_t8 ptl_t0 ptl_t1 ptl_t2 ptl_t3 pma_t0 pma_t1 pma_t2 pma_t3 pma_t4 pma_t5 pma_t6 pma_t7 pma_t8 pma_t9 neg of_bits
returns-in-98 c = phase_at c.in-98.is refl

pub returns-in-99 : goal.returns-in-99
unfolding place_phases season_phases phases_of globe7_sets glob7s_sets pt_t ps_t pd_t0 pd_t1 pd_t2 pd_t3 pd_t4 pd_t5 pd_t6 pd_t7 pd_t8 ptl_t0 ptl_t1 ptl_t2 ptl_t3 pma_t0 pma_t1 pma_t2 pma_t3 pma_t4 pma_t5 pma_t6 pma_t7 pma_t8 pma_t9 neg of_bits
returns-in-99 c = phase_at c.in-99.is refl

pub returns-in-100 : goal.returns-in-100
unfolding place_phases season_phases phases_of globe7_sets glob7s_sets pt_t ps_t pd_t0 pd_t1 pd_t2 pd_t3 pd_t4 pd_t5 pd_t6 pd_t7 pd_t8 ptl_t0 ptl_t1 ptl_t2 ptl_t3 pma_t0 pma_t1 pma_t2 pma_t3 pma_t4 pma_t5 pma_t6 pma_t7 pma_t8 pma_t9 neg of_bits
returns-in-100 c = phase_at c.in-100.is refl

pub returns-in-101 : goal.returns-in-101
unfolding place_phases season_phases phases_of globe7_sets glob7s_sets pt_t ps_t pd_t0 pd_t1 pd_t2 pd_t3 pd_t4 pd_t5 pd_t6 pd_t7 pd_t8 ptl_t0 ptl_t1 ptl_t2 ptl_t3 pma_t0 pma_t1 pma_t2 pma_t3 pma_t4 pma_t5 pma_t6 pma_t7 pma_t8 pma_t9 neg of_bits
returns-in-101 c = phase_at c.in-101.is refl

pub returns-in-102 : goal.returns-in-102
unfolding place_phases season_phases phases_of globe7_sets glob7s_sets pt_t ps_t pd_t0 pd_t1 pd_t2 pd_t3 pd_t4 pd_t5 pd_t6 pd_t7 pd_t8 ptl_t0 ptl_t1 ptl_t2 ptl_t3 pma_t0 pma_t1 pma_t2 pma_t3 pma_t4 pma_t5 pma_t6 pma_t7 pma_t8 pma_t9 neg of_bits
returns-in-102 c = phase_at c.in-102.is refl

pub returns-in-103 : goal.returns-in-103
unfolding place_phases season_phases phases_of globe7_sets glob7s_sets pt_t ps_t pd_t0 pd_t1 pd_t2 pd_t3 pd_t4 pd_t5 pd_t6 pd_t7 pd_t8 ptl_t0 ptl_t1 ptl_t2 ptl_t3 pma_t0 pma_t1 pma_t2 pma_t3 pma_t4 pma_t5 pma_t6 pma_t7 pma_t8 pma_t9 neg of_bits
returns-in-103 c = phase_at c.in-103.is refl

pub returns-in-104 : goal.returns-in-104
unfolding place_phases season_phases phases_of globe7_sets glob7s_sets pt_t ps_t pd_t0 pd_t1 pd_t2 pd_t3 pd_t4 pd_t5 pd_t6 pd_t7 pd_t8 ptl_t0 ptl_t1 ptl_t2 ptl_t3 pma_t0 pma_t1 pma_t2 pma_t3 pma_t4 pma_t5 pma_t6 pma_t7 pma_t8 pma_t9 neg of_bits
returns-in-104 c = phase_at c.in-104.is refl

pub returns-in-105 : goal.returns-in-105
unfolding place_phases season_phases phases_of globe7_sets glob7s_sets pt_t ps_t pd_t0 pd_t1 pd_t2 pd_t3 pd_t4 pd_t5 pd_t6 pd_t7 pd_t8 ptl_t0 ptl_t1 ptl_t2 ptl_t3 pma_t0 pma_t1 pma_t2 pma_t3 pma_t4 pma_t5 pma_t6 pma_t7 pma_t8 pma_t9 neg of_bits
returns-in-105 c = phase_at c.in-105.is refl

pub returns-in-106 : goal.returns-in-106
unfolding place_phases season_phases phases_of globe7_sets glob7s_sets pt_t ps_t pd_t0 pd_t1 pd_t2 pd_t3 pd_t4 pd_t5 pd_t6 pd_t7 pd_t8 ptl_t0 ptl_t1 ptl_t2 ptl_t3 pma_t0 pma_t1 pma_t2 pma_t3 pma_t4 pma_t5 pma_t6 pma_t7 pma_t8 pma_t9 neg of_bits
returns-in-106 c = phase_at c.in-106.is refl

pub returns-in-107 : goal.returns-in-107
unfolding place_phases season_phases phases_of globe7_sets glob7s_sets pt_t ps_t pd_t0 pd_t1 pd_t2 pd_t3 pd_t4 pd_t5 pd_t6 pd_t7 pd_t8 ptl_t0 ptl_t1 ptl_t2 ptl_t3 pma_t0 pma_t1 pma_t2 pma_t3 pma_t4 pma_t5 pma_t6 pma_t7 pma_t8 pma_t9 neg of_bits
returns-in-107 c = phase_at c.in-107.is refl

pub returns-in-108 : goal.returns-in-108
unfolding place_phases season_phases phases_of globe7_sets glob7s_sets pt_t ps_t pd_t0 pd_t1 pd_t2 pd_t3 pd_t4 pd_t5 pd_t6 pd_t7 pd_t8 ptl_t0 ptl_t1 ptl_t2 ptl_t3 pma_t0 pma_t1 pma_t2 pma_t3 pma_t4 pma_t5 pma_t6 pma_t7 pma_t8 pma_t9 neg of_bits
returns-in-108 c = phase_at c.in-108.is refl

pub returns-in-109 : goal.returns-in-109
unfolding place_phases season_phases phases_of globe7_sets glob7s_sets pt_t ps_t pd_t0 pd_t1 pd_t2 pd_t3 pd_t4 pd_t5 pd_t6 pd_t7 pd_t8 ptl_t0 ptl_t1 ptl_t2 ptl_t3 pma_t0 pma_t1 pma_t2 pma_t3 pma_t4 pma_t5 pma_t6 pma_t7 pma_t8 pma_t9 neg of_bits
returns-in-109 c = phase_at c.in-109.is refl

pub returns-in-110 : goal.returns-in-110
unfolding place_phases season_phases phases_of globe7_sets glob7s_sets pt_t ps_t pd_t0 pd_t1 pd_t2 pd_t3 pd_t4 pd_t5 pd_t6 pd_t7 pd_t8 ptl_t0 ptl_t1 ptl_t2 ptl_t3 pma_t0 pma_t1 pma_t2 pma_t3 pma_t4 pma_t5 pma_t6 pma_t7 pma_t8 pma_t9 neg of_bits
returns-in-110 c = phase_at c.in-110.is refl

pub returns-in-111 : goal.returns-in-111
unfolding place_phases season_phases phases_of globe7_sets glob7s_sets pt_t ps_t pd_t0 pd_t1 pd_t2 pd_t3 pd_t4 pd_t5 pd_t6 pd_t7 pd_t8 ptl_t0 ptl_t1 ptl_t2 ptl_t3 pma_t0 pma_t1 pma_t2 pma_t3 pma_t4 pma_t5 pma_t6 pma_t7 pma_t8 pma_t9 neg of_bits
returns-in-111 c = phase_at c.in-111.is refl

pub returns-in-112 : goal.returns-in-112
unfolding place_phases season_phases phases_of globe7_sets glob7s_sets pt_t ps_t pd_t0 pd_t1 pd_t2 pd_t3 pd_t4 pd_t5 pd_t6 pd_t7 pd_t8 ptl_t0 ptl_t1 ptl_t2 ptl_t3 pma_t0 pma_t1 pma_t2 pma_t3 pma_t4 pma_t5 pma_t6 pma_t7 pma_t8 pma_t9 neg of_bits
returns-in-112 c = phase_at c.in-112.is refl

pub returns-in-113 : goal.returns-in-113
unfolding place_phases season_phases phases_of globe7_sets glob7s_sets pt_t ps_t pd_t0 pd_t1 pd_t2 pd_t3 pd_t4 pd_t5 pd_t6 pd_t7 pd_t8 ptl_t0 ptl_t1 ptl_t2 ptl_t3 pma_t0 pma_t1 pma_t2 pma_t3 pma_t4 pma_t5 pma_t6 pma_t7 pma_t8 pma_t9 neg of_bits
returns-in-113 c = phase_at c.in-113.is refl

pub returns-in-114 : goal.returns-in-114
unfolding place_phases season_phases phases_of globe7_sets glob7s_sets pt_t ps_t pd_t0 pd_t1 pd_t2 pd_t3 pd_t4 pd_t5 pd_t6 pd_t7 pd_t8 ptl_t0 ptl_t1 ptl_t2 ptl_t3 pma_t0 pma_t1 pma_t2 pma_t3 pma_t4 pma_t5 pma_t6 pma_t7 pma_t8 pma_t9 neg of_bits
returns-in-114 c = phase_at c.in-114.is refl

pub returns-in-115 : goal.returns-in-115
unfolding place_phases season_phases phases_of globe7_sets glob7s_sets pt_t ps_t pd_t0 pd_t1 pd_t2 pd_t3 pd_t4 pd_t5 pd_t6 pd_t7 pd_t8 ptl_t0 ptl_t1 ptl_t2 ptl_t3 pma_t0 pma_t1 pma_t2 pma_t3 pma_t4 pma_t5 pma_t6 pma_t7 pma_t8 pma_t9 neg of_bits
returns-in-115 c = phase_at c.in-115.is refl

pub returns-in-116 : goal.returns-in-116
unfolding place_phases season_phases phases_of globe7_sets glob7s_sets pt_t ps_t pd_t0 pd_t1 pd_t2 pd_t3 pd_t4 pd_t5 pd_t6 pd_t7 pd_t8 ptl_t0 ptl_t1 ptl_t2 ptl_t3 pma_t0 pma_t1 pma_t2 pma_t3 pma_t4 pma_t5 pma_t6 pma_t7 pma_t8 pma_t9 neg of_bits
returns-in-116 c = phase_at c.in-116.is refl

pub returns-in-117 : goal.returns-in-117
unfolding place_phases season_phases phases_of globe7_sets glob7s_sets pt_t ps_t pd_t0 pd_t1 pd_t2 pd_t3 pd_t4 pd_t5 pd_t6 pd_t7 pd_t8 ptl_t0 ptl_t1 ptl_t2 ptl_t3 pma_t0 pma_t1 pma_t2 pma_t3 pma_t4 pma_t5 pma_t6 pma_t7 pma_t8 pma_t9 neg of_bits
returns-in-117 c = phase_at c.in-117.is refl

pub returns-in-118 : goal.returns-in-118
unfolding place_phases season_phases phases_of globe7_sets glob7s_sets pt_t ps_t pd_t0 pd_t1 pd_t2 pd_t3 pd_t4 pd_t5 pd_t6 pd_t7 pd_t8 ptl_t0 ptl_t1 ptl_t2 ptl_t3 pma_t0 pma_t1 pma_t2 pma_t3 pma_t4 pma_t5 pma_t6 pma_t7 pma_t8 pma_t9 neg of_bits
returns-in-118 c = phase_at c.in-118.is refl

pub returns-in-119 : goal.returns-in-119
unfolding place_phases season_phases phases_of globe7_sets glob7s_sets pt_t ps_t pd_t0 pd_t1 pd_t2 pd_t3 pd_t4 pd_t5 pd_t6 pd_t7 pd_t8 ptl_t0 ptl_t1 ptl_t2 ptl_t3 pma_t0 pma_t1 pma_t2 pma_t3 pma_t4 pma_t5 pma_t6 pma_t7 pma_t8 pma_t9 neg of_bits
returns-in-119 c = phase_at c.in-119.is refl

pub returns-in-120 : goal.returns-in-120
unfolding place_phases season_phases phases_of globe7_sets glob7s_sets pt_t ps_t pd_t0 pd_t1 pd_t2 pd_t3 pd_t4 pd_t5 pd_t6 pd_t7 pd_t8 ptl_t0 ptl_t1 ptl_t2 ptl_t3 pma_t0 pma_t1 pma_t2 pma_t3 pma_t4 pma_t5 pma_t6 pma_t7 pma_t8 pma_t9 neg of_bits
returns-in-120 c = phase_at c.in-120.is refl

pub returns-in-121 : goal.returns-in-121
unfolding place_phases season_phases phases_of globe7_sets glob7s_sets pt_t ps_t pd_t0 pd_t1 pd_t2 pd_t3 pd_t4 pd_t5 pd_t6 pd_t7 pd_t8 ptl_t0 ptl_t1 ptl_t2 ptl_t3 pma_t0 pma_t1 pma_t2 pma_t3 pma_t4 pma_t5 pma_t6 pma_t7 pma_t8 pma_t9 neg of_bits
returns-in-121 c = phase_at c.in-121.is refl

pub returns-in-122 : goal.returns-in-122
unfolding place_phases season_phases phases_of globe7_sets glob7s_sets pt_t ps_t pd_t0 pd_t1 pd_t2 pd_t3 pd_t4 pd_t5 pd_t6 pd_t7 pd_t8 ptl_t0 ptl_t1 ptl_t2 ptl_t3 pma_t0 pma_t1 pma_t2 pma_t3 pma_t4 pma_t5 pma_t6 pma_t7 pma_t8 pma_t9 neg of_bits
returns-in-122 c = phase_at c.in-122.is refl

pub returns-in-123 : goal.returns-in-123
unfolding place_phases season_phases phases_of globe7_sets glob7s_sets pt_t ps_t pd_t0 pd_t1 pd_t2 pd_t3 pd_t4 pd_t5 pd_t6 pd_t7 pd_t8 ptl_t0 ptl_t1 ptl_t2 ptl_t3 pma_t0 pma_t1 pma_t2 pma_t3 pma_t4 pma_t5 pma_t6 pma_t7 pma_t8 pma_t9 neg of_bits
returns-in-123 c = phase_at c.in-123.is refl

pub returns-in-124 : goal.returns-in-124
unfolding place_phases season_phases phases_of globe7_sets glob7s_sets pt_t ps_t pd_t0 pd_t1 pd_t2 pd_t3 pd_t4 pd_t5 pd_t6 pd_t7 pd_t8 ptl_t0 ptl_t1 ptl_t2 ptl_t3 pma_t0 pma_t1 pma_t2 pma_t3 pma_t4 pma_t5 pma_t6 pma_t7 pma_t8 pma_t9 neg of_bits
returns-in-124 c = phase_at c.in-124.is refl

pub returns-in-125 : goal.returns-in-125
unfolding place_phases season_phases phases_of globe7_sets glob7s_sets pt_t ps_t pd_t0 pd_t1 pd_t2 pd_t3 pd_t4 pd_t5 pd_t6 pd_t7 pd_t8 ptl_t0 ptl_t1 ptl_t2 ptl_t3 pma_t0 pma_t1 pma_t2 pma_t3 pma_t4 pma_t5 pma_t6 pma_t7 pma_t8 pma_t9 neg of_bits
returns-in-125 c = phase_at c.in-125.is refl

pub returns-in-126 : goal.returns-in-126
unfolding place_phases season_phases phases_of globe7_sets glob7s_sets pt_t ps_t pd_t0 pd_t1 pd_t2 pd_t3 pd_t4 pd_t5 pd_t6 pd_t7 pd_t8 ptl_t0 ptl_t1 ptl_t2 ptl_t3 pma_t0 pma_t1 pma_t2 pma_t3 pma_t4 pma_t5 pma_t6 pma_t7 pma_t8 pma_t9 neg of_bits
returns-in-126 c = phase_at c.in-126.is refl

pub returns-in-127 : goal.returns-in-127
unfolding place_phases season_phases phases_of globe7_sets glob7s_sets pt_t ps_t pd_t0 pd_t1 pd_t2 pd_t3 pd_t4 pd_t5 pd_t6 pd_t7 pd_t8 ptl_t0 ptl_t1 ptl_t2 ptl_t3 pma_t0 pma_t1 pma_t2 pma_t3 pma_t4 pma_t5 pma_t6 pma_t7 pma_t8 pma_t9 neg of_bits
returns-in-127 c = phase_at c.in-127.is refl

pub returns-in-128 : goal.returns-in-128
unfolding place_phases season_phases phases_of globe7_sets glob7s_sets pt_t ps_t pd_t0 pd_t1 pd_t2 pd_t3 pd_t4 pd_t5 pd_t6 pd_t7 pd_t8 ptl_t0 ptl_t1 ptl_t2 ptl_t3 pma_t0 pma_t1 pma_t2 pma_t3 pma_t4 pma_t5 pma_t6 pma_t7 pma_t8 pma_t9 neg of_bits
returns-in-128 c = phase_at c.in-128.is refl

pub returns-in-129 : goal.returns-in-129
unfolding place_phases season_phases phases_of globe7_sets glob7s_sets pt_t ps_t pd_t0 pd_t1 pd_t2 pd_t3 pd_t4 pd_t5 pd_t6 pd_t7 pd_t8 ptl_t0 ptl_t1 ptl_t2 ptl_t3 pma_t0 pma_t1 pma_t2 pma_t3 pma_t4 pma_t5 pma_t6 pma_t7 pma_t8 pma_t9 neg of_bits
returns-in-129 c = phase_at c.in-129.is refl

pub returns-in-130 : goal.returns-in-130
unfolding place_phases season_phases phases_of globe7_sets glob7s_sets pt_t ps_t pd_t0 pd_t1 pd_t2 pd_t3 pd_t4 pd_t5 pd_t6 pd_t7 pd_t8 ptl_t0 ptl_t1 ptl_t2 ptl_t3 pma_t0 pma_t1 pma_t2 pma_t3 pma_t4 pma_t5 pma_t6 pma_t7 pma_t8 pma_t9 neg of_bits
returns-in-130 c = phase_at c.in-130.is refl

pub returns-in-131 : goal.returns-in-131
unfolding place_phases season_phases phases_of globe7_sets glob7s_sets pt_t ps_t pd_t0 pd_t1 pd_t2 pd_t3 pd_t4 pd_t5 pd_t6 pd_t7 pd_t8 ptl_t0 ptl_t1 ptl_t2 ptl_t3 pma_t0 pma_t1 pma_t2 pma_t3 pma_t4 pma_t5 pma_t6 pma_t7 pma_t8 pma_t9 neg of_bits
returns-in-131 c = phase_at c.in-131.is refl

pub returns-in-132 : goal.returns-in-132
unfolding place_phases season_phases phases_of globe7_sets glob7s_sets pt_t ps_t pd_t0 pd_t1 pd_t2 pd_t3 pd_t4 pd_t5 pd_t6 pd_t7 pd_t8 ptl_t0 ptl_t1 ptl_t2 ptl_t3 pma_t0 pma_t1 pma_t2 pma_t3 pma_t4 pma_t5 pma_t6 pma_t7 pma_t8 pma_t9 neg of_bits
returns-in-132 c = phase_at c.in-132.is refl

pub returns-in-133 : goal.returns-in-133
unfolding place_phases season_phases phases_of globe7_sets glob7s_sets pt_t ps_t pd_t0 pd_t1 pd_t2 pd_t3 pd_t4 pd_t5 pd_t6 pd_t7 pd_t8 ptl_t0 ptl_t1 ptl_t2 ptl_t3 pma_t0 pma_t1 pma_t2 pma_t3 pma_t4 pma_t5 pma_t6 pma_t7 pma_t8 pma_t9 neg of_bits
returns-in-133 c = phase_at c.in-133.is refl

pub returns-in-134 : goal.returns-in-134
unfolding place_phases season_phases phases_of globe7_sets glob7s_sets pt_t ps_t pd_t0 pd_t1 pd_t2 pd_t3 pd_t4 pd_t5 pd_t6 pd_t7 pd_t8 ptl_t0 ptl_t1 ptl_t2 ptl_t3 pma_t0 pma_t1 pma_t2 pma_t3 pma_t4 pma_t5 pma_t6 pma_t7 pma_t8 pma_t9 neg of_bits
returns-in-134 c = phase_at c.in-134.is refl

pub returns-in-135 : goal.returns-in-135
unfolding place_phases season_phases phases_of globe7_sets glob7s_sets pt_t ps_t pd_t0 pd_t1 pd_t2 pd_t3 pd_t4 pd_t5 pd_t6 pd_t7 pd_t8 ptl_t0 ptl_t1 ptl_t2 ptl_t3 pma_t0 pma_t1 pma_t2 pma_t3 pma_t4 pma_t5 pma_t6 pma_t7 pma_t8 pma_t9 neg of_bits
returns-in-135 c = phase_at c.in-135.is refl

pub returns-in-136 : goal.returns-in-136
unfolding place_phases season_phases phases_of globe7_sets glob7s_sets pt_t ps_t pd_t0 pd_t1 pd_t2 pd_t3 pd_t4 pd_t5 pd_t6 pd_t7 pd_t8 ptl_t0 ptl_t1 ptl_t2 ptl_t3 pma_t0 pma_t1 pma_t2 pma_t3 pma_t4 pma_t5 pma_t6 pma_t7 pma_t8 pma_t9 neg of_bits
returns-in-136 c = phase_at c.in-136.is refl

pub returns-in-137 : goal.returns-in-137
unfolding place_phases season_phases phases_of globe7_sets glob7s_sets pt_t ps_t pd_t0 pd_t1 pd_t2 pd_t3 pd_t4 pd_t5 pd_t6 pd_t7 pd_t8 ptl_t0 ptl_t1 ptl_t2 ptl_t3 pma_t0 pma_t1 pma_t2 pma_t3 pma_t4 pma_t5 pma_t6 pma_t7 pma_t8 pma_t9 neg of_bits
returns-in-137 c = phase_at c.in-137.is refl

pub returns-in-138 : goal.returns-in-138
unfolding place_phases season_phases phases_of globe7_sets glob7s_sets pt_t ps_t pd_t0 pd_t1 pd_t2 pd_t3 pd_t4 pd_t5 pd_t6 pd_t7 pd_t8 ptl_t0 ptl_t1 ptl_t2 ptl_t3 pma_t0 pma_t1 pma_t2 pma_t3 pma_t4 pma_t5 pma_t6 pma_t7 pma_t8 pma_t9 neg of_bits
returns-in-138 c = phase_at c.in-138.is refl

pub returns-in-139 : goal.returns-in-139
unfolding place_phases season_phases phases_of globe7_sets glob7s_sets pt_t ps_t pd_t0 pd_t1 pd_t2 pd_t3 pd_t4 pd_t5 pd_t6 pd_t7 pd_t8 ptl_t0 ptl_t1 ptl_t2 ptl_t3 pma_t0 pma_t1 pma_t2 pma_t3 pma_t4 pma_t5 pma_t6 pma_t7 pma_t8 pma_t9 neg of_bits
returns-in-139 c = phase_at c.in-139.is refl

pub returns-in-140 : goal.returns-in-140
unfolding place_phases season_phases phases_of globe7_sets glob7s_sets pt_t ps_t pd_t0 pd_t1 pd_t2 pd_t3 pd_t4 pd_t5 pd_t6 pd_t7 pd_t8 ptl_t0 ptl_t1 ptl_t2 ptl_t3 pma_t0 pma_t1 pma_t2 pma_t3 pma_t4 pma_t5 pma_t6 pma_t7 pma_t8 pma_t9 neg of_bits
returns-in-140 c = phase_at c.in-140.is refl

pub returns-in-141 : goal.returns-in-141
unfolding place_phases season_phases phases_of globe7_sets glob7s_sets pt_t ps_t pd_t0 pd_t1 pd_t2 pd_t3 pd_t4 pd_t5 pd_t6 pd_t7 pd_t8 ptl_t0 ptl_t1 ptl_t2 ptl_t3 pma_t0 pma_t1 pma_t2 pma_t3 pma_t4 pma_t5 pma_t6 pma_t7 pma_t8 pma_t9 neg of_bits
returns-in-141 c = phase_at c.in-141.is refl

pub returns-in-142 : goal.returns-in-142
unfolding place_phases season_phases phases_of globe7_sets glob7s_sets pt_t ps_t pd_t0 pd_t1 pd_t2 pd_t3 pd_t4 pd_t5 pd_t6 pd_t7 pd_t8 ptl_t0 ptl_t1 ptl_t2 ptl_t3 pma_t0 pma_t1 pma_t2 pma_t3 pma_t4 pma_t5 pma_t6 pma_t7 pma_t8 pma_t9 neg of_bits
returns-in-142 c = phase_at c.in-142.is refl

pub returns-in-143 : goal.returns-in-143
unfolding place_phases season_phases phases_of globe7_sets glob7s_sets pt_t ps_t pd_t0 pd_t1 pd_t2 pd_t3 pd_t4 pd_t5 pd_t6 pd_t7 pd_t8 ptl_t0 ptl_t1 ptl_t2 ptl_t3 pma_t0 pma_t1 pma_t2 pma_t3 pma_t4 pma_t5 pma_t6 pma_t7 pma_t8 pma_t9 neg of_bits
returns-in-143 c = phase_at c.in-143.is refl

pub returns-in-144 : goal.returns-in-144
unfolding place_phases season_phases phases_of globe7_sets glob7s_sets pt_t ps_t pd_t0 pd_t1 pd_t2 pd_t3 pd_t4 pd_t5 pd_t6 pd_t7 pd_t8 ptl_t0 ptl_t1 ptl_t2 ptl_t3 pma_t0 pma_t1 pma_t2 pma_t3 pma_t4 pma_t5 pma_t6 pma_t7 pma_t8 pma_t9 neg of_bits
returns-in-144 c = phase_at c.in-144.is refl

pub returns-in-145 : goal.returns-in-145
unfolding place_phases season_phases phases_of globe7_sets glob7s_sets pt_t ps_t pd_t0 pd_t1 pd_t2 pd_t3 pd_t4 pd_t5 pd_t6 pd_t7 pd_t8 ptl_t0 ptl_t1 ptl_t2 ptl_t3 pma_t0 pma_t1 pma_t2 pma_t3 pma_t4 pma_t5 pma_t6 pma_t7 pma_t8 pma_t9 neg of_bits
returns-in-145 c = phase_at c.in-145.is refl

pub returns-in-146 : goal.returns-in-146
unfolding place_phases season_phases phases_of globe7_sets glob7s_sets pt_t ps_t pd_t0 pd_t1 pd_t2 pd_t3 pd_t4 pd_t5 pd_t6 pd_t7 pd_t8 ptl_t0 ptl_t1 ptl_t2 ptl_t3 pma_t0 pma_t1 pma_t2 pma_t3 pma_t4 pma_t5 pma_t6 pma_t7 pma_t8 pma_t9 neg of_bits
returns-in-146 c = phase_at c.in-146.is refl

pub returns-in-147 : goal.returns-in-147
unfolding place_phases season_phases phases_of globe7_sets glob7s_sets pt_t ps_t pd_t0 pd_t1 pd_t2 pd_t3 pd_t4 pd_t5 pd_t6 pd_t7 pd_t8 ptl_t0 ptl_t1 ptl_t2 ptl_t3 pma_t0 pma_t1 pma_t2 pma_t3 pma_t4 pma_t5 pma_t6 pma_t7 pma_t8 pma_t9 neg of_bits
returns-in-147 c = phase_at c.in-147.is refl

pub returns-in-148 : goal.returns-in-148
unfolding place_phases season_phases phases_of globe7_sets glob7s_sets pt_t ps_t pd_t0 pd_t1 pd_t2 pd_t3 pd_t4 pd_t5 pd_t6 pd_t7 pd_t8 ptl_t0 ptl_t1 ptl_t2 ptl_t3 pma_t0 pma_t1 pma_t2 pma_t3 pma_t4 pma_t5 pma_t6 pma_t7 pma_t8 pma_t9 neg of_bits
returns-in-148 c = phase_at c.in-148.is refl

pub returns-in-149 : goal.returns-in-149
unfolding place_phases season_phases phases_of globe7_sets glob7s_sets pt_t ps_t pd_t0 pd_t1 pd_t2 pd_t3 pd_t4 pd_t5 pd_t6 pd_t7 pd_t8 ptl_t0 ptl_t1 ptl_t2 ptl_t3 pma_t0 pma_t1 pma_t2 pma_t3 pma_t4 pma_t5 pma_t6 pma_t7 pma_t8 pma_t9 neg of_bits
returns-in-149 c = phase_at c.in-149.is refl

pub returns-in-150 : goal.returns-in-150
unfolding place_phases season_phases phases_of globe7_sets glob7s_sets pt_t ps_t pd_t0 pd_t1 pd_t2 pd_t3 pd_t4 pd_t5 pd_t6 pd_t7 pd_t8 ptl_t0 ptl_t1 ptl_t2 ptl_t3 pma_t0 pma_t1 pma_t2 pma_t3 pma_t4 pma_t5 pma_t6 pma_t7 pma_t8 pma_t9 neg of_bits
returns-in-150 c = phase_at c.in-150.is refl

pub returns-in-151 : goal.returns-in-151
unfolding place_phases season_phases phases_of globe7_sets glob7s_sets pt_t ps_t pd_t0 pd_t1 pd_t2 pd_t3 pd_t4 pd_t5 pd_t6 pd_t7 pd_t8 ptl_t0 ptl_t1 ptl_t2 ptl_t3 pma_t0 pma_t1 pma_t2 pma_t3 pma_t4 pma_t5 pma_t6 pma_t7 pma_t8 pma_t9 neg of_bits
returns-in-151 c = phase_at c.in-151.is refl

pub returns-in-152 : goal.returns-in-152
unfolding place_phases season_phases phases_of globe7_sets glob7s_sets pt_t ps_t pd_t0 pd_t1 pd_t2 pd_t3 pd_t4 pd_t5 pd_t6 pd_t7 pd_t8 ptl_t0 ptl_t1 ptl_t2 ptl_t3 pma_t0 pma_t1 pma_t2 pma_t3 pma_t4 pma_t5 pma_t6 pma_t7 pma_t8 pma_t9 neg of_bits
returns-in-152 c = phase_at c.in-152.is refl

pub returns-in-153 : goal.returns-in-153
unfolding place_phases season_phases phases_of globe7_sets glob7s_sets pt_t ps_t pd_t0 pd_t1 pd_t2 pd_t3 pd_t4 pd_t5 pd_t6 pd_t7 pd_t8 ptl_t0 ptl_t1 ptl_t2 ptl_t3 pma_t0 pma_t1 pma_t2 pma_t3 pma_t4 pma_t5 pma_t6 pma_t7 pma_t8 pma_t9 neg of_bits
returns-in-153 c = phase_at c.in-153.is refl

pub returns-in-154 : goal.returns-in-154
unfolding place_phases season_phases phases_of globe7_sets glob7s_sets pt_t ps_t pd_t0 pd_t1 pd_t2 pd_t3 pd_t4 pd_t5 pd_t6 pd_t7 pd_t8 ptl_t0 ptl_t1 ptl_t2 ptl_t3 pma_t0 pma_t1 pma_t2 pma_t3 pma_t4 pma_t5 pma_t6 pma_t7 pma_t8 pma_t9 neg of_bits
returns-in-154 c = phase_at c.in-154.is refl

-- past the last key one place is left
pub returns-in_default : goal.returns-in_default
unfolding place_phases season_phases phases_of globe7_sets glob7s_sets pt_t ps_t pd_t0 pd_t1 pd_t2 pd_t3 pd_t4 pd_t5 pd_t6 pd_t7 pd_t8 ptl_t0 ptl_t1 ptl_t2 ptl_t3 pma_t0 pma_t1 pma_t2 pma_t3 pma_t4 pma_t5 pma_t6 pma_t7 pma_t8 pma_t9 neg of_bits
returns-in_default c = let e : c.args.i ≡ 155 = omega (arith, rest_above 155 c.args.i c.in_default.in_default-own.rest, c.requires) in phase_at e refl
