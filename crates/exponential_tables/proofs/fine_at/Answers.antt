-- `exponential_tables::fine_at` meets its contract. Made by scripts/elementary/generate.py. Assumes nothing.
use mathlib.Core.Path.{refl}
use native.Mathlib.Omega.{arith}
use Rattle.exponential_tables.specs.Tables.{fine}
use Rattle.fixed_point.proofs.Arms.{entry_at, rest_above}
use Rattle.exponential_tables.proofs.fine_at.Goals as goal

pub returns-in-0 : goal.returns-in-0
unfolding fine
returns-in-0 c = entry_at fine c.in-0.is refl

pub returns-in-1 : goal.returns-in-1
unfolding fine
returns-in-1 c = entry_at fine c.in-1.is refl

pub returns-in-2 : goal.returns-in-2
unfolding fine
returns-in-2 c = entry_at fine c.in-2.is refl

pub returns-in-3 : goal.returns-in-3
unfolding fine
returns-in-3 c = entry_at fine c.in-3.is refl

pub returns-in-4 : goal.returns-in-4
unfolding fine
returns-in-4 c = entry_at fine c.in-4.is refl

pub returns-in-5 : goal.returns-in-5
unfolding fine
returns-in-5 c = entry_at fine c.in-5.is refl

pub returns-in-6 : goal.returns-in-6
unfolding fine
returns-in-6 c = entry_at fine c.in-6.is refl

pub returns-in-7 : goal.returns-in-7
unfolding fine
returns-in-7 c = entry_at fine c.in-7.is refl

pub returns-in-8 : goal.returns-in-8
unfolding fine
returns-in-8 c = entry_at fine c.in-8.is refl

pub returns-in-9 : goal.returns-in-9
unfolding fine
returns-in-9 c = entry_at fine c.in-9.is refl

pub returns-in-10 : goal.returns-in-10
unfolding fine
returns-in-10 c = entry_at fine c.in-10.is refl

pub returns-in-11 : goal.returns-in-11
unfolding fine
returns-in-11 c = entry_at fine c.in-11.is refl

pub returns-in-12 : goal.returns-in-12
unfolding fine
returns-in-12 c = entry_at fine c.in-12.is refl

pub returns-in-13 : goal.returns-in-13
unfolding fine
returns-in-13 c = entry_at fine c.in-13.is refl

pub returns-in-14 : goal.returns-in-14
unfolding fine
returns-in-14 c = entry_at fine c.in-14.is refl

pub returns-in-15 : goal.returns-in-15
unfolding fine
returns-in-15 c = entry_at fine c.in-15.is refl

pub returns-in-16 : goal.returns-in-16
unfolding fine
returns-in-16 c = entry_at fine c.in-16.is refl

pub returns-in-17 : goal.returns-in-17
unfolding fine
returns-in-17 c = entry_at fine c.in-17.is refl

pub returns-in-18 : goal.returns-in-18
unfolding fine
returns-in-18 c = entry_at fine c.in-18.is refl

pub returns-in-19 : goal.returns-in-19
unfolding fine
returns-in-19 c = entry_at fine c.in-19.is refl

pub returns-in-20 : goal.returns-in-20
unfolding fine
returns-in-20 c = entry_at fine c.in-20.is refl

pub returns-in-21 : goal.returns-in-21
unfolding fine
returns-in-21 c = entry_at fine c.in-21.is refl

pub returns-in-22 : goal.returns-in-22
unfolding fine
returns-in-22 c = entry_at fine c.in-22.is refl

pub returns-in-23 : goal.returns-in-23
unfolding fine
returns-in-23 c = entry_at fine c.in-23.is refl

pub returns-in-24 : goal.returns-in-24
unfolding fine
returns-in-24 c = entry_at fine c.in-24.is refl

pub returns-in-25 : goal.returns-in-25
unfolding fine
returns-in-25 c = entry_at fine c.in-25.is refl

pub returns-in-26 : goal.returns-in-26
unfolding fine
returns-in-26 c = entry_at fine c.in-26.is refl

pub returns-in-27 : goal.returns-in-27
unfolding fine
returns-in-27 c = entry_at fine c.in-27.is refl

pub returns-in-28 : goal.returns-in-28
unfolding fine
returns-in-28 c = entry_at fine c.in-28.is refl

pub returns-in-29 : goal.returns-in-29
unfolding fine
returns-in-29 c = entry_at fine c.in-29.is refl

pub returns-in-30 : goal.returns-in-30
unfolding fine
returns-in-30 c = entry_at fine c.in-30.is refl

pub returns-in-31 : goal.returns-in-31
unfolding fine
returns-in-31 c = entry_at fine c.in-31.is refl

-- past the last key: no index is left
pub returns-in_default : goal.returns-in_default
returns-in_default c = omega (arith, rest_above 32 c.args.i c.in_default.in_default-own.rest)
