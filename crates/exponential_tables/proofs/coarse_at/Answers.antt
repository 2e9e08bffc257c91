-- `exponential_tables::coarse_at` meets its contract. Made by scripts/elementary/generate.py. Assumes nothing.
use mathlib.Core.Path.{refl}
use native.Mathlib.Omega.{arith}
use Rattle.exponential_tables.specs.Tables.{coarse}
use Rattle.fixed_point.proofs.Arms.{entry_at, rest_above}
use Rattle.exponential_tables.proofs.coarse_at.Goals as goal

pub returns-in-0 : goal.returns-in-0
unfolding coarse
returns-in-0 c = entry_at coarse c.in-0.is refl

pub returns-in-1 : goal.returns-in-1
unfolding coarse
returns-in-1 c = entry_at coarse c.in-1.is refl

pub returns-in-2 : goal.returns-in-2
unfolding coarse
returns-in-2 c = entry_at coarse c.in-2.is refl

pub returns-in-3 : goal.returns-in-3
unfolding coarse
returns-in-3 c = entry_at coarse c.in-3.is refl

pub returns-in-4 : goal.returns-in-4
unfolding coarse
returns-in-4 c = entry_at coarse c.in-4.is refl

pub returns-in-5 : goal.returns-in-5
unfolding coarse
returns-in-5 c = entry_at coarse c.in-5.is refl

pub returns-in-6 : goal.returns-in-6
unfolding coarse
returns-in-6 c = entry_at coarse c.in-6.is refl

pub returns-in-7 : goal.returns-in-7
unfolding coarse
returns-in-7 c = entry_at coarse c.in-7.is refl

pub returns-in-8 : goal.returns-in-8
unfolding coarse
returns-in-8 c = entry_at coarse c.in-8.is refl

pub returns-in-9 : goal.returns-in-9
unfolding coarse
returns-in-9 c = entry_at coarse c.in-9.is refl

pub returns-in-10 : goal.returns-in-10
unfolding coarse
returns-in-10 c = entry_at coarse c.in-10.is refl

pub returns-in-11 : goal.returns-in-11
unfolding coarse
returns-in-11 c = entry_at coarse c.in-11.is refl

pub returns-in-12 : goal.returns-in-12
unfolding coarse
returns-in-12 c = entry_at coarse c.in-12.is refl

pub returns-in-13 : goal.returns-in-13
unfolding coarse
returns-in-13 c = entry_at coarse c.in-13.is refl

pub returns-in-14 : goal.returns-in-14
unfolding coarse
returns-in-14 c = entry_at coarse c.in-14.is refl

pub returns-in-15 : goal.returns-in-15
unfolding coarse
returns-in-15 c = entry_at coarse c.in-15.is refl

pub returns-in-16 : goal.returns-in-16
unfolding coarse
returns-in-16 c = entry_at coarse c.in-16.is refl

pub returns-in-17 : goal.returns-in-17
unfolding coarse
returns-in-17 c = entry_at coarse c.in-17.is refl

pub returns-in-18 : goal.returns-in-18
unfolding coarse
returns-in-18 c = entry_at coarse c.in-18.is refl

pub returns-in-19 : goal.returns-in-19
unfolding coarse
returns-in-19 c = entry_at coarse c.in-19.is refl

pub returns-in-20 : goal.returns-in-20
unfolding coarse
returns-in-20 c = entry_at coarse c.in-20.is refl

pub returns-in-21 : goal.returns-in-21
unfolding coarse
returns-in-21 c = entry_at coarse c.in-21.is refl

pub returns-in-22 : goal.returns-in-22
unfolding coarse
returns-in-22 c = entry_at coarse c.in-22.is refl

pub returns-in-23 : goal.returns-in-23
unfolding coarse
returns-in-23 c = entry_at coarse c.in-23.is refl

pub returns-in-24 : goal.returns-in-24
unfolding coarse
returns-in-24 c = entry_at coarse c.in-24.is refl

pub returns-in-25 : goal.returns-in-25
unfolding coarse
returns-in-25 c = entry_at coarse c.in-25.is refl

pub returns-in-26 : goal.returns-in-26
unfolding coarse
returns-in-26 c = entry_at coarse c.in-26.is refl

pub returns-in-27 : goal.returns-in-27
unfolding coarse
returns-in-27 c = entry_at coarse c.in-27.is refl

pub returns-in-28 : goal.returns-in-28
unfolding coarse
returns-in-28 c = entry_at coarse c.in-28.is refl

pub returns-in-29 : goal.returns-in-29
unfolding coarse
returns-in-29 c = entry_at coarse c.in-29.is refl

pub returns-in-30 : goal.returns-in-30
unfolding coarse
returns-in-30 c = entry_at coarse c.in-30.is refl

pub returns-in-31 : goal.returns-in-31
unfolding coarse
returns-in-31 c = entry_at coarse c.in-31.is refl

pub returns-in-32 : goal.returns-in-32
unfolding coarse
returns-in-32 c = entry_at coarse c.in-32.is refl

pub returns-in-33 : goal.returns-in-33
unfolding coarse
returns-in-33 c = entry_at coarse c.in-33.is refl

pub returns-in-34 : goal.returns-in-34
unfolding coarse
returns-in-34 c = entry_at coarse c.in-34.is refl

pub returns-in-35 : goal.returns-in-35
unfolding coarse
returns-in-35 c = entry_at coarse c.in-35.is refl

pub returns-in-36 : goal.returns-in-36
unfolding coarse
returns-in-36 c = entry_at coarse c.in-36.is refl

pub returns-in-37 : goal.returns-in-37
unfolding coarse
returns-in-37 c = entry_at coarse c.in-37.is refl

pub returns-in-38 : goal.returns-in-38
unfolding coarse
returns-in-38 c = entry_at coarse c.in-38.is refl

pub returns-in-39 : goal.returns-in-39
unfolding coarse
returns-in-39 c = entry_at coarse c.in-39.is refl

pub returns-in-40 : goal.returns-in-40
unfolding coarse
returns-in-40 c = entry_at coarse c.in-40.is refl

pub returns-in-41 : goal.returns-in-41
unfolding coarse
returns-in-41 c = entry_at coarse c.in-41.is refl

pub returns-in-42 : goal.returns-in-42
unfolding coarse
returns-in-42 c = entry_at coarse c.in-42.is refl

pub returns-in-43 : goal.returns-in-43
unfolding coarse
returns-in-43 c = entry_at coarse c.in-43.is refl

pub returns-in-44 : goal.returns-in-44
unfolding coarse
returns-in-44 c = entry_at coarse c.in-44.is refl

pub returns-in-45 : goal.returns-in-45
unfolding coarse
returns-in-45 c = entry_at coarse c.in-45.is refl

pub returns-in-46 : goal.returns-in-46
unfolding coarse
returns-in-46 c = entry_at coarse c.in-46.is refl

pub returns-in-47 : goal.returns-in-47
unfolding coarse
returns-in-47 c = entry_at coarse c.in-47.is refl

pub returns-in-48 : goal.returns-in-48
unfolding coarse
returns-in-48 c = entry_at coarse c.in-48.is refl

pub returns-in-49 : goal.returns-in-49
unfolding coarse
returns-in-49 c = entry_at coarse c.in-49.is refl

pub returns-in-50 : goal.returns-in-50
unfolding coarse
returns-in-50 c = entry_at coarse c.in-50.is refl

pub returns-in-51 : goal.returns-in-51
unfolding coarse
returns-in-51 c = entry_at coarse c.in-51.is refl

pub returns-in-52 : goal.returns-in-52
unfolding coarse
returns-in-52 c = entry_at coarse c.in-52.is refl

pub returns-in-53 : goal.returns-in-53
unfolding coarse
returns-in-53 c = entry_at coarse c.in-53.is refl

pub returns-in-54 : goal.returns-in-54
unfolding coarse
returns-in-54 c = entry_at coarse c.in-54.is refl

pub returns-in-55 : goal.returns-in-55
unfolding coarse
returns-in-55 c = entry_at coarse c.in-55.is refl

pub returns-in-56 : goal.returns-in-56
unfolding coarse
returns-in-56 c = entry_at coarse c.in-56.is refl

pub returns-in-57 : goal.returns-in-57
unfolding coarse
returns-in-57 c = entry_at coarse c.in-57.is refl

pub returns-in-58 : goal.returns-in-58
unfolding coarse
returns-in-58 c = entry_at coarse c.in-58.is refl

pub returns-in-59 : goal.returns-in-59
unfolding coarse
returns-in-59 c = entry_at coarse c.in-59.is refl

pub returns-in-60 : goal.returns-in-60
unfolding coarse
returns-in-60 c = entry_at coarse c.in-60.is refl

pub returns-in-61 : goal.returns-in-61
unfolding coarse
returns-in-61 c = entry_at coarse c.in-61.is refl

pub returns-in-62 : goal.returns-in-62
unfolding coarse
returns-in-62 c = entry_at coarse c.in-62.is refl

pub returns-in-63 : goal.returns-in-63
unfolding coarse
returns-in-63 c = entry_at coarse c.in-63.is refl

pub returns-in-64 : goal.returns-in-64
unfolding coarse
returns-in-64 c = entry_at coarse c.in-64.is refl

-- past the last key: no index is left
pub returns-in_default : goal.returns-in_default
returns-in_default c = omega (arith, rest_above 65 c.args.i c.in_default.in_default-own.rest)
