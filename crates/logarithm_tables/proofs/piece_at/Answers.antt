-- `logarithm_tables::piece_at` meets its contract. Made by scripts/elementary/generate.py. Assumes nothing.
use mathlib.Core.Path.{refl}
use native.Mathlib.Omega.{arith}
use Rattle.logarithm_tables.specs.Tables.{reciprocals, logarithms}
use Rattle.fixed_point.proofs.Arms.{entry_at, rest_above}
use Rattle.logarithm_tables.proofs.piece_at.Goals as goal

pub returns-in-0 : goal.returns-in-0
unfolding reciprocals logarithms
returns-in-0 c = (entry_at reciprocals c.in-0.is refl, entry_at logarithms c.in-0.is refl)

pub returns-in-1 : goal.returns-in-1
unfolding reciprocals logarithms
returns-in-1 c = (entry_at reciprocals c.in-1.is refl, entry_at logarithms c.in-1.is refl)

pub returns-in-2 : goal.returns-in-2
unfolding reciprocals logarithms
returns-in-2 c = (entry_at reciprocals c.in-2.is refl, entry_at logarithms c.in-2.is refl)

pub returns-in-3 : goal.returns-in-3
unfolding reciprocals logarithms
returns-in-3 c = (entry_at reciprocals c.in-3.is refl, entry_at logarithms c.in-3.is refl)

pub returns-in-4 : goal.returns-in-4
unfolding reciprocals logarithms
returns-in-4 c = (entry_at reciprocals c.in-4.is refl, entry_at logarithms c.in-4.is refl)

pub returns-in-5 : goal.returns-in-5
unfolding reciprocals logarithms
returns-in-5 c = (entry_at reciprocals c.in-5.is refl, entry_at logarithms c.in-5.is refl)

pub returns-in-6 : goal.returns-in-6
unfolding reciprocals logarithms
returns-in-6 c = (entry_at reciprocals c.in-6.is refl, entry_at logarithms c.in-6.is refl)

pub returns-in-7 : goal.returns-in-7
unfolding reciprocals logarithms
returns-in-7 c = (entry_at reciprocals c.in-7.is refl, entry_at logarithms c.in-7.is refl)

pub returns-in-8 : goal.returns-in-8
unfolding reciprocals logarithms
returns-in-8 c = (entry_at reciprocals c.in-8.is refl, entry_at logarithms c.in-8.is refl)

pub returns-in-9 : goal.returns-in-9
unfolding reciprocals logarithms
returns-in-9 c = (entry_at reciprocals c.in-9.is refl, entry_at logarithms c.in-9.is refl)

pub returns-in-10 : goal.returns-in-10
unfolding reciprocals logarithms
returns-in-10 c = (entry_at reciprocals c.in-10.is refl, entry_at logarithms c.in-10.is refl)

pub returns-in-11 : goal.returns-in-11
unfolding reciprocals logarithms
returns-in-11 c = (entry_at reciprocals c.in-11.is refl, entry_at logarithms c.in-11.is refl)

pub returns-in-12 : goal.returns-in-12
unfolding reciprocals logarithms
returns-in-12 c = (entry_at reciprocals c.in-12.is refl, entry_at logarithms c.in-12.is refl)

pub returns-in-13 : goal.returns-in-13
unfolding reciprocals logarithms
returns-in-13 c = (entry_at reciprocals c.in-13.is refl, entry_at logarithms c.in-13.is refl)

pub returns-in-14 : goal.returns-in-14
unfolding reciprocals logarithms
returns-in-14 c = (entry_at reciprocals c.in-14.is refl, entry_at logarithms c.in-14.is refl)

pub returns-in-15 : goal.returns-in-15
unfolding reciprocals logarithms
returns-in-15 c = (entry_at reciprocals c.in-15.is refl, entry_at logarithms c.in-15.is refl)

pub returns-in-16 : goal.returns-in-16
unfolding reciprocals logarithms
returns-in-16 c = (entry_at reciprocals c.in-16.is refl, entry_at logarithms c.in-16.is refl)

pub returns-in-17 : goal.returns-in-17
unfolding reciprocals logarithms
returns-in-17 c = (entry_at reciprocals c.in-17.is refl, entry_at logarithms c.in-17.is refl)

pub returns-in-18 : goal.returns-in-18
unfolding reciprocals logarithms
returns-in-18 c = (entry_at reciprocals c.in-18.is refl, entry_at logarithms c.in-18.is refl)

pub returns-in-19 : goal.returns-in-19
unfolding reciprocals logarithms
returns-in-19 c = (entry_at reciprocals c.in-19.is refl, entry_at logarithms c.in-19.is refl)

pub returns-in-20 : goal.returns-in-20
unfolding reciprocals logarithms
returns-in-20 c = (entry_at reciprocals c.in-20.is refl, entry_at logarithms c.in-20.is refl)

pub returns-in-21 : goal.returns-in-21
unfolding reciprocals logarithms
returns-in-21 c = (entry_at reciprocals c.in-21.is refl, entry_at logarithms c.in-21.is refl)

pub returns-in-22 : goal.returns-in-22
unfolding reciprocals logarithms
returns-in-22 c = (entry_at reciprocals c.in-22.is refl, entry_at logarithms c.in-22.is refl)

pub returns-in-23 : goal.returns-in-23
unfolding reciprocals logarithms
returns-in-23 c = (entry_at reciprocals c.in-23.is refl, entry_at logarithms c.in-23.is refl)

pub returns-in-24 : goal.returns-in-24
unfolding reciprocals logarithms
returns-in-24 c = (entry_at reciprocals c.in-24.is refl, entry_at logarithms c.in-24.is refl)

pub returns-in-25 : goal.returns-in-25
unfolding reciprocals logarithms
returns-in-25 c = (entry_at reciprocals c.in-25.is refl, entry_at logarithms c.in-25.is refl)

pub returns-in-26 : goal.returns-in-26
unfolding reciprocals logarithms
returns-in-26 c = (entry_at reciprocals c.in-26.is refl, entry_at logarithms c.in-26.is refl)

pub returns-in-27 : goal.returns-in-27
unfolding reciprocals logarithms
returns-in-27 c = (entry_at reciprocals c.in-27.is refl, entry_at logarithms c.in-27.is refl)

pub returns-in-28 : goal.returns-in-28
unfolding reciprocals logarithms
returns-in-28 c = (entry_at reciprocals c.in-28.is refl, entry_at logarithms c.in-28.is refl)

pub returns-in-29 : goal.returns-in-29
unfolding reciprocals logarithms
returns-in-29 c = (entry_at reciprocals c.in-29.is refl, entry_at logarithms c.in-29.is refl)

pub returns-in-30 : goal.returns-in-30
unfolding reciprocals logarithms
returns-in-30 c = (entry_at reciprocals c.in-30.is refl, entry_at logarithms c.in-30.is refl)

pub returns-in-31 : goal.returns-in-31
unfolding reciprocals logarithms
returns-in-31 c = (entry_at reciprocals c.in-31.is refl, entry_at logarithms c.in-31.is refl)

pub returns-in-32 : goal.returns-in-32
unfolding reciprocals logarithms
returns-in-32 c = (entry_at reciprocals c.in-32.is refl, entry_at logarithms c.in-32.is refl)

pub returns-in-33 : goal.returns-in-33
unfolding reciprocals logarithms
returns-in-33 c = (entry_at reciprocals c.in-33.is refl, entry_at logarithms c.in-33.is refl)

pub returns-in-34 : goal.returns-in-34
unfolding reciprocals logarithms
returns-in-34 c = (entry_at reciprocals c.in-34.is refl, entry_at logarithms c.in-34.is refl)

pub returns-in-35 : goal.returns-in-35
unfolding reciprocals logarithms
returns-in-35 c = (entry_at reciprocals c.in-35.is refl, entry_at logarithms c.in-35.is refl)

pub returns-in-36 : goal.returns-in-36
unfolding reciprocals logarithms
returns-in-36 c = (entry_at reciprocals c.in-36.is refl, entry_at logarithms c.in-36.is refl)

pub returns-in-37 : goal.returns-in-37
unfolding reciprocals logarithms
returns-in-37 c = (entry_at reciprocals c.in-37.is refl, entry_at logarithms c.in-37.is refl)

pub returns-in-38 : goal.returns-in-38
unfolding reciprocals logarithms
returns-in-38 c = (entry_at reciprocals c.in-38.is refl, entry_at logarithms c.in-38.is refl)

pub returns-in-39 : goal.returns-in-39
unfolding reciprocals logarithms
returns-in-39 c = (entry_at reciprocals c.in-39.is refl, entry_at logarithms c.in-39.is refl)

pub returns-in-40 : goal.returns-in-40
unfolding reciprocals logarithms
returns-in-40 c = (entry_at reciprocals c.in-40.is refl, entry_at logarithms c.in-40.is refl)

pub returns-in-41 : goal.returns-in-41
unfolding reciprocals logarithms
returns-in-41 c = (entry_at reciprocals c.in-41.is refl, entry_at logarithms c.in-41.is refl)

pub returns-in-42 : goal.returns-in-42
unfolding reciprocals logarithms
returns-in-42 c = (entry_at reciprocals c.in-42.is refl, entry_at logarithms c.in-42.is refl)

pub returns-in-43 : goal.returns-in-43
unfolding reciprocals logarithms
returns-in-43 c = (entry_at reciprocals c.in-43.is refl, entry_at logarithms c.in-43.is refl)

pub returns-in-44 : goal.returns-in-44
unfolding reciprocals logarithms
returns-in-44 c = (entry_at reciprocals c.in-44.is refl, entry_at logarithms c.in-44.is refl)

pub returns-in-45 : goal.returns-in-45
unfolding reciprocals logarithms
returns-in-45 c = (entry_at reciprocals c.in-45.is refl, entry_at logarithms c.in-45.is refl)

pub returns-in-46 : goal.returns-in-46
unfolding reciprocals logarithms
returns-in-46 c = (entry_at reciprocals c.in-46.is refl, entry_at logarithms c.in-46.is refl)

pub returns-in-47 : goal.returns-in-47
unfolding reciprocals logarithms
returns-in-47 c = (entry_at reciprocals c.in-47.is refl, entry_at logarithms c.in-47.is refl)

pub returns-in-48 : goal.returns-in-48
unfolding reciprocals logarithms
returns-in-48 c = (entry_at reciprocals c.in-48.is refl, entry_at logarithms c.in-48.is refl)

pub returns-in-49 : goal.returns-in-49
unfolding reciprocals logarithms
returns-in-49 c = (entry_at reciprocals c.in-49.is refl, entry_at logarithms c.in-49.is refl)

pub returns-in-50 : goal.returns-in-50
unfolding reciprocals logarithms
returns-in-50 c = (entry_at reciprocals c.in-50.is refl, entry_at logarithms c.in-50.is refl)

pub returns-in-51 : goal.returns-in-51
unfolding reciprocals logarithms
returns-in-51 c = (entry_at reciprocals c.in-51.is refl, entry_at logarithms c.in-51.is refl)

pub returns-in-52 : goal.returns-in-52
unfolding reciprocals logarithms
returns-in-52 c = (entry_at reciprocals c.in-52.is refl, entry_at logarithms c.in-52.is refl)

pub returns-in-53 : goal.returns-in-53
unfolding reciprocals logarithms
returns-in-53 c = (entry_at reciprocals c.in-53.is refl, entry_at logarithms c.in-53.is refl)

pub returns-in-54 : goal.returns-in-54
unfolding reciprocals logarithms
returns-in-54 c = (entry_at reciprocals c.in-54.is refl, entry_at logarithms c.in-54.is refl)

pub returns-in-55 : goal.returns-in-55
unfolding reciprocals logarithms
returns-in-55 c = (entry_at reciprocals c.in-55.is refl, entry_at logarithms c.in-55.is refl)

pub returns-in-56 : goal.returns-in-56
unfolding reciprocals logarithms
returns-in-56 c = (entry_at reciprocals c.in-56.is refl, entry_at logarithms c.in-56.is refl)

pub returns-in-57 : goal.returns-in-57
unfolding reciprocals logarithms
returns-in-57 c = (entry_at reciprocals c.in-57.is refl, entry_at logarithms c.in-57.is refl)

pub returns-in-58 : goal.returns-in-58
unfolding reciprocals logarithms
returns-in-58 c = (entry_at reciprocals c.in-58.is refl, entry_at logarithms c.in-58.is refl)

pub returns-in-59 : goal.returns-in-59
unfolding reciprocals logarithms
returns-in-59 c = (entry_at reciprocals c.in-59.is refl, entry_at logarithms c.in-59.is refl)

pub returns-in-60 : goal.returns-in-60
unfolding reciprocals logarithms
returns-in-60 c = (entry_at reciprocals c.in-60.is refl, entry_at logarithms c.in-60.is refl)

pub returns-in-61 : goal.returns-in-61
unfolding reciprocals logarithms
returns-in-61 c = (entry_at reciprocals c.in-61.is refl, entry_at logarithms c.in-61.is refl)

pub returns-in-62 : goal.returns-in-62
unfolding reciprocals logarithms
returns-in-62 c = (entry_at reciprocals c.in-62.is refl, entry_at logarithms c.in-62.is refl)

pub returns-in-63 : goal.returns-in-63
unfolding reciprocals logarithms
returns-in-63 c = (entry_at reciprocals c.in-63.is refl, entry_at logarithms c.in-63.is refl)

pub returns-in-64 : goal.returns-in-64
unfolding reciprocals logarithms
returns-in-64 c = (entry_at reciprocals c.in-64.is refl, entry_at logarithms c.in-64.is refl)

pub returns-in-65 : goal.returns-in-65
unfolding reciprocals logarithms
returns-in-65 c = (entry_at reciprocals c.in-65.is refl, entry_at logarithms c.in-65.is refl)

pub returns-in-66 : goal.returns-in-66
unfolding reciprocals logarithms
returns-in-66 c = (entry_at reciprocals c.in-66.is refl, entry_at logarithms c.in-66.is refl)

pub returns-in-67 : goal.returns-in-67
unfolding reciprocals logarithms
returns-in-67 c = (entry_at reciprocals c.in-67.is refl, entry_at logarithms c.in-67.is refl)

pub returns-in-68 : goal.returns-in-68
unfolding reciprocals logarithms
returns-in-68 c = (entry_at reciprocals c.in-68.is refl, entry_at logarithms c.in-68.is refl)

pub returns-in-69 : goal.returns-in-69
unfolding reciprocals logarithms
returns-in-69 c = (entry_at reciprocals c.in-69.is refl, entry_at logarithms c.in-69.is refl)

pub returns-in-70 : goal.returns-in-70
unfolding reciprocals logarithms
returns-in-70 c = (entry_at reciprocals c.in-70.is refl, entry_at logarithms c.in-70.is refl)

pub returns-in-71 : goal.returns-in-71
unfolding reciprocals logarithms
returns-in-71 c = (entry_at reciprocals c.in-71.is refl, entry_at logarithms c.in-71.is refl)

pub returns-in-72 : goal.returns-in-72
unfolding reciprocals logarithms
returns-in-72 c = (entry_at reciprocals c.in-72.is refl, entry_at logarithms c.in-72.is refl)

pub returns-in-73 : goal.returns-in-73
unfolding reciprocals logarithms
returns-in-73 c = (entry_at reciprocals c.in-73.is refl, entry_at logarithms c.in-73.is refl)

pub returns-in-74 : goal.returns-in-74
unfolding reciprocals logarithms
returns-in-74 c = (entry_at reciprocals c.in-74.is refl, entry_at logarithms c.in-74.is refl)

pub returns-in-75 : goal.returns-in-75
unfolding reciprocals logarithms
returns-in-75 c = (entry_at reciprocals c.in-75.is refl, entry_at logarithms c.in-75.is refl)

pub returns-in-76 : goal.returns-in-76
unfolding reciprocals logarithms
returns-in-76 c = (entry_at reciprocals c.in-76.is refl, entry_at logarithms c.in-76.is refl)

pub returns-in-77 : goal.returns-in-77
unfolding reciprocals logarithms
returns-in-77 c = (entry_at reciprocals c.in-77.is refl, entry_at logarithms c.in-77.is refl)

pub returns-in-78 : goal.returns-in-78
unfolding reciprocals logarithms
returns-in-78 c = (entry_at reciprocals c.in-78.is refl, entry_at logarithms c.in-78.is refl)

pub returns-in-79 : goal.returns-in-79
unfolding reciprocals logarithms
returns-in-79 c = (entry_at reciprocals c.in-79.is refl, entry_at logarithms c.in-79.is refl)

pub returns-in-80 : goal.returns-in-80
unfolding reciprocals logarithms
returns-in-80 c = (entry_at reciprocals c.in-80.is refl, entry_at logarithms c.in-80.is refl)

pub returns-in-81 : goal.returns-in-81
unfolding reciprocals logarithms
returns-in-81 c = (entry_at reciprocals c.in-81.is refl, entry_at logarithms c.in-81.is refl)

pub returns-in-82 : goal.returns-in-82
unfolding reciprocals logarithms
returns-in-82 c = (entry_at reciprocals c.in-82.is refl, entry_at logarithms c.in-82.is refl)

pub returns-in-83 : goal.returns-in-83
unfolding reciprocals logarithms
returns-in-83 c = (entry_at reciprocals c.in-83.is refl, entry_at logarithms c.in-83.is refl)

pub returns-in-84 : goal.returns-in-84
unfolding reciprocals logarithms
returns-in-84 c = (entry_at reciprocals c.in-84.is refl, entry_at logarithms c.in-84.is refl)

pub returns-in-85 : goal.returns-in-85
unfolding reciprocals logarithms
returns-in-85 c = (entry_at reciprocals c.in-85.is refl, entry_at logarithms c.in-85.is refl)

pub returns-in-86 : goal.returns-in-86
unfolding reciprocals logarithms
returns-in-86 c = (entry_at reciprocals c.in-86.is refl, entry_at logarithms c.in-86.is refl)

pub returns-in-87 : goal.returns-in-87
unfolding reciprocals logarithms
returns-in-87 c = (entry_at reciprocals c.in-87.is refl, entry_at logarithms c.in-87.is refl)

pub returns-in-88 : goal.returns-in-88
unfolding reciprocals logarithms
returns-in-88 c = (entry_at reciprocals c.in-88.is refl, entry_at logarithms c.in-88.is refl)

pub returns-in-89 : goal.returns-in-89
unfolding reciprocals logarithms
returns-in-89 c = (entry_at reciprocals c.in-89.is refl, entry_at logarithms c.in-89.is refl)

pub returns-in-90 : goal.returns-in-90
unfolding reciprocals logarithms
returns-in-90 c = (entry_at reciprocals c.in-90.is refl, entry_at logarithms c.in-90.is refl)

pub returns-in-91 : goal.returns-in-91
unfolding reciprocals logarithms
returns-in-91 c = (entry_at reciprocals c.in-91.is refl, entry_at logarithms c.in-91.is refl)

pub returns-in-92 : goal.returns-in-92
unfolding reciprocals logarithms
returns-in-92 c = (entry_at reciprocals c.in-92.is refl, entry_at logarithms c.in-92.is refl)

pub returns-in-93 : goal.returns-in-93
unfolding reciprocals logarithms
returns-in-93 c = (entry_at reciprocals c.in-93.is refl, entry_at logarithms c.in-93.is refl)

pub returns-in-94 : goal.returns-in-94
unfolding reciprocals logarithms
returns-in-94 c = (entry_at reciprocals c.in-94.is refl, entry_at logarithms c.in-94.is refl)

pub returns-in-95 : goal.returns-in-95
unfolding reciprocals logarithms
returns-in-95 c = (entry_at reciprocals c.in-95.is refl, entry_at logarithms c.in-95.is refl)

pub returns-in-96 : goal.returns-in-96
unfolding reciprocals logarithms
returns-in-96 c = (entry_at reciprocals c.in-96.is refl, entry_at logarithms c.in-96.is refl)

pub returns-in-97 : goal.returns-in-97
unfolding reciprocals logarithms
returns-in-97 c = (entry_at reciprocals c.in-97.is refl, entry_at logarithms c.in-97.is refl)

pub returns-in-98 : goal.returns-in-98
unfolding reciprocals logarithms
returns-in-98 c = (entry_at reciprocals c.in-98.is refl, entry_at logarithms c.in-98.is refl)

pub returns-in-99 : goal.returns-in-99
unfolding reciprocals logarithms
returns-in-99 c = (entry_at reciprocals c.in-99.is refl, entry_at logarithms c.in-99.is refl)

pub returns-in-100 : goal.returns-in-100
unfolding reciprocals logarithms
returns-in-100 c = (entry_at reciprocals c.in-100.is refl, entry_at logarithms c.in-100.is refl)

pub returns-in-101 : goal.returns-in-101
unfolding reciprocals logarithms
returns-in-101 c = (entry_at reciprocals c.in-101.is refl, entry_at logarithms c.in-101.is refl)

pub returns-in-102 : goal.returns-in-102
unfolding reciprocals logarithms
returns-in-102 c = (entry_at reciprocals c.in-102.is refl, entry_at logarithms c.in-102.is refl)

pub returns-in-103 : goal.returns-in-103
unfolding reciprocals logarithms
returns-in-103 c = (entry_at reciprocals c.in-103.is refl, entry_at logarithms c.in-103.is refl)

pub returns-in-104 : goal.returns-in-104
unfolding reciprocals logarithms
returns-in-104 c = (entry_at reciprocals c.in-104.is refl, entry_at logarithms c.in-104.is refl)

pub returns-in-105 : goal.returns-in-105
unfolding reciprocals logarithms
returns-in-105 c = (entry_at reciprocals c.in-105.is refl, entry_at logarithms c.in-105.is refl)

pub returns-in-106 : goal.returns-in-106
unfolding reciprocals logarithms
returns-in-106 c = (entry_at reciprocals c.in-106.is refl, entry_at logarithms c.in-106.is refl)

pub returns-in-107 : goal.returns-in-107
unfolding reciprocals logarithms
returns-in-107 c = (entry_at reciprocals c.in-107.is refl, entry_at logarithms c.in-107.is refl)

pub returns-in-108 : goal.returns-in-108
unfolding reciprocals logarithms
returns-in-108 c = (entry_at reciprocals c.in-108.is refl, entry_at logarithms c.in-108.is refl)

pub returns-in-109 : goal.returns-in-109
unfolding reciprocals logarithms
returns-in-109 c = (entry_at reciprocals c.in-109.is refl, entry_at logarithms c.in-109.is refl)

pub returns-in-110 : goal.returns-in-110
unfolding reciprocals logarithms
returns-in-110 c = (entry_at reciprocals c.in-110.is refl, entry_at logarithms c.in-110.is refl)

pub returns-in-111 : goal.returns-in-111
unfolding reciprocals logarithms
returns-in-111 c = (entry_at reciprocals c.in-111.is refl, entry_at logarithms c.in-111.is refl)

pub returns-in-112 : goal.returns-in-112
unfolding reciprocals logarithms
returns-in-112 c = (entry_at reciprocals c.in-112.is refl, entry_at logarithms c.in-112.is refl)

pub returns-in-113 : goal.returns-in-113
unfolding reciprocals logarithms
returns-in-113 c = (entry_at reciprocals c.in-113.is refl, entry_at logarithms c.in-113.is refl)

pub returns-in-114 : goal.returns-in-114
unfolding reciprocals logarithms
returns-in-114 c = (entry_at reciprocals c.in-114.is refl, entry_at logarithms c.in-114.is refl)

pub returns-in-115 : goal.returns-in-115
unfolding reciprocals logarithms
returns-in-115 c = (entry_at reciprocals c.in-115.is refl, entry_at logarithms c.in-115.is refl)

pub returns-in-116 : goal.returns-in-116
unfolding reciprocals logarithms
returns-in-116 c = (entry_at reciprocals c.in-116.is refl, entry_at logarithms c.in-116.is refl)

pub returns-in-117 : goal.returns-in-117
unfolding reciprocals logarithms
returns-in-117 c = (entry_at reciprocals c.in-117.is refl, entry_at logarithms c.in-117.is refl)

pub returns-in-118 : goal.returns-in-118
unfolding reciprocals logarithms
returns-in-118 c = (entry_at reciprocals c.in-118.is refl, entry_at logarithms c.in-118.is refl)

pub returns-in-119 : goal.returns-in-119
unfolding reciprocals logarithms
returns-in-119 c = (entry_at reciprocals c.in-119.is refl, entry_at logarithms c.in-119.is refl)

pub returns-in-120 : goal.returns-in-120
unfolding reciprocals logarithms
returns-in-120 c = (entry_at reciprocals c.in-120.is refl, entry_at logarithms c.in-120.is refl)

pub returns-in-121 : goal.returns-in-121
unfolding reciprocals logarithms
returns-in-121 c = (entry_at reciprocals c.in-121.is refl, entry_at logarithms c.in-121.is refl)

pub returns-in-122 : goal.returns-in-122
unfolding reciprocals logarithms
returns-in-122 c = (entry_at reciprocals c.in-122.is refl, entry_at logarithms c.in-122.is refl)

pub returns-in-123 : goal.returns-in-123
unfolding reciprocals logarithms
returns-in-123 c = (entry_at reciprocals c.in-123.is refl, entry_at logarithms c.in-123.is refl)

pub returns-in-124 : goal.returns-in-124
unfolding reciprocals logarithms
returns-in-124 c = (entry_at reciprocals c.in-124.is refl, entry_at logarithms c.in-124.is refl)

pub returns-in-125 : goal.returns-in-125
unfolding reciprocals logarithms
returns-in-125 c = (entry_at reciprocals c.in-125.is refl, entry_at logarithms c.in-125.is refl)

pub returns-in-126 : goal.returns-in-126
unfolding reciprocals logarithms
returns-in-126 c = (entry_at reciprocals c.in-126.is refl, entry_at logarithms c.in-126.is refl)

pub returns-in-127 : goal.returns-in-127
unfolding reciprocals logarithms
returns-in-127 c = (entry_at reciprocals c.in-127.is refl, entry_at logarithms c.in-127.is refl)

-- past the last key: no index is left
pub returns-in_default : goal.returns-in_default
returns-in_default c = omega (arith, rest_above 128 c.args.i c.in_default.in_default-own.rest)
