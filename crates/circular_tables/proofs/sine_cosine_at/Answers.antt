-- `circular_tables::sine_cosine_at` meets its contract. Made by scripts/elementary/generate.py. Assumes nothing.
use mathlib.Core.Path.{refl}
use native.Mathlib.Omega.{arith}
use Rattle.circular_tables.specs.Tables.{sines, cosines}
use Rattle.fixed_point.proofs.Arms.{entry_at, rest_above}
use Rattle.circular_tables.proofs.sine_cosine_at.Goals as goal

pub returns-in-0 : goal.returns-in-0
unfolding sines cosines
returns-in-0 c = (entry_at sines c.in-0.is refl, entry_at cosines c.in-0.is refl)

pub returns-in-1 : goal.returns-in-1
unfolding sines cosines
returns-in-1 c = (entry_at sines c.in-1.is refl, entry_at cosines c.in-1.is refl)

pub returns-in-2 : goal.returns-in-2
unfolding sines cosines
returns-in-2 c = (entry_at sines c.in-2.is refl, entry_at cosines c.in-2.is refl)

pub returns-in-3 : goal.returns-in-3
unfolding sines cosines
returns-in-3 c = (entry_at sines c.in-3.is refl, entry_at cosines c.in-3.is refl)

pub returns-in-4 : goal.returns-in-4
unfolding sines cosines
returns-in-4 c = (entry_at sines c.in-4.is refl, entry_at cosines c.in-4.is refl)

pub returns-in-5 : goal.returns-in-5
unfolding sines cosines
returns-in-5 c = (entry_at sines c.in-5.is refl, entry_at cosines c.in-5.is refl)

pub returns-in-6 : goal.returns-in-6
unfolding sines cosines
returns-in-6 c = (entry_at sines c.in-6.is refl, entry_at cosines c.in-6.is refl)

pub returns-in-7 : goal.returns-in-7
unfolding sines cosines
returns-in-7 c = (entry_at sines c.in-7.is refl, entry_at cosines c.in-7.is refl)

pub returns-in-8 : goal.returns-in-8
unfolding sines cosines
returns-in-8 c = (entry_at sines c.in-8.is refl, entry_at cosines c.in-8.is refl)

pub returns-in-9 : goal.returns-in-9
unfolding sines cosines
returns-in-9 c = (entry_at sines c.in-9.is refl, entry_at cosines c.in-9.is refl)

pub returns-in-10 : goal.returns-in-10
unfolding sines cosines
returns-in-10 c = (entry_at sines c.in-10.is refl, entry_at cosines c.in-10.is refl)

pub returns-in-11 : goal.returns-in-11
unfolding sines cosines
returns-in-11 c = (entry_at sines c.in-11.is refl, entry_at cosines c.in-11.is refl)

pub returns-in-12 : goal.returns-in-12
unfolding sines cosines
returns-in-12 c = (entry_at sines c.in-12.is refl, entry_at cosines c.in-12.is refl)

pub returns-in-13 : goal.returns-in-13
unfolding sines cosines
returns-in-13 c = (entry_at sines c.in-13.is refl, entry_at cosines c.in-13.is refl)

pub returns-in-14 : goal.returns-in-14
unfolding sines cosines
returns-in-14 c = (entry_at sines c.in-14.is refl, entry_at cosines c.in-14.is refl)

pub returns-in-15 : goal.returns-in-15
unfolding sines cosines
returns-in-15 c = (entry_at sines c.in-15.is refl, entry_at cosines c.in-15.is refl)

pub returns-in-16 : goal.returns-in-16
unfolding sines cosines
returns-in-16 c = (entry_at sines c.in-16.is refl, entry_at cosines c.in-16.is refl)

pub returns-in-17 : goal.returns-in-17
unfolding sines cosines
returns-in-17 c = (entry_at sines c.in-17.is refl, entry_at cosines c.in-17.is refl)

pub returns-in-18 : goal.returns-in-18
unfolding sines cosines
returns-in-18 c = (entry_at sines c.in-18.is refl, entry_at cosines c.in-18.is refl)

pub returns-in-19 : goal.returns-in-19
unfolding sines cosines
returns-in-19 c = (entry_at sines c.in-19.is refl, entry_at cosines c.in-19.is refl)

pub returns-in-20 : goal.returns-in-20
unfolding sines cosines
returns-in-20 c = (entry_at sines c.in-20.is refl, entry_at cosines c.in-20.is refl)

pub returns-in-21 : goal.returns-in-21
unfolding sines cosines
returns-in-21 c = (entry_at sines c.in-21.is refl, entry_at cosines c.in-21.is refl)

pub returns-in-22 : goal.returns-in-22
unfolding sines cosines
returns-in-22 c = (entry_at sines c.in-22.is refl, entry_at cosines c.in-22.is refl)

pub returns-in-23 : goal.returns-in-23
unfolding sines cosines
returns-in-23 c = (entry_at sines c.in-23.is refl, entry_at cosines c.in-23.is refl)

pub returns-in-24 : goal.returns-in-24
unfolding sines cosines
returns-in-24 c = (entry_at sines c.in-24.is refl, entry_at cosines c.in-24.is refl)

pub returns-in-25 : goal.returns-in-25
unfolding sines cosines
returns-in-25 c = (entry_at sines c.in-25.is refl, entry_at cosines c.in-25.is refl)

pub returns-in-26 : goal.returns-in-26
unfolding sines cosines
returns-in-26 c = (entry_at sines c.in-26.is refl, entry_at cosines c.in-26.is refl)

pub returns-in-27 : goal.returns-in-27
unfolding sines cosines
returns-in-27 c = (entry_at sines c.in-27.is refl, entry_at cosines c.in-27.is refl)

pub returns-in-28 : goal.returns-in-28
unfolding sines cosines
returns-in-28 c = (entry_at sines c.in-28.is refl, entry_at cosines c.in-28.is refl)

pub returns-in-29 : goal.returns-in-29
unfolding sines cosines
returns-in-29 c = (entry_at sines c.in-29.is refl, entry_at cosines c.in-29.is refl)

pub returns-in-30 : goal.returns-in-30
unfolding sines cosines
returns-in-30 c = (entry_at sines c.in-30.is refl, entry_at cosines c.in-30.is refl)

pub returns-in-31 : goal.returns-in-31
unfolding sines cosines
returns-in-31 c = (entry_at sines c.in-31.is refl, entry_at cosines c.in-31.is refl)

pub returns-in-32 : goal.returns-in-32
unfolding sines cosines
returns-in-32 c = (entry_at sines c.in-32.is refl, entry_at cosines c.in-32.is refl)

pub returns-in-33 : goal.returns-in-33
unfolding sines cosines
returns-in-33 c = (entry_at sines c.in-33.is refl, entry_at cosines c.in-33.is refl)

pub returns-in-34 : goal.returns-in-34
unfolding sines cosines
returns-in-34 c = (entry_at sines c.in-34.is refl, entry_at cosines c.in-34.is refl)

pub returns-in-35 : goal.returns-in-35
unfolding sines cosines
returns-in-35 c = (entry_at sines c.in-35.is refl, entry_at cosines c.in-35.is refl)

pub returns-in-36 : goal.returns-in-36
unfolding sines cosines
returns-in-36 c = (entry_at sines c.in-36.is refl, entry_at cosines c.in-36.is refl)

pub returns-in-37 : goal.returns-in-37
unfolding sines cosines
returns-in-37 c = (entry_at sines c.in-37.is refl, entry_at cosines c.in-37.is refl)

pub returns-in-38 : goal.returns-in-38
unfolding sines cosines
returns-in-38 c = (entry_at sines c.in-38.is refl, entry_at cosines c.in-38.is refl)

pub returns-in-39 : goal.returns-in-39
unfolding sines cosines
returns-in-39 c = (entry_at sines c.in-39.is refl, entry_at cosines c.in-39.is refl)

pub returns-in-40 : goal.returns-in-40
unfolding sines cosines
returns-in-40 c = (entry_at sines c.in-40.is refl, entry_at cosines c.in-40.is refl)

pub returns-in-41 : goal.returns-in-41
unfolding sines cosines
returns-in-41 c = (entry_at sines c.in-41.is refl, entry_at cosines c.in-41.is refl)

pub returns-in-42 : goal.returns-in-42
unfolding sines cosines
returns-in-42 c = (entry_at sines c.in-42.is refl, entry_at cosines c.in-42.is refl)

pub returns-in-43 : goal.returns-in-43
unfolding sines cosines
returns-in-43 c = (entry_at sines c.in-43.is refl, entry_at cosines c.in-43.is refl)

pub returns-in-44 : goal.returns-in-44
unfolding sines cosines
returns-in-44 c = (entry_at sines c.in-44.is refl, entry_at cosines c.in-44.is refl)

pub returns-in-45 : goal.returns-in-45
unfolding sines cosines
returns-in-45 c = (entry_at sines c.in-45.is refl, entry_at cosines c.in-45.is refl)

pub returns-in-46 : goal.returns-in-46
unfolding sines cosines
returns-in-46 c = (entry_at sines c.in-46.is refl, entry_at cosines c.in-46.is refl)

pub returns-in-47 : goal.returns-in-47
unfolding sines cosines
returns-in-47 c = (entry_at sines c.in-47.is refl, entry_at cosines c.in-47.is refl)

pub returns-in-48 : goal.returns-in-48
unfolding sines cosines
returns-in-48 c = (entry_at sines c.in-48.is refl, entry_at cosines c.in-48.is refl)

pub returns-in-49 : goal.returns-in-49
unfolding sines cosines
returns-in-49 c = (entry_at sines c.in-49.is refl, entry_at cosines c.in-49.is refl)

pub returns-in-50 : goal.returns-in-50
unfolding sines cosines
returns-in-50 c = (entry_at sines c.in-50.is refl, entry_at cosines c.in-50.is refl)

pub returns-in-51 : goal.returns-in-51
unfolding sines cosines
returns-in-51 c = (entry_at sines c.in-51.is refl, entry_at cosines c.in-51.is refl)

pub returns-in-52 : goal.returns-in-52
unfolding sines cosines
returns-in-52 c = (entry_at sines c.in-52.is refl, entry_at cosines c.in-52.is refl)

pub returns-in-53 : goal.returns-in-53
unfolding sines cosines
returns-in-53 c = (entry_at sines c.in-53.is refl, entry_at cosines c.in-53.is refl)

pub returns-in-54 : goal.returns-in-54
unfolding sines cosines
returns-in-54 c = (entry_at sines c.in-54.is refl, entry_at cosines c.in-54.is refl)

pub returns-in-55 : goal.returns-in-55
unfolding sines cosines
returns-in-55 c = (entry_at sines c.in-55.is refl, entry_at cosines c.in-55.is refl)

pub returns-in-56 : goal.returns-in-56
unfolding sines cosines
returns-in-56 c = (entry_at sines c.in-56.is refl, entry_at cosines c.in-56.is refl)

pub returns-in-57 : goal.returns-in-57
unfolding sines cosines
returns-in-57 c = (entry_at sines c.in-57.is refl, entry_at cosines c.in-57.is refl)

pub returns-in-58 : goal.returns-in-58
unfolding sines cosines
returns-in-58 c = (entry_at sines c.in-58.is refl, entry_at cosines c.in-58.is refl)

pub returns-in-59 : goal.returns-in-59
unfolding sines cosines
returns-in-59 c = (entry_at sines c.in-59.is refl, entry_at cosines c.in-59.is refl)

pub returns-in-60 : goal.returns-in-60
unfolding sines cosines
returns-in-60 c = (entry_at sines c.in-60.is refl, entry_at cosines c.in-60.is refl)

pub returns-in-61 : goal.returns-in-61
unfolding sines cosines
returns-in-61 c = (entry_at sines c.in-61.is refl, entry_at cosines c.in-61.is refl)

pub returns-in-62 : goal.returns-in-62
unfolding sines cosines
returns-in-62 c = (entry_at sines c.in-62.is refl, entry_at cosines c.in-62.is refl)

pub returns-in-63 : goal.returns-in-63
unfolding sines cosines
returns-in-63 c = (entry_at sines c.in-63.is refl, entry_at cosines c.in-63.is refl)

pub returns-in-64 : goal.returns-in-64
unfolding sines cosines
returns-in-64 c = (entry_at sines c.in-64.is refl, entry_at cosines c.in-64.is refl)

pub returns-in-65 : goal.returns-in-65
unfolding sines cosines
returns-in-65 c = (entry_at sines c.in-65.is refl, entry_at cosines c.in-65.is refl)

pub returns-in-66 : goal.returns-in-66
unfolding sines cosines
returns-in-66 c = (entry_at sines c.in-66.is refl, entry_at cosines c.in-66.is refl)

pub returns-in-67 : goal.returns-in-67
unfolding sines cosines
returns-in-67 c = (entry_at sines c.in-67.is refl, entry_at cosines c.in-67.is refl)

pub returns-in-68 : goal.returns-in-68
unfolding sines cosines
returns-in-68 c = (entry_at sines c.in-68.is refl, entry_at cosines c.in-68.is refl)

pub returns-in-69 : goal.returns-in-69
unfolding sines cosines
returns-in-69 c = (entry_at sines c.in-69.is refl, entry_at cosines c.in-69.is refl)

pub returns-in-70 : goal.returns-in-70
unfolding sines cosines
returns-in-70 c = (entry_at sines c.in-70.is refl, entry_at cosines c.in-70.is refl)

pub returns-in-71 : goal.returns-in-71
unfolding sines cosines
returns-in-71 c = (entry_at sines c.in-71.is refl, entry_at cosines c.in-71.is refl)

pub returns-in-72 : goal.returns-in-72
unfolding sines cosines
returns-in-72 c = (entry_at sines c.in-72.is refl, entry_at cosines c.in-72.is refl)

pub returns-in-73 : goal.returns-in-73
unfolding sines cosines
returns-in-73 c = (entry_at sines c.in-73.is refl, entry_at cosines c.in-73.is refl)

pub returns-in-74 : goal.returns-in-74
unfolding sines cosines
returns-in-74 c = (entry_at sines c.in-74.is refl, entry_at cosines c.in-74.is refl)

pub returns-in-75 : goal.returns-in-75
unfolding sines cosines
returns-in-75 c = (entry_at sines c.in-75.is refl, entry_at cosines c.in-75.is refl)

pub returns-in-76 : goal.returns-in-76
unfolding sines cosines
returns-in-76 c = (entry_at sines c.in-76.is refl, entry_at cosines c.in-76.is refl)

pub returns-in-77 : goal.returns-in-77
unfolding sines cosines
returns-in-77 c = (entry_at sines c.in-77.is refl, entry_at cosines c.in-77.is refl)

pub returns-in-78 : goal.returns-in-78
unfolding sines cosines
returns-in-78 c = (entry_at sines c.in-78.is refl, entry_at cosines c.in-78.is refl)

pub returns-in-79 : goal.returns-in-79
unfolding sines cosines
returns-in-79 c = (entry_at sines c.in-79.is refl, entry_at cosines c.in-79.is refl)

pub returns-in-80 : goal.returns-in-80
unfolding sines cosines
returns-in-80 c = (entry_at sines c.in-80.is refl, entry_at cosines c.in-80.is refl)

pub returns-in-81 : goal.returns-in-81
unfolding sines cosines
returns-in-81 c = (entry_at sines c.in-81.is refl, entry_at cosines c.in-81.is refl)

pub returns-in-82 : goal.returns-in-82
unfolding sines cosines
returns-in-82 c = (entry_at sines c.in-82.is refl, entry_at cosines c.in-82.is refl)

pub returns-in-83 : goal.returns-in-83
unfolding sines cosines
returns-in-83 c = (entry_at sines c.in-83.is refl, entry_at cosines c.in-83.is refl)

pub returns-in-84 : goal.returns-in-84
unfolding sines cosines
returns-in-84 c = (entry_at sines c.in-84.is refl, entry_at cosines c.in-84.is refl)

pub returns-in-85 : goal.returns-in-85
unfolding sines cosines
returns-in-85 c = (entry_at sines c.in-85.is refl, entry_at cosines c.in-85.is refl)

pub returns-in-86 : goal.returns-in-86
unfolding sines cosines
returns-in-86 c = (entry_at sines c.in-86.is refl, entry_at cosines c.in-86.is refl)

pub returns-in-87 : goal.returns-in-87
unfolding sines cosines
returns-in-87 c = (entry_at sines c.in-87.is refl, entry_at cosines c.in-87.is refl)

pub returns-in-88 : goal.returns-in-88
unfolding sines cosines
returns-in-88 c = (entry_at sines c.in-88.is refl, entry_at cosines c.in-88.is refl)

pub returns-in-89 : goal.returns-in-89
unfolding sines cosines
returns-in-89 c = (entry_at sines c.in-89.is refl, entry_at cosines c.in-89.is refl)

pub returns-in-90 : goal.returns-in-90
unfolding sines cosines
returns-in-90 c = (entry_at sines c.in-90.is refl, entry_at cosines c.in-90.is refl)

pub returns-in-91 : goal.returns-in-91
unfolding sines cosines
returns-in-91 c = (entry_at sines c.in-91.is refl, entry_at cosines c.in-91.is refl)

pub returns-in-92 : goal.returns-in-92
unfolding sines cosines
returns-in-92 c = (entry_at sines c.in-92.is refl, entry_at cosines c.in-92.is refl)

pub returns-in-93 : goal.returns-in-93
unfolding sines cosines
returns-in-93 c = (entry_at sines c.in-93.is refl, entry_at cosines c.in-93.is refl)

pub returns-in-94 : goal.returns-in-94
unfolding sines cosines
returns-in-94 c = (entry_at sines c.in-94.is refl, entry_at cosines c.in-94.is refl)

pub returns-in-95 : goal.returns-in-95
unfolding sines cosines
returns-in-95 c = (entry_at sines c.in-95.is refl, entry_at cosines c.in-95.is refl)

pub returns-in-96 : goal.returns-in-96
unfolding sines cosines
returns-in-96 c = (entry_at sines c.in-96.is refl, entry_at cosines c.in-96.is refl)

pub returns-in-97 : goal.returns-in-97
unfolding sines cosines
returns-in-97 c = (entry_at sines c.in-97.is refl, entry_at cosines c.in-97.is refl)

pub returns-in-98 : goal.returns-in-98
unfolding sines cosines
returns-in-98 c = (entry_at sines c.in-98.is refl, entry_at cosines c.in-98.is refl)

pub returns-in-99 : goal.returns-in-99
unfolding sines cosines
returns-in-99 c = (entry_at sines c.in-99.is refl, entry_at cosines c.in-99.is refl)

pub returns-in-100 : goal.returns-in-100
unfolding sines cosines
returns-in-100 c = (entry_at sines c.in-100.is refl, entry_at cosines c.in-100.is refl)

pub returns-in-101 : goal.returns-in-101
unfolding sines cosines
returns-in-101 c = (entry_at sines c.in-101.is refl, entry_at cosines c.in-101.is refl)

pub returns-in-102 : goal.returns-in-102
unfolding sines cosines
returns-in-102 c = (entry_at sines c.in-102.is refl, entry_at cosines c.in-102.is refl)

pub returns-in-103 : goal.returns-in-103
unfolding sines cosines
returns-in-103 c = (entry_at sines c.in-103.is refl, entry_at cosines c.in-103.is refl)

pub returns-in-104 : goal.returns-in-104
unfolding sines cosines
returns-in-104 c = (entry_at sines c.in-104.is refl, entry_at cosines c.in-104.is refl)

pub returns-in-105 : goal.returns-in-105
unfolding sines cosines
returns-in-105 c = (entry_at sines c.in-105.is refl, entry_at cosines c.in-105.is refl)

pub returns-in-106 : goal.returns-in-106
unfolding sines cosines
returns-in-106 c = (entry_at sines c.in-106.is refl, entry_at cosines c.in-106.is refl)

pub returns-in-107 : goal.returns-in-107
unfolding sines cosines
returns-in-107 c = (entry_at sines c.in-107.is refl, entry_at cosines c.in-107.is refl)

pub returns-in-108 : goal.returns-in-108
unfolding sines cosines
returns-in-108 c = (entry_at sines c.in-108.is refl, entry_at cosines c.in-108.is refl)

pub returns-in-109 : goal.returns-in-109
unfolding sines cosines
returns-in-109 c = (entry_at sines c.in-109.is refl, entry_at cosines c.in-109.is refl)

pub returns-in-110 : goal.returns-in-110
unfolding sines cosines
returns-in-110 c = (entry_at sines c.in-110.is refl, entry_at cosines c.in-110.is refl)

pub returns-in-111 : goal.returns-in-111
unfolding sines cosines
returns-in-111 c = (entry_at sines c.in-111.is refl, entry_at cosines c.in-111.is refl)

pub returns-in-112 : goal.returns-in-112
unfolding sines cosines
returns-in-112 c = (entry_at sines c.in-112.is refl, entry_at cosines c.in-112.is refl)

pub returns-in-113 : goal.returns-in-113
unfolding sines cosines
returns-in-113 c = (entry_at sines c.in-113.is refl, entry_at cosines c.in-113.is refl)

pub returns-in-114 : goal.returns-in-114
unfolding sines cosines
returns-in-114 c = (entry_at sines c.in-114.is refl, entry_at cosines c.in-114.is refl)

pub returns-in-115 : goal.returns-in-115
unfolding sines cosines
returns-in-115 c = (entry_at sines c.in-115.is refl, entry_at cosines c.in-115.is refl)

pub returns-in-116 : goal.returns-in-116
unfolding sines cosines
returns-in-116 c = (entry_at sines c.in-116.is refl, entry_at cosines c.in-116.is refl)

pub returns-in-117 : goal.returns-in-117
unfolding sines cosines
returns-in-117 c = (entry_at sines c.in-117.is refl, entry_at cosines c.in-117.is refl)

pub returns-in-118 : goal.returns-in-118
unfolding sines cosines
returns-in-118 c = (entry_at sines c.in-118.is refl, entry_at cosines c.in-118.is refl)

pub returns-in-119 : goal.returns-in-119
unfolding sines cosines
returns-in-119 c = (entry_at sines c.in-119.is refl, entry_at cosines c.in-119.is refl)

pub returns-in-120 : goal.returns-in-120
unfolding sines cosines
returns-in-120 c = (entry_at sines c.in-120.is refl, entry_at cosines c.in-120.is refl)

pub returns-in-121 : goal.returns-in-121
unfolding sines cosines
returns-in-121 c = (entry_at sines c.in-121.is refl, entry_at cosines c.in-121.is refl)

pub returns-in-122 : goal.returns-in-122
unfolding sines cosines
returns-in-122 c = (entry_at sines c.in-122.is refl, entry_at cosines c.in-122.is refl)

pub returns-in-123 : goal.returns-in-123
unfolding sines cosines
returns-in-123 c = (entry_at sines c.in-123.is refl, entry_at cosines c.in-123.is refl)

pub returns-in-124 : goal.returns-in-124
unfolding sines cosines
returns-in-124 c = (entry_at sines c.in-124.is refl, entry_at cosines c.in-124.is refl)

pub returns-in-125 : goal.returns-in-125
unfolding sines cosines
returns-in-125 c = (entry_at sines c.in-125.is refl, entry_at cosines c.in-125.is refl)

pub returns-in-126 : goal.returns-in-126
unfolding sines cosines
returns-in-126 c = (entry_at sines c.in-126.is refl, entry_at cosines c.in-126.is refl)

pub returns-in-127 : goal.returns-in-127
unfolding sines cosines
returns-in-127 c = (entry_at sines c.in-127.is refl, entry_at cosines c.in-127.is refl)

pub returns-in-128 : goal.returns-in-128
unfolding sines cosines
returns-in-128 c = (entry_at sines c.in-128.is refl, entry_at cosines c.in-128.is refl)

pub returns-in-129 : goal.returns-in-129
unfolding sines cosines
returns-in-129 c = (entry_at sines c.in-129.is refl, entry_at cosines c.in-129.is refl)

pub returns-in-130 : goal.returns-in-130
unfolding sines cosines
returns-in-130 c = (entry_at sines c.in-130.is refl, entry_at cosines c.in-130.is refl)

pub returns-in-131 : goal.returns-in-131
unfolding sines cosines
returns-in-131 c = (entry_at sines c.in-131.is refl, entry_at cosines c.in-131.is refl)

pub returns-in-132 : goal.returns-in-132
unfolding sines cosines
returns-in-132 c = (entry_at sines c.in-132.is refl, entry_at cosines c.in-132.is refl)

pub returns-in-133 : goal.returns-in-133
unfolding sines cosines
returns-in-133 c = (entry_at sines c.in-133.is refl, entry_at cosines c.in-133.is refl)

pub returns-in-134 : goal.returns-in-134
unfolding sines cosines
returns-in-134 c = (entry_at sines c.in-134.is refl, entry_at cosines c.in-134.is refl)

pub returns-in-135 : goal.returns-in-135
unfolding sines cosines
returns-in-135 c = (entry_at sines c.in-135.is refl, entry_at cosines c.in-135.is refl)

pub returns-in-136 : goal.returns-in-136
unfolding sines cosines
returns-in-136 c = (entry_at sines c.in-136.is refl, entry_at cosines c.in-136.is refl)

pub returns-in-137 : goal.returns-in-137
unfolding sines cosines
returns-in-137 c = (entry_at sines c.in-137.is refl, entry_at cosines c.in-137.is refl)

pub returns-in-138 : goal.returns-in-138
unfolding sines cosines
returns-in-138 c = (entry_at sines c.in-138.is refl, entry_at cosines c.in-138.is refl)

pub returns-in-139 : goal.returns-in-139
unfolding sines cosines
returns-in-139 c = (entry_at sines c.in-139.is refl, entry_at cosines c.in-139.is refl)

pub returns-in-140 : goal.returns-in-140
unfolding sines cosines
returns-in-140 c = (entry_at sines c.in-140.is refl, entry_at cosines c.in-140.is refl)

pub returns-in-141 : goal.returns-in-141
unfolding sines cosines
returns-in-141 c = (entry_at sines c.in-141.is refl, entry_at cosines c.in-141.is refl)

pub returns-in-142 : goal.returns-in-142
unfolding sines cosines
returns-in-142 c = (entry_at sines c.in-142.is refl, entry_at cosines c.in-142.is refl)

pub returns-in-143 : goal.returns-in-143
unfolding sines cosines
returns-in-143 c = (entry_at sines c.in-143.is refl, entry_at cosines c.in-143.is refl)

pub returns-in-144 : goal.returns-in-144
unfolding sines cosines
returns-in-144 c = (entry_at sines c.in-144.is refl, entry_at cosines c.in-144.is refl)

pub returns-in-145 : goal.returns-in-145
unfolding sines cosines
returns-in-145 c = (entry_at sines c.in-145.is refl, entry_at cosines c.in-145.is refl)

pub returns-in-146 : goal.returns-in-146
unfolding sines cosines
returns-in-146 c = (entry_at sines c.in-146.is refl, entry_at cosines c.in-146.is refl)

pub returns-in-147 : goal.returns-in-147
unfolding sines cosines
returns-in-147 c = (entry_at sines c.in-147.is refl, entry_at cosines c.in-147.is refl)

pub returns-in-148 : goal.returns-in-148
unfolding sines cosines
returns-in-148 c = (entry_at sines c.in-148.is refl, entry_at cosines c.in-148.is refl)

pub returns-in-149 : goal.returns-in-149
unfolding sines cosines
returns-in-149 c = (entry_at sines c.in-149.is refl, entry_at cosines c.in-149.is refl)

pub returns-in-150 : goal.returns-in-150
unfolding sines cosines
returns-in-150 c = (entry_at sines c.in-150.is refl, entry_at cosines c.in-150.is refl)

pub returns-in-151 : goal.returns-in-151
unfolding sines cosines
returns-in-151 c = (entry_at sines c.in-151.is refl, entry_at cosines c.in-151.is refl)

pub returns-in-152 : goal.returns-in-152
unfolding sines cosines
returns-in-152 c = (entry_at sines c.in-152.is refl, entry_at cosines c.in-152.is refl)

pub returns-in-153 : goal.returns-in-153
unfolding sines cosines
returns-in-153 c = (entry_at sines c.in-153.is refl, entry_at cosines c.in-153.is refl)

pub returns-in-154 : goal.returns-in-154
unfolding sines cosines
returns-in-154 c = (entry_at sines c.in-154.is refl, entry_at cosines c.in-154.is refl)

pub returns-in-155 : goal.returns-in-155
unfolding sines cosines
returns-in-155 c = (entry_at sines c.in-155.is refl, entry_at cosines c.in-155.is refl)

pub returns-in-156 : goal.returns-in-156
unfolding sines cosines
returns-in-156 c = (entry_at sines c.in-156.is refl, entry_at cosines c.in-156.is refl)

pub returns-in-157 : goal.returns-in-157
unfolding sines cosines
returns-in-157 c = (entry_at sines c.in-157.is refl, entry_at cosines c.in-157.is refl)

pub returns-in-158 : goal.returns-in-158
unfolding sines cosines
returns-in-158 c = (entry_at sines c.in-158.is refl, entry_at cosines c.in-158.is refl)

pub returns-in-159 : goal.returns-in-159
unfolding sines cosines
returns-in-159 c = (entry_at sines c.in-159.is refl, entry_at cosines c.in-159.is refl)

pub returns-in-160 : goal.returns-in-160
unfolding sines cosines
returns-in-160 c = (entry_at sines c.in-160.is refl, entry_at cosines c.in-160.is refl)

pub returns-in-161 : goal.returns-in-161
unfolding sines cosines
returns-in-161 c = (entry_at sines c.in-161.is refl, entry_at cosines c.in-161.is refl)

pub returns-in-162 : goal.returns-in-162
unfolding sines cosines
returns-in-162 c = (entry_at sines c.in-162.is refl, entry_at cosines c.in-162.is refl)

pub returns-in-163 : goal.returns-in-163
unfolding sines cosines
returns-in-163 c = (entry_at sines c.in-163.is refl, entry_at cosines c.in-163.is refl)

pub returns-in-164 : goal.returns-in-164
unfolding sines cosines
returns-in-164 c = (entry_at sines c.in-164.is refl, entry_at cosines c.in-164.is refl)

pub returns-in-165 : goal.returns-in-165
unfolding sines cosines
returns-in-165 c = (entry_at sines c.in-165.is refl, entry_at cosines c.in-165.is refl)

pub returns-in-166 : goal.returns-in-166
unfolding sines cosines
returns-in-166 c = (entry_at sines c.in-166.is refl, entry_at cosines c.in-166.is refl)

pub returns-in-167 : goal.returns-in-167
unfolding sines cosines
returns-in-167 c = (entry_at sines c.in-167.is refl, entry_at cosines c.in-167.is refl)

pub returns-in-168 : goal.returns-in-168
unfolding sines cosines
returns-in-168 c = (entry_at sines c.in-168.is refl, entry_at cosines c.in-168.is refl)

pub returns-in-169 : goal.returns-in-169
unfolding sines cosines
returns-in-169 c = (entry_at sines c.in-169.is refl, entry_at cosines c.in-169.is refl)

pub returns-in-170 : goal.returns-in-170
unfolding sines cosines
returns-in-170 c = (entry_at sines c.in-170.is refl, entry_at cosines c.in-170.is refl)

pub returns-in-171 : goal.returns-in-171
unfolding sines cosines
returns-in-171 c = (entry_at sines c.in-171.is refl, entry_at cosines c.in-171.is refl)

pub returns-in-172 : goal.returns-in-172
unfolding sines cosines
returns-in-172 c = (entry_at sines c.in-172.is refl, entry_at cosines c.in-172.is refl)

pub returns-in-173 : goal.returns-in-173
unfolding sines cosines
returns-in-173 c = (entry_at sines c.in-173.is refl, entry_at cosines c.in-173.is refl)

pub returns-in-174 : goal.returns-in-174
unfolding sines cosines
returns-in-174 c = (entry_at sines c.in-174.is refl, entry_at cosines c.in-174.is refl)

pub returns-in-175 : goal.returns-in-175
unfolding sines cosines
returns-in-175 c = (entry_at sines c.in-175.is refl, entry_at cosines c.in-175.is refl)

pub returns-in-176 : goal.returns-in-176
unfolding sines cosines
returns-in-176 c = (entry_at sines c.in-176.is refl, entry_at cosines c.in-176.is refl)

pub returns-in-177 : goal.returns-in-177
unfolding sines cosines
returns-in-177 c = (entry_at sines c.in-177.is refl, entry_at cosines c.in-177.is refl)

pub returns-in-178 : goal.returns-in-178
unfolding sines cosines
returns-in-178 c = (entry_at sines c.in-178.is refl, entry_at cosines c.in-178.is refl)

pub returns-in-179 : goal.returns-in-179
unfolding sines cosines
returns-in-179 c = (entry_at sines c.in-179.is refl, entry_at cosines c.in-179.is refl)

pub returns-in-180 : goal.returns-in-180
unfolding sines cosines
returns-in-180 c = (entry_at sines c.in-180.is refl, entry_at cosines c.in-180.is refl)

pub returns-in-181 : goal.returns-in-181
unfolding sines cosines
returns-in-181 c = (entry_at sines c.in-181.is refl, entry_at cosines c.in-181.is refl)

pub returns-in-182 : goal.returns-in-182
unfolding sines cosines
returns-in-182 c = (entry_at sines c.in-182.is refl, entry_at cosines c.in-182.is refl)

pub returns-in-183 : goal.returns-in-183
unfolding sines cosines
returns-in-183 c = (entry_at sines c.in-183.is refl, entry_at cosines c.in-183.is refl)

pub returns-in-184 : goal.returns-in-184
unfolding sines cosines
returns-in-184 c = (entry_at sines c.in-184.is refl, entry_at cosines c.in-184.is refl)

pub returns-in-185 : goal.returns-in-185
unfolding sines cosines
returns-in-185 c = (entry_at sines c.in-185.is refl, entry_at cosines c.in-185.is refl)

pub returns-in-186 : goal.returns-in-186
unfolding sines cosines
returns-in-186 c = (entry_at sines c.in-186.is refl, entry_at cosines c.in-186.is refl)

pub returns-in-187 : goal.returns-in-187
unfolding sines cosines
returns-in-187 c = (entry_at sines c.in-187.is refl, entry_at cosines c.in-187.is refl)

pub returns-in-188 : goal.returns-in-188
unfolding sines cosines
returns-in-188 c = (entry_at sines c.in-188.is refl, entry_at cosines c.in-188.is refl)

pub returns-in-189 : goal.returns-in-189
unfolding sines cosines
returns-in-189 c = (entry_at sines c.in-189.is refl, entry_at cosines c.in-189.is refl)

pub returns-in-190 : goal.returns-in-190
unfolding sines cosines
returns-in-190 c = (entry_at sines c.in-190.is refl, entry_at cosines c.in-190.is refl)

pub returns-in-191 : goal.returns-in-191
unfolding sines cosines
returns-in-191 c = (entry_at sines c.in-191.is refl, entry_at cosines c.in-191.is refl)

pub returns-in-192 : goal.returns-in-192
unfolding sines cosines
returns-in-192 c = (entry_at sines c.in-192.is refl, entry_at cosines c.in-192.is refl)

pub returns-in-193 : goal.returns-in-193
unfolding sines cosines
returns-in-193 c = (entry_at sines c.in-193.is refl, entry_at cosines c.in-193.is refl)

pub returns-in-194 : goal.returns-in-194
unfolding sines cosines
returns-in-194 c = (entry_at sines c.in-194.is refl, entry_at cosines c.in-194.is refl)

pub returns-in-195 : goal.returns-in-195
unfolding sines cosines
returns-in-195 c = (entry_at sines c.in-195.is refl, entry_at cosines c.in-195.is refl)

pub returns-in-196 : goal.returns-in-196
unfolding sines cosines
returns-in-196 c = (entry_at sines c.in-196.is refl, entry_at cosines c.in-196.is refl)

pub returns-in-197 : goal.returns-in-197
unfolding sines cosines
returns-in-197 c = (entry_at sines c.in-197.is refl, entry_at cosines c.in-197.is refl)

pub returns-in-198 : goal.returns-in-198
unfolding sines cosines
returns-in-198 c = (entry_at sines c.in-198.is refl, entry_at cosines c.in-198.is refl)

pub returns-in-199 : goal.returns-in-199
unfolding sines cosines
returns-in-199 c = (entry_at sines c.in-199.is refl, entry_at cosines c.in-199.is refl)

pub returns-in-200 : goal.returns-in-200
unfolding sines cosines
returns-in-200 c = (entry_at sines c.in-200.is refl, entry_at cosines c.in-200.is refl)

pub returns-in-201 : goal.returns-in-201
unfolding sines cosines
returns-in-201 c = (entry_at sines c.in-201.is refl, entry_at cosines c.in-201.is refl)

pub returns-in-202 : goal.returns-in-202
unfolding sines cosines
returns-in-202 c = (entry_at sines c.in-202.is refl, entry_at cosines c.in-202.is refl)

pub returns-in-203 : goal.returns-in-203
unfolding sines cosines
returns-in-203 c = (entry_at sines c.in-203.is refl, entry_at cosines c.in-203.is refl)

pub returns-in-204 : goal.returns-in-204
unfolding sines cosines
returns-in-204 c = (entry_at sines c.in-204.is refl, entry_at cosines c.in-204.is refl)

pub returns-in-205 : goal.returns-in-205
unfolding sines cosines
returns-in-205 c = (entry_at sines c.in-205.is refl, entry_at cosines c.in-205.is refl)

pub returns-in-206 : goal.returns-in-206
unfolding sines cosines
returns-in-206 c = (entry_at sines c.in-206.is refl, entry_at cosines c.in-206.is refl)

pub returns-in-207 : goal.returns-in-207
unfolding sines cosines
returns-in-207 c = (entry_at sines c.in-207.is refl, entry_at cosines c.in-207.is refl)

pub returns-in-208 : goal.returns-in-208
unfolding sines cosines
returns-in-208 c = (entry_at sines c.in-208.is refl, entry_at cosines c.in-208.is refl)

pub returns-in-209 : goal.returns-in-209
unfolding sines cosines
returns-in-209 c = (entry_at sines c.in-209.is refl, entry_at cosines c.in-209.is refl)

pub returns-in-210 : goal.returns-in-210
unfolding sines cosines
returns-in-210 c = (entry_at sines c.in-210.is refl, entry_at cosines c.in-210.is refl)

pub returns-in-211 : goal.returns-in-211
unfolding sines cosines
returns-in-211 c = (entry_at sines c.in-211.is refl, entry_at cosines c.in-211.is refl)

pub returns-in-212 : goal.returns-in-212
unfolding sines cosines
returns-in-212 c = (entry_at sines c.in-212.is refl, entry_at cosines c.in-212.is refl)

pub returns-in-213 : goal.returns-in-213
unfolding sines cosines
returns-in-213 c = (entry_at sines c.in-213.is refl, entry_at cosines c.in-213.is refl)

pub returns-in-214 : goal.returns-in-214
unfolding sines cosines
returns-in-214 c = (entry_at sines c.in-214.is refl, entry_at cosines c.in-214.is refl)

pub returns-in-215 : goal.returns-in-215
unfolding sines cosines
returns-in-215 c = (entry_at sines c.in-215.is refl, entry_at cosines c.in-215.is refl)

pub returns-in-216 : goal.returns-in-216
unfolding sines cosines
returns-in-216 c = (entry_at sines c.in-216.is refl, entry_at cosines c.in-216.is refl)

pub returns-in-217 : goal.returns-in-217
unfolding sines cosines
returns-in-217 c = (entry_at sines c.in-217.is refl, entry_at cosines c.in-217.is refl)

pub returns-in-218 : goal.returns-in-218
unfolding sines cosines
returns-in-218 c = (entry_at sines c.in-218.is refl, entry_at cosines c.in-218.is refl)

pub returns-in-219 : goal.returns-in-219
unfolding sines cosines
returns-in-219 c = (entry_at sines c.in-219.is refl, entry_at cosines c.in-219.is refl)

pub returns-in-220 : goal.returns-in-220
unfolding sines cosines
returns-in-220 c = (entry_at sines c.in-220.is refl, entry_at cosines c.in-220.is refl)

pub returns-in-221 : goal.returns-in-221
unfolding sines cosines
returns-in-221 c = (entry_at sines c.in-221.is refl, entry_at cosines c.in-221.is refl)

pub returns-in-222 : goal.returns-in-222
unfolding sines cosines
returns-in-222 c = (entry_at sines c.in-222.is refl, entry_at cosines c.in-222.is refl)

pub returns-in-223 : goal.returns-in-223
unfolding sines cosines
returns-in-223 c = (entry_at sines c.in-223.is refl, entry_at cosines c.in-223.is refl)

pub returns-in-224 : goal.returns-in-224
unfolding sines cosines
returns-in-224 c = (entry_at sines c.in-224.is refl, entry_at cosines c.in-224.is refl)

pub returns-in-225 : goal.returns-in-225
unfolding sines cosines
returns-in-225 c = (entry_at sines c.in-225.is refl, entry_at cosines c.in-225.is refl)

pub returns-in-226 : goal.returns-in-226
unfolding sines cosines
returns-in-226 c = (entry_at sines c.in-226.is refl, entry_at cosines c.in-226.is refl)

pub returns-in-227 : goal.returns-in-227
unfolding sines cosines
returns-in-227 c = (entry_at sines c.in-227.is refl, entry_at cosines c.in-227.is refl)

pub returns-in-228 : goal.returns-in-228
unfolding sines cosines
returns-in-228 c = (entry_at sines c.in-228.is refl, entry_at cosines c.in-228.is refl)

pub returns-in-229 : goal.returns-in-229
unfolding sines cosines
returns-in-229 c = (entry_at sines c.in-229.is refl, entry_at cosines c.in-229.is refl)

pub returns-in-230 : goal.returns-in-230
unfolding sines cosines
returns-in-230 c = (entry_at sines c.in-230.is refl, entry_at cosines c.in-230.is refl)

pub returns-in-231 : goal.returns-in-231
unfolding sines cosines
returns-in-231 c = (entry_at sines c.in-231.is refl, entry_at cosines c.in-231.is refl)

pub returns-in-232 : goal.returns-in-232
unfolding sines cosines
returns-in-232 c = (entry_at sines c.in-232.is refl, entry_at cosines c.in-232.is refl)

pub returns-in-233 : goal.returns-in-233
unfolding sines cosines
returns-in-233 c = (entry_at sines c.in-233.is refl, entry_at cosines c.in-233.is refl)

pub returns-in-234 : goal.returns-in-234
unfolding sines cosines
returns-in-234 c = (entry_at sines c.in-234.is refl, entry_at cosines c.in-234.is refl)

pub returns-in-235 : goal.returns-in-235
unfolding sines cosines
returns-in-235 c = (entry_at sines c.in-235.is refl, entry_at cosines c.in-235.is refl)

pub returns-in-236 : goal.returns-in-236
unfolding sines cosines
returns-in-236 c = (entry_at sines c.in-236.is refl, entry_at cosines c.in-236.is refl)

pub returns-in-237 : goal.returns-in-237
unfolding sines cosines
returns-in-237 c = (entry_at sines c.in-237.is refl, entry_at cosines c.in-237.is refl)

pub returns-in-238 : goal.returns-in-238
unfolding sines cosines
returns-in-238 c = (entry_at sines c.in-238.is refl, entry_at cosines c.in-238.is refl)

pub returns-in-239 : goal.returns-in-239
unfolding sines cosines
returns-in-239 c = (entry_at sines c.in-239.is refl, entry_at cosines c.in-239.is refl)

pub returns-in-240 : goal.returns-in-240
unfolding sines cosines
returns-in-240 c = (entry_at sines c.in-240.is refl, entry_at cosines c.in-240.is refl)

pub returns-in-241 : goal.returns-in-241
unfolding sines cosines
returns-in-241 c = (entry_at sines c.in-241.is refl, entry_at cosines c.in-241.is refl)

pub returns-in-242 : goal.returns-in-242
unfolding sines cosines
returns-in-242 c = (entry_at sines c.in-242.is refl, entry_at cosines c.in-242.is refl)

pub returns-in-243 : goal.returns-in-243
unfolding sines cosines
returns-in-243 c = (entry_at sines c.in-243.is refl, entry_at cosines c.in-243.is refl)

pub returns-in-244 : goal.returns-in-244
unfolding sines cosines
returns-in-244 c = (entry_at sines c.in-244.is refl, entry_at cosines c.in-244.is refl)

pub returns-in-245 : goal.returns-in-245
unfolding sines cosines
returns-in-245 c = (entry_at sines c.in-245.is refl, entry_at cosines c.in-245.is refl)

pub returns-in-246 : goal.returns-in-246
unfolding sines cosines
returns-in-246 c = (entry_at sines c.in-246.is refl, entry_at cosines c.in-246.is refl)

pub returns-in-247 : goal.returns-in-247
unfolding sines cosines
returns-in-247 c = (entry_at sines c.in-247.is refl, entry_at cosines c.in-247.is refl)

pub returns-in-248 : goal.returns-in-248
unfolding sines cosines
returns-in-248 c = (entry_at sines c.in-248.is refl, entry_at cosines c.in-248.is refl)

pub returns-in-249 : goal.returns-in-249
unfolding sines cosines
returns-in-249 c = (entry_at sines c.in-249.is refl, entry_at cosines c.in-249.is refl)

pub returns-in-250 : goal.returns-in-250
unfolding sines cosines
returns-in-250 c = (entry_at sines c.in-250.is refl, entry_at cosines c.in-250.is refl)

pub returns-in-251 : goal.returns-in-251
unfolding sines cosines
returns-in-251 c = (entry_at sines c.in-251.is refl, entry_at cosines c.in-251.is refl)

pub returns-in-252 : goal.returns-in-252
unfolding sines cosines
returns-in-252 c = (entry_at sines c.in-252.is refl, entry_at cosines c.in-252.is refl)

pub returns-in-253 : goal.returns-in-253
unfolding sines cosines
returns-in-253 c = (entry_at sines c.in-253.is refl, entry_at cosines c.in-253.is refl)

pub returns-in-254 : goal.returns-in-254
unfolding sines cosines
returns-in-254 c = (entry_at sines c.in-254.is refl, entry_at cosines c.in-254.is refl)

pub returns-in-255 : goal.returns-in-255
unfolding sines cosines
returns-in-255 c = (entry_at sines c.in-255.is refl, entry_at cosines c.in-255.is refl)

pub returns-in-256 : goal.returns-in-256
unfolding sines cosines
returns-in-256 c = (entry_at sines c.in-256.is refl, entry_at cosines c.in-256.is refl)

-- past the last key: no index is left
pub returns-in_default : goal.returns-in_default
returns-in_default c = omega (arith, rest_above 257 c.args.i c.in_default.in_default-own.rest)
