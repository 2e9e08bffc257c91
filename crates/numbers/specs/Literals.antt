-- The literals of the model: 0·5 is the f64 that Rust reads from 0.5, and its lemma gives the decimal. Made by scripts/literals.py.
use Rattle.std.specs.Prelude.{ℕ, ◌*◌, ◌^◌, ◌≡◌, refl, false, Float}
use Rattle.std.specs.Float.{binary64}
use Rattle.std.specs.Float.Ieee.{of_bits, round}

-- n / 10 ^ k, rounded once
unfoldable pub dec : ℕ → ℕ → Float
dec n k = round binary64 false n (10 ^ k)

-- n * 10 ^ k, rounded once
unfoldable pub dec⁺ : ℕ → ℕ → Float
dec⁺ n k = round binary64 false (n * 10 ^ k) 1

abbrev pub 0·0 : Float
0·0 = of_bits binary64 0x0000000000000000

pub is-0·0 : 0·0 ≡ dec 0 0
unfolding of_bits dec round
is-0·0 = refl

abbrev pub 1·66E-24 : Float
1·66E-24 = of_bits binary64 0x3b000df5ff8957af

pub is-1·66E-24 : 1·66E-24 ≡ dec 166 26
unfolding of_bits dec round
is-1·66E-24 = refl

abbrev pub 2·27E-9 : Float
2·27E-9 = of_bits binary64 0x3e237fc864eea430

pub is-2·27E-9 : 2·27E-9 ≡ dec 227 11
unfolding of_bits dec round
is-2·27E-9 = refl

abbrev pub 3·085462E-6 : Float
3·085462E-6 = of_bits binary64 0x3ec9e1faac4bba03

pub is-3·085462E-6 : 3·085462E-6 ≡ dec 3085462 12
unfolding of_bits dec round
is-3·085462E-6 = refl

abbrev pub 1·0E-5 : Float
1·0E-5 = of_bits binary64 0x3ee4f8b588e368f1

pub is-1·0E-5 : 1·0E-5 ≡ dec 1 5
unfolding of_bits dec round
is-1·0E-5 = refl

abbrev pub 7·2722E-5 : Float
7·2722E-5 = of_bits binary64 0x3f13104a726168c8

pub is-7·2722E-5 : 7·2722E-5 ≡ dec 72722 9
unfolding of_bits dec round
is-7·2722E-5 = refl

abbrev pub 1·0E-4 : Float
1·0E-4 = of_bits binary64 0x3f1a36e2eb1c432d

pub is-1·0E-4 : 1·0E-4 ≡ dec 1 4
unfolding of_bits dec round
is-1·0E-4 = refl

abbrev pub 0·0026373 : Float
0·0026373 = of_bits binary64 0x3f659ad1a7fde06b

pub is-0·0026373 : 0·0026373 ≡ dec 26373 7
unfolding of_bits dec round
is-0·0026373 = refl

abbrev pub 1·72142E-2 : Float
1·72142E-2 = of_bits binary64 0x3f91a099681b724c

pub is-1·72142E-2 : 1·72142E-2 ≡ dec 172142 7
unfolding of_bits dec round
is-1·72142E-2 = refl

abbrev pub 1·74533E-2 : Float
1·74533E-2 = of_bits binary64 0x3f91df4722d4405f

pub is-1·74533E-2 : 1·74533E-2 ≡ dec 174533 7
unfolding of_bits dec round
is-1·74533E-2 = refl

abbrev pub 0·17 : Float
0·17 = of_bits binary64 0x3fc5c28f5c28f5c3

pub is-0·17 : 0·17 ≡ dec 17 2
unfolding of_bits dec round
is-0·17 = refl

abbrev pub 0·2618 : Float
0·2618 = of_bits binary64 0x3fd0c154c985f06f

pub is-0·2618 : 0·2618 ≡ dec 2618 4
unfolding of_bits dec round
is-0·2618 = refl

abbrev pub 0·38 : Float
0·38 = of_bits binary64 0x3fd851eb851eb852

pub is-0·38 : 0·38 ≡ dec 38 2
unfolding of_bits dec round
is-0·38 = refl

abbrev pub 0·5 : Float
0·5 = of_bits binary64 0x3fe0000000000000

pub is-0·5 : 0·5 ≡ dec 5 1
unfolding of_bits dec round
is-0·5 = refl

abbrev pub 0·99999 : Float
0·99999 = of_bits binary64 0x3fefffeb074a771d

pub is-0·99999 : 0·99999 ≡ dec 99999 5
unfolding of_bits dec round
is-0·99999 = refl

abbrev pub 1·0 : Float
1·0 = of_bits binary64 0x3ff0000000000000

pub is-1·0 : 1·0 ≡ dec 1 0
unfolding of_bits dec round
is-1·0 = refl

abbrev pub 1·5 : Float
1·5 = of_bits binary64 0x3ff8000000000000

pub is-1·5 : 1·5 ≡ dec 15 1
unfolding of_bits dec round
is-1·5 = refl

abbrev pub 1·875 : Float
1·875 = of_bits binary64 0x3ffe000000000000

pub is-1·875 : 1·875 ≡ dec 1875 3
unfolding of_bits dec round
is-1·875 = refl

abbrev pub 2·0 : Float
2·0 = of_bits binary64 0x4000000000000000

pub is-2·0 : 2·0 ≡ dec 2 0
unfolding of_bits dec round
is-2·0 = refl

abbrev pub 2·5 : Float
2·5 = of_bits binary64 0x4004000000000000

pub is-2·5 : 2·5 ≡ dec 25 1
unfolding of_bits dec round
is-2·5 = refl

abbrev pub 3·0 : Float
3·0 = of_bits binary64 0x4008000000000000

pub is-3·0 : 3·0 ≡ dec 3 0
unfolding of_bits dec round
is-3·0 = refl

abbrev pub 4·0 : Float
4·0 = of_bits binary64 0x4010000000000000

pub is-4·0 : 4·0 ≡ dec 4 0
unfolding of_bits dec round
is-4·0 = refl

abbrev pub 5·0 : Float
5·0 = of_bits binary64 0x4014000000000000

pub is-5·0 : 5·0 ≡ dec 5 0
unfolding of_bits dec round
is-5·0 = refl

abbrev pub 6·0 : Float
6·0 = of_bits binary64 0x4018000000000000

pub is-6·0 : 6·0 ≡ dec 6 0
unfolding of_bits dec round
is-6·0 = refl

abbrev pub 7·0 : Float
7·0 = of_bits binary64 0x401c000000000000

pub is-7·0 : 7·0 ≡ dec 7 0
unfolding of_bits dec round
is-7·0 = refl

abbrev pub 7·5 : Float
7·5 = of_bits binary64 0x401e000000000000

pub is-7·5 : 7·5 ≡ dec 75 1
unfolding of_bits dec round
is-7·5 = refl

abbrev pub 8·0 : Float
8·0 = of_bits binary64 0x4020000000000000

pub is-8·0 : 8·0 ≡ dec 8 0
unfolding of_bits dec round
is-8·0 = refl

abbrev pub 9·0 : Float
9·0 = of_bits binary64 0x4022000000000000

pub is-9·0 : 9·0 ≡ dec 9 0
unfolding of_bits dec round
is-9·0 = refl

abbrev pub 10·0 : Float
10·0 = of_bits binary64 0x4024000000000000

pub is-10·0 : 10·0 ≡ dec 10 0
unfolding of_bits dec round
is-10·0 = refl

abbrev pub 11·0 : Float
11·0 = of_bits binary64 0x4026000000000000

pub is-11·0 : 11·0 ≡ dec 11 0
unfolding of_bits dec round
is-11·0 = refl

abbrev pub 12·0 : Float
12·0 = of_bits binary64 0x4028000000000000

pub is-12·0 : 12·0 ≡ dec 12 0
unfolding of_bits dec round
is-12·0 = refl

abbrev pub 13·0 : Float
13·0 = of_bits binary64 0x402a000000000000

pub is-13·0 : 13·0 ≡ dec 13 0
unfolding of_bits dec round
is-13·0 = refl

abbrev pub 14·0 : Float
14·0 = of_bits binary64 0x402c000000000000

pub is-14·0 : 14·0 ≡ dec 14 0
unfolding of_bits dec round
is-14·0 = refl

abbrev pub 15·0 : Float
15·0 = of_bits binary64 0x402e000000000000

pub is-15·0 : 15·0 ≡ dec 15 0
unfolding of_bits dec round
is-15·0 = refl

abbrev pub 16·0 : Float
16·0 = of_bits binary64 0x4030000000000000

pub is-16·0 : 16·0 ≡ dec 16 0
unfolding of_bits dec round
is-16·0 = refl

abbrev pub 19·0 : Float
19·0 = of_bits binary64 0x4033000000000000

pub is-19·0 : 19·0 ≡ dec 19 0
unfolding of_bits dec round
is-19·0 = refl

abbrev pub 20·0 : Float
20·0 = of_bits binary64 0x4034000000000000

pub is-20·0 : 20·0 ≡ dec 20 0
unfolding of_bits dec round
is-20·0 = refl

abbrev pub 21·0 : Float
21·0 = of_bits binary64 0x4035000000000000

pub is-21·0 : 21·0 ≡ dec 21 0
unfolding of_bits dec round
is-21·0 = refl

abbrev pub 24·0 : Float
24·0 = of_bits binary64 0x4038000000000000

pub is-24·0 : 24·0 ≡ dec 24 0
unfolding of_bits dec round
is-24·0 = refl

abbrev pub 28·0 : Float
28·0 = of_bits binary64 0x403c000000000000

pub is-28·0 : 28·0 ≡ dec 28 0
unfolding of_bits dec round
is-28·0 = refl

abbrev pub 28·95 : Float
28·95 = of_bits binary64 0x403cf33333333333

pub is-28·95 : 28·95 ≡ dec 2895 2
unfolding of_bits dec round
is-28·95 = refl

abbrev pub 30·0 : Float
30·0 = of_bits binary64 0x403e000000000000

pub is-30·0 : 30·0 ≡ dec 30 0
unfolding of_bits dec round
is-30·0 = refl

abbrev pub 32·0 : Float
32·0 = of_bits binary64 0x4040000000000000

pub is-32·0 : 32·0 ≡ dec 32 0
unfolding of_bits dec round
is-32·0 = refl

abbrev pub 32·5 : Float
32·5 = of_bits binary64 0x4040400000000000

pub is-32·5 : 32·5 ≡ dec 325 1
unfolding of_bits dec round
is-32·5 = refl

abbrev pub 35·0 : Float
35·0 = of_bits binary64 0x4041800000000000

pub is-35·0 : 35·0 ≡ dec 35 0
unfolding of_bits dec round
is-35·0 = refl

abbrev pub 40·0 : Float
40·0 = of_bits binary64 0x4044000000000000

pub is-40·0 : 40·0 ≡ dec 40 0
unfolding of_bits dec round
is-40·0 = refl

abbrev pub 45·0 : Float
45·0 = of_bits binary64 0x4046800000000000

pub is-45·0 : 45·0 ≡ dec 45 0
unfolding of_bits dec round
is-45·0 = refl

abbrev pub 48·0 : Float
48·0 = of_bits binary64 0x4048000000000000

pub is-48·0 : 48·0 ≡ dec 48 0
unfolding of_bits dec round
is-48·0 = refl

abbrev pub 50·0 : Float
50·0 = of_bits binary64 0x4049000000000000

pub is-50·0 : 50·0 ≡ dec 50 0
unfolding of_bits dec round
is-50·0 = refl

abbrev pub 55·0 : Float
55·0 = of_bits binary64 0x404b800000000000

pub is-55·0 : 55·0 ≡ dec 55 0
unfolding of_bits dec round
is-55·0 = refl

abbrev pub 62·5 : Float
62·5 = of_bits binary64 0x404f400000000000

pub is-62·5 : 62·5 ≡ dec 625 1
unfolding of_bits dec round
is-62·5 = refl

abbrev pub 63·0 : Float
63·0 = of_bits binary64 0x404f800000000000

pub is-63·0 : 63·0 ≡ dec 63 0
unfolding of_bits dec round
is-63·0 = refl

abbrev pub 70·0 : Float
70·0 = of_bits binary64 0x4051800000000000

pub is-70·0 : 70·0 ≡ dec 70 0
unfolding of_bits dec round
is-70·0 = refl

abbrev pub 72·5 : Float
72·5 = of_bits binary64 0x4052200000000000

pub is-72·5 : 72·5 ≡ dec 725 1
unfolding of_bits dec round
is-72·5 = refl

abbrev pub 90·0 : Float
90·0 = of_bits binary64 0x4056800000000000

pub is-90·0 : 90·0 ≡ dec 90 0
unfolding of_bits dec round
is-90·0 = refl

abbrev pub 100·0 : Float
100·0 = of_bits binary64 0x4059000000000000

pub is-100·0 : 100·0 ≡ dec 100 0
unfolding of_bits dec round
is-100·0 = refl

abbrev pub 105·0 : Float
105·0 = of_bits binary64 0x405a400000000000

pub is-105·0 : 105·0 ≡ dec 105 0
unfolding of_bits dec round
is-105·0 = refl

abbrev pub 110·0 : Float
110·0 = of_bits binary64 0x405b800000000000

pub is-110·0 : 110·0 ≡ dec 110 0
unfolding of_bits dec round
is-110·0 = refl

abbrev pub 150·0 : Float
150·0 = of_bits binary64 0x4062c00000000000

pub is-150·0 : 150·0 ≡ dec 150 0
unfolding of_bits dec round
is-150·0 = refl

abbrev pub 160·0 : Float
160·0 = of_bits binary64 0x4064000000000000

pub is-160·0 : 160·0 ≡ dec 160 0
unfolding of_bits dec round
is-160·0 = refl

abbrev pub 200·0 : Float
200·0 = of_bits binary64 0x4069000000000000

pub is-200·0 : 200·0 ≡ dec 200 0
unfolding of_bits dec round
is-200·0 = refl

abbrev pub 240·0 : Float
240·0 = of_bits binary64 0x406e000000000000

pub is-240·0 : 240·0 ≡ dec 240 0
unfolding of_bits dec round
is-240·0 = refl

abbrev pub 250·0 : Float
250·0 = of_bits binary64 0x406f400000000000

pub is-250·0 : 250·0 ≡ dec 250 0
unfolding of_bits dec round
is-250·0 = refl

abbrev pub 300·0 : Float
300·0 = of_bits binary64 0x4072c00000000000

pub is-300·0 : 300·0 ≡ dec 300 0
unfolding of_bits dec round
is-300·0 = refl

abbrev pub 320·0 : Float
320·0 = of_bits binary64 0x4074000000000000

pub is-320·0 : 320·0 ≡ dec 320 0
unfolding of_bits dec round
is-320·0 = refl

abbrev pub 400·0 : Float
400·0 = of_bits binary64 0x4079000000000000

pub is-400·0 : 400·0 ≡ dec 400 0
unfolding of_bits dec round
is-400·0 = refl

abbrev pub 450·0 : Float
450·0 = of_bits binary64 0x407c200000000000

pub is-450·0 : 450·0 ≡ dec 450 0
unfolding of_bits dec round
is-450·0 = refl

abbrev pub 831·4 : Float
831·4 = of_bits binary64 0x4089fb3333333333

pub is-831·4 : 831·4 ≡ dec 8314 1
unfolding of_bits dec round
is-831·4 = refl

abbrev pub 980·616 : Float
980·616 = of_bits binary64 0x408ea4ed916872b0

pub is-980·616 : 980·616 ≡ dec 980616 3
unfolding of_bits dec round
is-980·616 = refl

abbrev pub 1000·0 : Float
1000·0 = of_bits binary64 0x408f400000000000

pub is-1000·0 : 1000·0 ≡ dec 1000 0
unfolding of_bits dec round
is-1000·0 = refl

abbrev pub 2500·0 : Float
2500·0 = of_bits binary64 0x40a3880000000000

pub is-2500·0 : 2500·0 ≡ dec 2500 0
unfolding of_bits dec round
is-2500·0 = refl

abbrev pub 10800·0 : Float
10800·0 = of_bits binary64 0x40c5180000000000

pub is-10800·0 : 10800·0 ≡ dec 10800 0
unfolding of_bits dec round
is-10800·0 = refl

abbrev pub 86400·0 : Float
86400·0 = of_bits binary64 0x40f5180000000000

pub is-86400·0 : 86400·0 ≡ dec 86400 0
unfolding of_bits dec round
is-86400·0 = refl

abbrev pub 1·0E6 : Float
1·0E6 = of_bits binary64 0x412e848000000000

pub is-1·0E6 : 1·0E6 ≡ dec⁺ 1 6
unfolding of_bits dec⁺ round
is-1·0E6 = refl

abbrev pub 1·0E9 : Float
1·0E9 = of_bits binary64 0x41cdcd6500000000

pub is-1·0E9 : 1·0E9 ≡ dec⁺ 1 9
unfolding of_bits dec⁺ round
is-1·0E9 = refl

abbrev pub 1·0E15 : Float
1·0E15 = of_bits binary64 0x430c6bf526340000

pub is-1·0E15 : 1·0E15 ≡ dec⁺ 1 15
unfolding of_bits dec⁺ round
is-1·0E15 = refl

abbrev pub 0·99E30 : Float
0·99E30 = of_bits binary64 0x4628fdb99ce410a0

pub is-0·99E30 : 0·99E30 ≡ dec⁺ 99 28
unfolding of_bits dec⁺ round
is-0·99E30 = refl
