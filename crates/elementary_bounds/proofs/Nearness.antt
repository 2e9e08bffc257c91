-- From a kernel's argument m / 2 ^ 58 to the exact argument n / E, for a series of any number of terms; then through the 20th power. Assumes nothing.
use mathlib.Core.Path.{◌≡◌, subst}
use mathlib.Core.List.{List}
use Prim.Native.Nat.{ℕ, suc, ◌+◌, ◌*◌, ◌/◌, ◌^◌, ◌≤◌, ◌<◌}
use native.Mathlib.Omega.{arith}
use native.Mathlib.Nat.{le_of_mul-le-mul_left, mul-le-mul_left, mul-le-mul_right}
use lib.ListN.{length}
use lib.Pow.{pow_pos}
use Rattle.elementary_bounds.specs.Series.{ev, homogeneous, Near}
use Rattle.elementary_bounds.proofs.Homogeneous.{mul_pow, pow_positive, rank, moved_low, moved_high}

-- 20! * D ^ 20, with D = 2 ^ 58, and 20! * D ^ 19
abbrev pub whole : ℕ
whole = 2432902008176640000 * 2 ^ 1160

abbrev pub slice : ℕ
slice = 2432902008176640000 * 2 ^ 1102

-- K / 2 ^ 58 lies within B units of 2 ^ -58 of the series at m / 2 ^ 58, W being the common denominator
abbrev pub KernelOver : ℕ → List ℕ → List ℕ → ℕ → ℕ → ℕ → Type 0
KernelOver W A O K B m =
    (2 ^ 58 * ev (homogeneous (2 ^ 58) A) m ≤ 2 ^ 58 * ev (homogeneous (2 ^ 58) O) m + (K + B) * W)
    × (K * W + 2 ^ 58 * ev (homogeneous (2 ^ 58) O) m ≤ 2 ^ 58 * ev (homogeneous (2 ^ 58) A) m + B * W)

abbrev pub Kernel : List ℕ → List ℕ → ℕ → ℕ → ℕ → Type 0
Kernel = KernelOver whole

-- q / 2 ^ 51 lies within 2 ^ -44 of the series at n / E, W being the common denominator
abbrev pub NearOver : ℕ → List ℕ → List ℕ → ℕ → ℕ → ℕ → Type 0
NearOver W A O n E q =
    (2 ^ 51 * ev (homogeneous E A) n ≤ 2 ^ 51 * ev (homogeneous E O) n + (q + 128) * W)
    × (q * W + 2 ^ 51 * ev (homogeneous E O) n ≤ 2 ^ 51 * ev (homogeneous E A) n + 128 * W)

-- F is the unit of the coefficients, C is D ^ d, Y is E ^ d
finish_up : (D F C Y K q B z_a z_o ZA ZO r_a : ℕ) → D * z_a ≤ D * z_o + (K + B) * (F * C) → D * (C * ZA) ≤ D * (Y * z_a) + r_a * (C * Y) → Y * z_o ≤ C * ZO → r_a ≤ 3 * F → K ≤ 128 * q + 127 → B ≤ 16000
    → C * (D * ZA) ≤ C * (D * ZO + (128 * q + 16384) * (F * Y))
finish_up D F C Y K q B z_a z_o ZA ZO r_a a b c d e f =
    omega (arith, mul-le-mul_left Y a, mul-le-mul_left D c, mul-le-mul_right (C * Y) d, mul-le-mul_right (F * C * Y) e, mul-le-mul_right (F * C * Y) f)

finish_low : (D F C Y K q B z_a z_o ZA ZO r_o : ℕ) → K * (F * C) + D * z_o ≤ D * z_a + B * (F * C) → D * (C * ZO) ≤ D * (Y * z_o) + r_o * (C * Y) → Y * z_a ≤ C * ZA → r_o ≤ 3 * F → 128 * q ≤ K → B ≤ 16000
    → C * (128 * q * (F * Y) + D * ZO) ≤ C * (D * ZA + 16384 * (F * Y))
finish_low D F C Y K q B z_a z_o ZA ZO r_o a b c d e f =
    omega (arith, mul-le-mul_left Y a, mul-le-mul_left D c, mul-le-mul_right (C * Y) d, mul-le-mul_right (F * C * Y) e, mul-le-mul_right (F * C * Y) f)

divide_up : (a b q X : ℕ) → 2 ^ 58 * a ≤ 2 ^ 58 * b + (128 * q + 16384) * X → 2 ^ 51 * a ≤ 2 ^ 51 * b + (q + 128) * X
divide_up a b q X h = omega arith

divide_low : (a b q X : ℕ) → 128 * q * X + 2 ^ 58 * b ≤ 2 ^ 58 * a + 16384 * X → q * X + 2 ^ 51 * b ≤ 2 ^ 51 * a + 128 * X
divide_low a b q X h = omega arith

-- a series through the power d, with coefficients in units of 1 / F whose rank is at most 3: what the kernel says at m / 2 ^ 58 holds at n / E
module _ (d F : ℕ) (A O : List ℕ) (l_a : length A ≡ suc d) (l_o : length O ≡ suc d) (r_a : rank A ≤ 3 * F) (r_o : rank O ≤ 3 * F) where
  abbrev D : ℕ
  D = 2 ^ 58

  pub near_any : (K B m n E r : ℕ) → B ≤ 16000 → KernelOver (F * D ^ d) A O K B m → 0 < E → m * E + r ≡ n * D → r ≤ E → n ≤ E → NearOver (F * E ^ d) A O n E (K / 128)
  near_any K B m n E r w k p e l h =
      let q = K / 128 in
      let z_a = ev (homogeneous D A) m in
      let z_o = ev (homogeneous D O) m in
      let ZA = ev (homogeneous E A) n in
      let ZO = ev (homogeneous E O) n in
      let c : (D * E) ^ d ≡ D ^ d * E ^ d = mul_pow D E d in
      let low_a = moved_low D E m n r (pow_pos 58) p e l h A d l_a in
      let low_o = moved_low D E m n r (pow_pos 58) p e l h O d l_o in
      let top_a = subst (λ (z : ℕ). D * (D ^ d * ZA) ≤ D * (E ^ d * z_a) + rank A * z) c (moved_high D E m n r (pow_pos 58) p e l h A d l_a) in
      let top_o = subst (λ (z : ℕ). D * (D ^ d * ZO) ≤ D * (E ^ d * z_o) + rank O * z) c (moved_high D E m n r (pow_pos 58) p e l h O d l_o) in (
        divide_up ZA ZO q (F * E ^ d) (le_of_mul-le-mul_left (finish_up D F (D ^ d) (E ^ d) K q B z_a z_o ZA ZO (rank A) k.0 top_a low_o r_a (omega arith) w) (pow_positive D d (pow_pos 58))),
        divide_low ZA ZO q (F * E ^ d) (le_of_mul-le-mul_left (finish_low D F (D ^ d) (E ^ d) K q B z_a z_o ZA ZO (rank O) k.1 top_o low_a r_o (omega arith) w) (pow_positive D d (pow_pos 58))),
      )

-- through the 20th power, in units of 1 / 20!
module _ (A O : List ℕ) (l_a : length A ≡ 21) (l_o : length O ≡ 21) (r_a : rank A ≤ 3 * 2432902008176640000) (r_o : rank O ≤ 3 * 2432902008176640000) where
  pub near_exact : (K B m n E r : ℕ) → B ≤ 16000 → Kernel A O K B m → 0 < E → m * E + r ≡ n * 2 ^ 58 → r ≤ E → n ≤ E → Near A O n E (K / 128)
  near_exact K B m n E r w k p e l h =
      let x = near_any 20 2432902008176640000 A O l_a l_o r_a r_o K B m n E r w k p e l h in
      record { above = x.0; under = x.1 }
