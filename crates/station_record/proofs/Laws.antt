-- A list whose first three are written one by one, and the rest in one piece.
use Prim.Native.Nat.{suc, ◌-◌}
use mathlib.Core.Path.{◌≡◌}
use mathlib.Core.List.{List, [], ◌∷◌, ◌++◌, append-nil}
use native.Mathlib.Omega.{arith}
use lib.IntN.{ℤ}
use lib.ListN.{length, set, take, drop}
use lib.Seq.{drop-length}

pub first_three : (s w : List ℤ) (a b c : ℤ) → length s ≡ 27
    → let t = set (set (set s 0 a) 1 b) 2 c in
    take 3 t ++ (w ++ drop (length t - 3) (drop 3 t)) ≡ a ∷ b ∷ c ∷ w
first_three [] w a b c h = absurd (omega arith)
first_three (x ∷ []) w a b c h = absurd (omega arith)
first_three (x ∷ y ∷ []) w a b c h = absurd (omega arith)
first_three (x ∷ y ∷ z ∷ s) w a b c h =
    let e : suc (suc (suc (length s))) - 3 ≡ length s = omega arith in
    rw (e, drop-length s, append-nil)
