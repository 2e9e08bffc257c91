-- The magnetic history where several coefficient sets have the same p[24] and p[25]: g0 of its values is worked out once for them.
use Rattle.std.specs.Prelude.{◌≡◌, refl, cond, not, ◌&&◌, List, Float}
use Rattle.std.specs.Float.Ieee.{neg, lt, eq, ne}
use Rattle.numbers.specs.Arithmetic.{◌⊗◌, ◌‼◌}
use Rattle.numbers.specs.Literals.{0·0, 12·0, 1·0, 1·0E-4, 3·0, 4·0, 8·0}
use Rattle.elementary.specs.Root.{sqrt_of}
use Rattle.elementary.specs.Pow.{pow_of}
use Rattle.activity.specs.declared.Responses.{Responses}
use Rattle.activity.specs.Activity.{g0_of, sumex_of, weighted_mean_of, sg0_of, exp1_of, apt_next_of}

-- g0 of the history's later values, p[24] raised
unfoldable pub responses_of : Float → Float → List Float → Responses
responses_of p24 p25 ap =
    let q = cond (lt p24 1·0E-4) 1·0E-4 p24 in
    let r = sqrt_of (q ⊗ q) in
    record { g1 = g0_of r p25 (ap ‼ 1); g2 = g0_of r p25 (ap ‼ 2); g3 = g0_of r p25 (ap ‼ 3); g4 = g0_of r p25 (ap ‼ 4); g5 = g0_of r p25 (ap ‼ 5); g6 = g0_of r p25 (ap ‼ 6) }

-- sg0 of responses
unfoldable pub sg0_from : Float → Responses → Float
sg0_from ex g =
    weighted_mean_of ex (pow_of ex 3·0) (pow_of ex 4·0) (pow_of ex 12·0) (pow_of ex 8·0) g.g1 g.g2 g.g3 g.g4 g.g5 g.g6 (sumex_of ex)

-- apt[0] after globe7, from responses
unfoldable pub apt_from : Float → Float → Float → Float → Responses → Float → Float
apt_from sw9 p51 p138 glat g old = cond (not ((eq sw9 (neg 1·0)) && (ne p51 0·0))) old (sg0_from (exp1_of p51 p138 glat) g)

-- Together they are apt[0] after globe7
pub apt_from_lem : (sw9 p51 p138 p24 p25 glat : Float) (ap : List Float) (old : Float) → apt_from sw9 p51 p138 glat (responses_of p24 p25 ap) old ≡ apt_next_of sw9 p51 p138 p24 p25 glat ap old
unfolding apt_from apt_next_of sg0_from sg0_of responses_of
apt_from_lem sw9 p51 p138 p24 p25 glat ap old = refl
