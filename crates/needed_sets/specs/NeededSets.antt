-- Which sets of coefficients an altitude needs.
use Rattle.std.specs.Prelude.{ℕ, Bool, true, cond, not, ◌||◌, eqb, ltb, Float}
use Rattle.std.specs.Float.Ieee.{lt, le}
use Rattle.numbers.specs.Arithmetic.{◌‼◌}
use Rattle.numbers.specs.Literals.{32·5, 72·5, 300·0}
use Rattle.tables.specs.Tables.{pdl_t1}
use Rattle.needed_sets.specs.declared.Need.{Need}

-- which sets an altitude needs
unfoldable pub need_at : Float → Need
need_at alt =
    let z = cond (lt 72·5 alt) alt 72·5 in
    record { high = le 72·5 alt; pt = lt (pdl_t1 ‼ 15) z; ps = lt 72·5 z; nodes = lt z 300·0; meso = not (le 72·5 alt); tropo = lt alt 32·5 }

-- the same with those of O, H, N and anomalous O, which gts7 asks for at every altitude
unfoldable pub with_high : Need → Need
with_high a = record { high = true; pt = a.pt; ps = a.ps; nodes = a.nodes; meso = a.meso; tropo = a.tropo }

-- whether globe7's set k is needed, of PT, PD[0] to PD[8] and PS
abbrev pub globe7_needed : Need → ℕ → Bool
globe7_needed n k = cond (eqb k 0) n.pt (cond (eqb k 10) n.ps (cond (eqb k 2 || ltb 6 k) n.high true))

-- whether glob7s's set k is needed, of the nodes' five, the mesosphere's four and the troposphere's five
abbrev pub glob7s_needed : Need → ℕ → Bool
glob7s_needed n k = cond (ltb k 5) n.nodes (cond (ltb k 9) n.meso n.tropo)

-- how many of these hold all that are needed
abbrev pub glob7s_end : Need → ℕ
glob7s_end n = cond n.tropo 14 (cond n.meso 9 (cond n.nodes 5 0))
