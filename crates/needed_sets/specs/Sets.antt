-- The sets of coefficients in the order in which their values are worked out.
use Rattle.std.specs.Prelude.{List, [], ◌∷◌, ℕ, get_or, Float}
use Rattle.tables.specs.Tables.{pt_t, ps_t, pd_t0, pd_t1, pd_t2, pd_t3, pd_t4, pd_t5, pd_t6, pd_t7, pd_t8, ptl_t0, ptl_t1, ptl_t2, ptl_t3, pma_t0, pma_t1, pma_t2, pma_t3, pma_t4, pma_t5, pma_t6, pma_t7, pma_t8, pma_t9}

-- globe7: PT, PD[0] to PD[8], PS
unfoldable pub globe7_sets : List (List Float)
globe7_sets = pt_t ∷ pd_t0 ∷ pd_t1 ∷ pd_t2 ∷ pd_t3 ∷ pd_t4 ∷ pd_t5 ∷ pd_t6 ∷ pd_t7 ∷ pd_t8 ∷ ps_t ∷ []

abbrev pub globe7_set : ℕ → List Float
globe7_set k = get_or globe7_sets k ps_t

-- glob7s: PTL and PMA[8], which the lower thermosphere needs; PMA[0], PMA[1], PMA[2] and PMA[9], the mesosphere; PMA[3] to PMA[7], the troposphere
unfoldable pub glob7s_sets : List (List Float)
glob7s_sets = ptl_t0 ∷ ptl_t1 ∷ ptl_t2 ∷ ptl_t3 ∷ pma_t8 ∷ pma_t0 ∷ pma_t1 ∷ pma_t2 ∷ pma_t9 ∷ pma_t3 ∷ pma_t4 ∷ pma_t5 ∷ pma_t6 ∷ pma_t7 ∷ []

abbrev pub glob7s_set : ℕ → List Float
glob7s_set k = get_or glob7s_sets k pma_t7
