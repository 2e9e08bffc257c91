-- The rule of document 01: every number in the coefficient tables is finite and below 1E13 in size.
use Rattle.std.specs.Prelude.{◌≡◌, refl, Bool, true, false, List, [], ◌∷◌, ℕ, zero, suc, ◌<◌, ◌*◌, T, ltb, length, get_or, Float}
use Rattle.std.proofs.Common.{le_of_suc-le-suc, not-suc-le-zero, lit<}
use Rattle.std.specs.Float.{nan, inf, fin}
use Rattle.std.specs.Float.Ieee.{up, down, of_bits}
use Rattle.tables.specs.Tables.{pt_t, ps_t, pd_t0, pd_t1, pd_t2, pd_t3, pd_t4, pd_t5, pd_t6, pd_t7, pd_t8, ptl_t0, ptl_t1, ptl_t2, ptl_t3, pma_t0, pma_t1, pma_t2, pma_t3, pma_t4, pma_t5, pma_t6, pma_t7, pma_t8, pma_t9, pdl_t0, pdl_t1, ptm_t, pdm_t0, pdm_t1, pdm_t2, pdm_t3, pdm_t4, pdm_t5, pdm_t6, pdm_t7, pavgm_t}
use Rattle.tables.specs.Names.{Wide, PT, PS, PD0, PD1, PD2, PD3, PD4, PD5, PD6, PD7, PD8, wide, Narrow, PTL0, PTL1, PTL2, PTL3, PMA0, PMA1, PMA2, PMA3, PMA4, PMA5, PMA6, PMA7, PMA8, PMA9, narrow}

-- finite, and m * 2 ^ e below 1E13
unfoldable pub small : Float → Bool
small nan = false
small (inf s) = false
small (fin s m e) = ltb (m * up e) (10000000000000 * down e)

-- a test that holds of both
abbrev pub both_of : Bool → Bool → Bool
both_of true b = b
both_of false b = false

-- a test that holds of every element
abbrev pub every : {A : Type 0} → (A → Bool) → List A → Bool
every f [] = true
every f (x ∷ xs) = both_of (f x) (every f xs)

both_left : (a b : Bool) → T (both_of a b) → T a
both_left true b t = tt
both_left false b t = t

both_right : (a b : Bool) → T (both_of a b) → T b
both_right true b t = t
both_right false b t = absurd t

-- what holds of every element holds of the one at k
pub every_at : {A : Type 0} (f : A → Bool) (d : A) (xs : List A) → T (every f xs) → (k : ℕ) → k < length xs → T (f (get_or xs k d))
every_at f d [] t k h = absurd (not-suc-le-zero h)
every_at f d (x ∷ xs) t zero h = both_left (f x) (every f xs) t
every_at f d (x ∷ xs) t (suc k) h = every_at f d xs (both_right (f x) (every f xs) t) k (le_of_suc-le-suc h)

-- every row of every table: PT, PS, PD, PTL, PMA, PDL, PTM, PDM, PAVGM
unfoldable pub rows : List (List Float)
rows =
    pt_t ∷ ps_t ∷ pd_t0 ∷ pd_t1 ∷ pd_t2 ∷ pd_t3 ∷ pd_t4 ∷ pd_t5 ∷ pd_t6 ∷ pd_t7 ∷ pd_t8 ∷
    ptl_t0 ∷ ptl_t1 ∷ ptl_t2 ∷ ptl_t3 ∷
    pma_t0 ∷ pma_t1 ∷ pma_t2 ∷ pma_t3 ∷ pma_t4 ∷ pma_t5 ∷ pma_t6 ∷ pma_t7 ∷ pma_t8 ∷ pma_t9 ∷
    pdl_t0 ∷ pdl_t1 ∷ ptm_t ∷ pdm_t0 ∷ pdm_t1 ∷ pdm_t2 ∷ pdm_t3 ∷ pdm_t4 ∷ pdm_t5 ∷ pdm_t6 ∷ pdm_t7 ∷ pavgm_t ∷ []

-- the one computed test
all_small : T (every (every small) rows)
unfolding rows small of_bits pt_t ps_t pd_t0 pd_t1 pd_t2 pd_t3 pd_t4 pd_t5 pd_t6 pd_t7 pd_t8 ptl_t0 ptl_t1 ptl_t2 ptl_t3 pma_t0 pma_t1 pma_t2 pma_t3 pma_t4 pma_t5 pma_t6 pma_t7 pma_t8 pma_t9 pdl_t0 pdl_t1 ptm_t pdm_t0 pdm_t1 pdm_t2 pdm_t3 pdm_t4 pdm_t5 pdm_t6 pdm_t7 pavgm_t
all_small = tt

-- The rule at each entry: number k of row i is finite and below 1E13 in size.
pub entry_small : (i k : ℕ) → i < length rows → k < length (get_or rows i []) → T (small (get_or (get_or rows i []) k nan))
entry_small i k hi hk = every_at small nan (get_or rows i []) (every_at (every small) [] rows all_small i hi) k hk

every_small : (i : ℕ) → i < length rows → T (every small (get_or rows i []))
every_small i h = every_at (every small) [] rows all_small i h

-- the rule for the sets by name
pub wide_small : (t : Wide) (k : ℕ) → k < length (wide t) → T (small (get_or (wide t) k nan))
unfolding rows
wide_small PT = every_at small nan pt_t (every_small 0 (lit< tt))
wide_small PS = every_at small nan ps_t (every_small 1 (lit< tt))
wide_small PD0 = every_at small nan pd_t0 (every_small 2 (lit< tt))
wide_small PD1 = every_at small nan pd_t1 (every_small 3 (lit< tt))
wide_small PD2 = every_at small nan pd_t2 (every_small 4 (lit< tt))
wide_small PD3 = every_at small nan pd_t3 (every_small 5 (lit< tt))
wide_small PD4 = every_at small nan pd_t4 (every_small 6 (lit< tt))
wide_small PD5 = every_at small nan pd_t5 (every_small 7 (lit< tt))
wide_small PD6 = every_at small nan pd_t6 (every_small 8 (lit< tt))
wide_small PD7 = every_at small nan pd_t7 (every_small 9 (lit< tt))
wide_small PD8 = every_at small nan pd_t8 (every_small 10 (lit< tt))

pub narrow_small : (t : Narrow) (k : ℕ) → k < length (narrow t) → T (small (get_or (narrow t) k nan))
unfolding rows
narrow_small PTL0 = every_at small nan ptl_t0 (every_small 11 (lit< tt))
narrow_small PTL1 = every_at small nan ptl_t1 (every_small 12 (lit< tt))
narrow_small PTL2 = every_at small nan ptl_t2 (every_small 13 (lit< tt))
narrow_small PTL3 = every_at small nan ptl_t3 (every_small 14 (lit< tt))
narrow_small PMA0 = every_at small nan pma_t0 (every_small 15 (lit< tt))
narrow_small PMA1 = every_at small nan pma_t1 (every_small 16 (lit< tt))
narrow_small PMA2 = every_at small nan pma_t2 (every_small 17 (lit< tt))
narrow_small PMA3 = every_at small nan pma_t3 (every_small 18 (lit< tt))
narrow_small PMA4 = every_at small nan pma_t4 (every_small 19 (lit< tt))
narrow_small PMA5 = every_at small nan pma_t5 (every_small 20 (lit< tt))
narrow_small PMA6 = every_at small nan pma_t6 (every_small 21 (lit< tt))
narrow_small PMA7 = every_at small nan pma_t7 (every_small 22 (lit< tt))
narrow_small PMA8 = every_at small nan pma_t8 (every_small 23 (lit< tt))
narrow_small PMA9 = every_at small nan pma_t9 (every_small 24 (lit< tt))

-- globe7's sets have 150 numbers, glob7s's 100
pub wide_length : (t : Wide) → length (wide t) ≡ 150
unfolding pt_t ps_t pd_t0 pd_t1 pd_t2 pd_t3 pd_t4 pd_t5 pd_t6 pd_t7 pd_t8
wide_length PT = refl
wide_length PS = refl
wide_length PD0 = refl
wide_length PD1 = refl
wide_length PD2 = refl
wide_length PD3 = refl
wide_length PD4 = refl
wide_length PD5 = refl
wide_length PD6 = refl
wide_length PD7 = refl
wide_length PD8 = refl

pub narrow_length : (t : Narrow) → length (narrow t) ≡ 100
unfolding ptl_t0 ptl_t1 ptl_t2 ptl_t3 pma_t0 pma_t1 pma_t2 pma_t3 pma_t4 pma_t5 pma_t6 pma_t7 pma_t8 pma_t9
narrow_length PTL0 = refl
narrow_length PTL1 = refl
narrow_length PTL2 = refl
narrow_length PTL3 = refl
narrow_length PMA0 = refl
narrow_length PMA1 = refl
narrow_length PMA2 = refl
narrow_length PMA3 = refl
narrow_length PMA4 = refl
narrow_length PMA5 = refl
narrow_length PMA6 = refl
narrow_length PMA7 = refl
narrow_length PMA8 = refl
narrow_length PMA9 = refl
