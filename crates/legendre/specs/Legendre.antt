-- The Legendre values that globe7 works out, beside the entries that it leaves as they were.
use Rattle.std.specs.Prelude.{List, [], ◌∷◌, Float}
use Rattle.numbers.specs.Arithmetic.{◌⊕◌, ◌⊖◌, ◌⊗◌, ◌⊘◌, ◌‼◌, at}
use Rattle.numbers.specs.Literals.{0·5, 105·0, 11·0, 13·0, 14·0, 15·0, 1·0, 1·5, 1·875, 21·0, 2·0, 2·5, 30·0, 35·0, 3·0, 4·0, 5·0, 63·0, 6·0, 70·0, 7·0, 7·5, 8·0, 9·0}

-- plg[0] after globe7: six entries new, the others as they were
unfoldable pub legendre0_of : Float → Float → List Float → List Float
legendre0_of c s old =
    let c2 = c ⊗ c in
    let c4 = c2 ⊗ c2 in
    let p4 = (35·0 ⊗ c4 ⊖ 30·0 ⊗ c2 ⊕ 3·0) ⊘ 8·0 in
    let p5 = (63·0 ⊗ c2 ⊗ c2 ⊗ c ⊖ 70·0 ⊗ c2 ⊗ c ⊕ 15·0 ⊗ c) ⊘ 8·0 in
    (old ‼ 0) ∷ c ∷ (0·5 ⊗ (3·0 ⊗ c2 ⊖ 1·0)) ∷ (0·5 ⊗ (5·0 ⊗ c ⊗ c2 ⊖ 3·0 ⊗ c)) ∷ p4 ∷ p5 ∷ ((11·0 ⊗ c ⊗ p5 ⊖ 5·0 ⊗ p4) ⊘ 6·0) ∷ (old ‼ 7) ∷ (old ‼ 8) ∷ []

-- plg[1] after globe7
unfoldable pub legendre1_of : Float → Float → List Float → List Float
legendre1_of c s old =
    let c2 = c ⊗ c in
    let c4 = c2 ⊗ c2 in
    let p4 = 2·5 ⊗ (7·0 ⊗ c2 ⊗ c ⊖ 3·0 ⊗ c) ⊗ s in
    let p5 = 1·875 ⊗ (21·0 ⊗ c4 ⊖ 14·0 ⊗ c2 ⊕ 1·0) ⊗ s in
    (old ‼ 9) ∷ s ∷ (3·0 ⊗ c ⊗ s) ∷ (1·5 ⊗ (5·0 ⊗ c2 ⊖ 1·0) ⊗ s) ∷ p4 ∷ p5 ∷ ((11·0 ⊗ c ⊗ p5 ⊖ 6·0 ⊗ p4) ⊘ 5·0) ∷ (old ‼ 16) ∷ (old ‼ 17) ∷ []

-- plg[2] after globe7
unfoldable pub legendre2_of : Float → Float → List Float → List Float
legendre2_of c s old =
    let c2 = c ⊗ c in
    let s2 = s ⊗ s in
    let p3 = 15·0 ⊗ s2 ⊗ c in
    let p4 = 7·5 ⊗ (7·0 ⊗ c2 ⊖ 1·0) ⊗ s2 in
    let p5 = 3·0 ⊗ c ⊗ p4 ⊖ 2·0 ⊗ p3 in
    let p6 = (11·0 ⊗ c ⊗ p5 ⊖ 7·0 ⊗ p4) ⊘ 4·0 in
    (old ‼ 18) ∷ (old ‼ 19) ∷ (3·0 ⊗ s2) ∷ p3 ∷ p4 ∷ p5 ∷ p6 ∷ ((13·0 ⊗ c ⊗ p6 ⊖ 8·0 ⊗ p5) ⊘ 5·0) ∷ (old ‼ 26) ∷ []

-- plg[3] after globe7
unfoldable pub legendre3_of : Float → Float → List Float → List Float
legendre3_of c s old =
    let s2 = s ⊗ s in
    let p3 = 15·0 ⊗ s2 ⊗ s in
    let p4 = 105·0 ⊗ s2 ⊗ s ⊗ c in
    let p5 = (9·0 ⊗ c ⊗ p4 ⊖ 7·0 ⊗ p3) ⊘ 2·0 in
    (old ‼ 27) ∷ (old ‼ 28) ∷ (old ‼ 29) ∷ p3 ∷ p4 ∷ p5 ∷ ((11·0 ⊗ c ⊗ p5 ⊖ 8·0 ⊗ p4) ⊘ 3·0) ∷ (old ‼ 34) ∷ (old ‼ 35) ∷ []

-- The Legendre values of c, the sine of latitude, and s, its cosine
unfoldable pub legendre_of : Float → Float → List Float → List (List Float)
legendre_of c s old =
    legendre0_of c s old ∷ legendre1_of c s old ∷ legendre2_of c s old ∷ legendre3_of c s old ∷ []

-- The four rows one after the other, as State holds them
unfoldable pub flat_of : List (List Float) → List Float
flat_of g =
    (at g 0 0) ∷ (at g 0 1) ∷ (at g 0 2) ∷ (at g 0 3) ∷ (at g 0 4) ∷ (at g 0 5) ∷ (at g 0 6) ∷ (at g 0 7) ∷ (at g 0 8) ∷ (at g 1 0) ∷ (at g 1 1) ∷ (at g 1 2) ∷ (at g 1 3) ∷ (at g 1 4) ∷ (at g 1 5) ∷ (at g 1 6) ∷ (at g 1 7) ∷ (at g 1 8) ∷ (at g 2 0) ∷ (at g 2 1) ∷ (at g 2 2) ∷ (at g 2 3) ∷ (at g 2 4) ∷ (at g 2 5) ∷ (at g 2 6) ∷ (at g 2 7) ∷ (at g 2 8) ∷ (at g 3 0) ∷ (at g 3 1) ∷ (at g 3 2) ∷ (at g 3 3) ∷ (at g 3 4) ∷ (at g 3 5) ∷ (at g 3 6) ∷ (at g 3 7) ∷ (at g 3 8) ∷ []

unfoldable pub row0_of : List Float → List Float
row0_of q =
    (q ‼ 0) ∷ (q ‼ 1) ∷ (q ‼ 2) ∷ (q ‼ 3) ∷ (q ‼ 4) ∷ (q ‼ 5) ∷ (q ‼ 6) ∷ (q ‼ 7) ∷ (q ‼ 8) ∷ []

unfoldable pub row1_of : List Float → List Float
row1_of q =
    (q ‼ 9) ∷ (q ‼ 10) ∷ (q ‼ 11) ∷ (q ‼ 12) ∷ (q ‼ 13) ∷ (q ‼ 14) ∷ (q ‼ 15) ∷ (q ‼ 16) ∷ (q ‼ 17) ∷ []

unfoldable pub row2_of : List Float → List Float
row2_of q =
    (q ‼ 18) ∷ (q ‼ 19) ∷ (q ‼ 20) ∷ (q ‼ 21) ∷ (q ‼ 22) ∷ (q ‼ 23) ∷ (q ‼ 24) ∷ (q ‼ 25) ∷ (q ‼ 26) ∷ []

unfoldable pub row3_of : List Float → List Float
row3_of q =
    (q ‼ 27) ∷ (q ‼ 28) ∷ (q ‼ 29) ∷ (q ‼ 30) ∷ (q ‼ 31) ∷ (q ‼ 32) ∷ (q ‼ 33) ∷ (q ‼ 34) ∷ (q ‼ 35) ∷ []

-- The four rows of what State holds
unfoldable pub rows_of : List Float → List (List Float)
rows_of q =
    row0_of q ∷ row1_of q ∷ row2_of q ∷ row3_of q ∷ []
