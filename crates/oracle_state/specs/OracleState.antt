-- The 79 numbers of the State that gtd7 leaves.
use Rattle.std.specs.Prelude.{ℕ, zero, suc, ◌-◌, cond, not, ◌&&◌, List, [], ◌∷◌, eqb, ltb, ℤ, length, Float}
use Rattle.numbers.specs.Arithmetic.{◌‼◌}
use Rattle.numbers.specs.Literals.{0·0, 1·0}
use Rattle.refusals.specs.Refusals.{Accepted, Answer, Refused, accepted_of}
use Rattle.refusals.specs.declared.Reason.TheVariants.{WrongLength}
use Rattle.setting.specs.declared.State.{State}
use Rattle.atmosphere.specs.Atmosphere.{left_of}
use Rattle.host_record.specs.Record.{record_of, lengths_of}

-- gsurf to dm14, then the nodes
unfoldable pub node_numbers : State → List Float
node_numbers s =
    s.gsurf ∷ s.re ∷ s.dd ∷ s.dm04 ∷ s.dm16 ∷ s.dm28 ∷ s.dm32 ∷ s.dm40 ∷ s.dm01 ∷ s.dm14 ∷
    (s.meso_tn1 ‼ 0) ∷ (s.meso_tn1 ‼ 1) ∷ (s.meso_tn1 ‼ 2) ∷ (s.meso_tn1 ‼ 3) ∷ (s.meso_tn1 ‼ 4) ∷
    (s.meso_tn2 ‼ 0) ∷ (s.meso_tn2 ‼ 1) ∷ (s.meso_tn2 ‼ 2) ∷ (s.meso_tn2 ‼ 3) ∷
    (s.meso_tn3 ‼ 0) ∷ (s.meso_tn3 ‼ 1) ∷ (s.meso_tn3 ‼ 2) ∷ (s.meso_tn3 ‼ 3) ∷ (s.meso_tn3 ‼ 4) ∷
    (s.meso_tgn1 ‼ 0) ∷ (s.meso_tgn1 ‼ 1) ∷ (s.meso_tgn2 ‼ 0) ∷ (s.meso_tgn2 ‼ 1) ∷ (s.meso_tgn3 ‼ 0) ∷ (s.meso_tgn3 ‼ 1) ∷ []

-- ctloc to apt
unfoldable pub last_numbers : State → List Float
last_numbers s =
    s.ctloc ∷ s.stloc ∷ s.c2tloc ∷ s.s2tloc ∷ s.s3tloc ∷ s.c3tloc ∷ s.apdf ∷
    (s.apt ‼ 0) ∷ (s.apt ‼ 1) ∷ (s.apt ‼ 2) ∷ (s.apt ‼ 3) ∷ []

-- number k in the order of the fields, dfa being number 30 and the Legendre values 31 to 66; number 78 is 1 where dm28 was set, else 0
unfoldable pub state_number : State → ℕ → Float
state_number s k =
    cond (ltb k 30) (node_numbers s ‼ k)
    (cond (eqb k 30) s.dfa
    (cond (ltb k 67) (s.plg ‼ (k - 31))
    (cond (ltb k 78) (last_numbers s ‼ (k - 67))
    (cond (eqb k 78 && s.dm28_set) 1·0 0·0))))

-- m numbers from number k on
unfoldable pub numbers_from : ℕ → ℕ → State → List Float
numbers_from zero k s = []
numbers_from (suc m) k s = state_number s k ∷ numbers_from m (suc k) s

-- all of them
unfoldable pub numbers_of_state : State → List Float
numbers_of_state s = numbers_from 79 0 s

-- 4 for the lent slice, then for the fields, the array and the switches
unfoldable pub state_answer : List Float → List Float → List ℤ → ℕ → Answer
state_answer f l w len = cond (not (eqb len 79)) (Refused WrongLength 79) (lengths_of f l w Accepted)

-- the lent slice afterwards
unfoldable pub state_numbers : ℤ → ℤ → List Float → List Float → List ℤ → List Float → List Float
state_numbers year doy f l w xs =
    cond (accepted_of (state_answer f l w (length xs))) (numbers_of_state (left_of w (record_of year doy f l))) xs
