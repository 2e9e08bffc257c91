-- What the public calls give: scalh its number; densm and densu refusals 5 and 4 for a set of nodes, else the answer.
use Rattle.std.specs.Prelude.{ℕ, cond, ◌||◌, List, ltb, length, Float}
use Rattle.numbers.specs.Constants.{rgas}
use Rattle.spline_calls.specs.Outcome.{Outcome, gives, refused, counted, after}
use Rattle.profile.specs.Gravity.{scalh_of}
use Rattle.profile.specs.Profile.{densm_of, densu_of, tn1_of, tgn1_of}
use Rattle.profile.specs.declared.unchecked.Profile.{Profile}

-- a set of n nodes: refusal 5, then 4 for the nodes, then 4 for the gradients; the place of 4 is the length needed
unfoldable pub checked : {A : Type 0} → ℕ → ℕ → List Float → List Float → List Float → Outcome A → Outcome A
checked n top zn tn tgn rest =
    counted n top
    (cond (ltb (length zn) n || ltb (length tn) n) (refused 4 n)
    (cond (ltb (length tgn) 2) (refused 4 2) rest))

-- scalh, with the gas constant of the Rust
abbrev pub scalh_call : Float → Float → Float → Float → Float → Float
scalh_call gsurf re alt xm temp = scalh_of rgas gsurf re alt xm temp

-- densm, with the gas constant of the Rust
unfoldable pub densm_call : Float → Float → Float → Float → Float → Float → ℕ → List Float → List Float → List Float → ℕ → List Float → List Float → List Float → Outcome Profile
densm_call gsurf re alt d0 xm tz mn3 zn3 tn3 tgn3 mn2 zn2 tn2 tgn2 =
    checked mn2 10 zn2 tn2 tgn2
    (checked mn3 10 zn3 tn3 tgn3
    (gives (densm_of rgas gsurf re alt d0 xm tz mn3 zn3 tn3 tgn3 mn2 zn2 tn2 tgn2)))

-- densu: its answer, with the gas constant of the Rust
unfoldable pub densu_call : Float → Float → Float → Float → Float → Float → Float → Float → Float → Float → Float → ℕ → List Float → List Float → List Float → Outcome Profile
densu_call gsurf re alt dlb tinf tlb xm alpha tz zlb s2 mn1 zn1 tn1 tgn1 =
    checked mn1 5 zn1 tn1 tgn1 (gives (densu_of rgas gsurf re alt dlb tinf tlb xm alpha zlb s2 mn1 zn1 tn1 tgn1))

-- what densu leaves in tn1, and in tgn1
unfoldable pub densu_tn1 : Float → Float → Float → Float → Float → Float → ℕ → List Float → List Float → List Float → List Float
densu_tn1 re alt tinf tlb zlb s2 mn1 zn1 tn1 tgn1 =
    after (checked mn1 5 zn1 tn1 tgn1 (gives (tn1_of re alt tinf tlb zlb s2 zn1 tn1))) tn1

unfoldable pub densu_tgn1 : Float → Float → Float → Float → Float → Float → ℕ → List Float → List Float → List Float → List Float
densu_tgn1 re alt tinf tlb zlb s2 mn1 zn1 tn1 tgn1 =
    after (checked mn1 5 zn1 tn1 tgn1 (gives (tgn1_of re alt tinf tlb zlb s2 zn1 tgn1))) tgn1
