-- What the public calls give: refusal 5, then 4, else the values.
use Rattle.std.specs.Prelude.{ℕ, cond, ◌||◌, Result, Ok, Err, List, ◌++◌, ltb, length, take, drop, Float}
use Rattle.spline_calls.specs.Outcome.{Outcome, gives, refused, counted}
use Rattle.spline.specs.Nodes.{splini_of, splint_of}
use Rattle.spline.specs.Sweep.{spline_of}
use Rattle.spline_calls.specs.declared.NodesRefusal.{NodesRefusal}
use Rattle.spline_calls.specs.declared.NodesRefusal.TheVariants.{NodeCount, SliceLength}

-- document 01's number and values for each case of an answer
abbrev pub outcome_of : {A : Type 0} → Result A NodesRefusal → Outcome A
outcome_of (Ok x) = gives x
outcome_of (Err (NodeCount place)) = refused 5 place
outcome_of (Err (SliceLength place)) = refused 4 place

-- the same for a call that writes, with what the lent slice holds after it
abbrev pub write_outcome : Result (Unit {0}) NodesRefusal → List Float → Outcome (List Float)
write_outcome (Ok u) ys = gives ys
write_outcome (Err e) ys = outcome_of (Err e)

-- n nodes asked of three slices: refusal 5, then 4 with the length needed
unfoldable pub three_long : {A : Type 0} → ℕ → List Float → List Float → List Float → Outcome A → Outcome A
three_long n a b c rest = counted n 10 (cond (ltb (length a) n || ltb (length b) n || ltb (length c) n) (refused 4 n) rest)

-- splini
unfoldable pub splini_call : List Float → List Float → List Float → ℕ → Float → Outcome Float
splini_call xa ya y2a n x = three_long n xa ya y2a (gives (splini_of xa ya y2a n x))

-- splint
unfoldable pub splint_call : List Float → List Float → List Float → ℕ → Float → Outcome Float
splint_call xa ya y2a n x = three_long n xa ya y2a (gives (splint_of xa ya y2a n x))

-- spline: the first n numbers of y2 are overwritten
unfoldable pub spline_call : List Float → List Float → ℕ → Float → Float → List Float → Outcome (List Float)
spline_call x y n yp1 ypn y2 = three_long n x y y2 (gives (take n (spline_of x y n yp1 ypn) ++ drop n y2))
