-- The outcome of a call in document 01's terms: its values, or a refusal with number and place.
use Rattle.std.specs.Prelude.{ℕ, cond, ◌||◌, List, ltb, Float}

pub data Outcome (A : Type 0) : Type 0 where
  gives : A → Outcome A
  refused : ℕ → ℕ → Outcome A

-- refusal 5: a node count outside 2 to top; the place is top
unfoldable pub counted : {A : Type 0} → ℕ → ℕ → Outcome A → Outcome A
counted n top rest = cond (ltb n 2 || ltb top n) (refused 5 top) rest

-- what a lent slice holds after a call: what the call gives, and after a refusal what it held before
unfoldable pub after : Outcome (List Float) → List Float → List Float
after (gives ys) xs = ys
after (refused number place) xs = xs
