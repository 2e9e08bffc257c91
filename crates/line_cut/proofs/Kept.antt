-- What is kept of a line begun, with room and without.
use mathlib.Core.Path.{◌≡◌, ◌∙◌}
use mathlib.Core.Bool.{true, false}
use mathlib.Core.List.{List, [], ◌∷◌, ◌++◌}
use Prim.Native.Nat.{ℕ, ◌+◌, ◌<◌, ◌≤◌}
use native.Mathlib.Numerals.{add-one}
use borrow.Author.Tests.{lt-ltb, le-ltb}
use lib.Dec.{ltb}
use lib.ListN.{length, take, set}
use lib.Seq.{length-take-le, take-suc-set}
use Rattle.line_text.proofs.Choice.{cond_true, cond_false}
use Rattle.line_cut.specs.Lines.{kept_of, len_kept, line_kept}

module _ (line : List ℕ) (len b : ℕ) (h : len ≤ length line) where
  pub one_more : len < length line → len < 512
      → (len + 1 ≡ len_kept len) × (set line len b ≡ line_kept b len line) × (take (len + 1) (set line len b) ≡ kept_of (take len line) b)
  unfolding kept_of len_kept line_kept
  one_more i g =
      let k : take (len + 1) (set line len b) ≡ take len line ++ (b ∷ []) = rw add-one (take-suc-set line len b i) in
      let room : ltb (length (take len line)) 512 ≡ true = rw (length-take-le len line h) (lt-ltb _ _ g) in
      (cond_true _ _ _ (lt-ltb _ _ g), cond_true _ _ _ (lt-ltb _ _ g), k ∙ cond_true _ _ (take len line) room)

  pub no_more : 512 ≤ len → (len ≡ len_kept len) × (line ≡ line_kept b len line) × (take len line ≡ kept_of (take len line) b)
  unfolding kept_of len_kept line_kept
  no_more g =
      let room : ltb (length (take len line)) 512 ≡ false = rw (length-take-le len line h) (le-ltb _ _ g) in
      (cond_false _ _ _ (le-ltb _ _ g), cond_false _ _ _ (le-ltb _ _ g), cond_false _ (take len line ++ (b ∷ [])) _ room)
