-- The outcomes of the host's first altitude thin enough, by the tests on its slices.
use Rattle.std.specs.Prelude.{Err, Ok}
use Prim.Native.Nat.{ℕ}
use mathlib.Core.Path.{◌≡◌, refl, sym, ◌∙◌, ap}
use mathlib.Core.Bool.{true, false, true≢false}
use mathlib.Core.List.{List}
use lib.IntN.{ℤ}
use lib.ListN.{length}
use lib.Ieee.{Float}
use Rattle.first_below_list.specs.FirstBelowList.{First}
use Rattle.refusals.specs.Refusals.{Answer, accepted_of, refused_or}
use Rattle.setting.specs.declared.Input.{Input}
use Rattle.first_below.specs.FirstBelow.{first_answer, first_after}
use Rattle.first_below.proofs.Laws.{goes_on}
use Rattle.host_record.specs.Record.{code_of, record_of}
use Rattle.potirehu.specs.Potirehu.{slices_of}
use Rattle.potirehu.specs.FirstBelow.{first_code, host_first, host_first_row}

-- the slices' own answer goes first
stays : (a : Answer) (x : First) → accepted_of a ≡ false → code_of a ≡ first_code (refused_or a x)
unfolding code_of
stays (Ok v) x t = absurd (true≢false t)
stays (Err r) x t = refl

module _ (year doy : ℤ) (f l : List Float) (w : List ℤ) (alts : List Float) (level : Float) (xs : List Float) (a : Answer) (e : a ≡ slices_of 11 f l w (length xs)) where
  abbrev Outcome : ℕ → List Float → Type 0
  Outcome x ys = (x ≡ first_code (host_first year doy f l w alts level (length xs))) × (ys ≡ host_first_row year doy f l w alts level xs)

  pub not_asked : (x : ℕ) → accepted_of a ≡ false → x ≡ code_of a → Outcome x xs
  unfolding host_first host_first_row
  not_asked x t c = (c ∙ rw (← e) (stays a _ t), rw (← e, t))

  pub asked : (x : ℕ) (r : First) (n : Input) (v : List ℤ) (ys : List Float)
      → accepted_of a ≡ true
      → x ≡ first_code r
      → r ≡ first_answer v n alts level (length xs)
      → ys ≡ first_after v n alts level xs
      → n ≡ record_of year doy f l
      → v ≡ w
      → Outcome x ys
  unfolding host_first host_first_row
  asked x r n v ys t e0 e1 e2 e3 e4 =
      let told : r ≡ refused_or (slices_of 11 f l w (length xs)) (first_answer w (record_of year doy f l) alts level (length xs)) =
      e1 ∙ rw (e3, e4, ← e) (sym (goes_on a _ t)) in
      (e0 ∙ ap (λ (q : First). first_code q) told, e2 ∙ rw (e3, e4, ← e, t))
