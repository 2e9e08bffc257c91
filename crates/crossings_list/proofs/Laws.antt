-- The list made index by index, the buffer written index by index, and the outcomes of the call.
use mathlib.Core.Path.{◌≡◌, refl, sym, ap, ◌∙◌}
use mathlib.Core.Bool.{Bool, true, false, cond}
use mathlib.Core.List.{List, [], ◌∷◌, ◌++◌, append-nil}
use Prim.Native.Nat.{ℕ, suc, ◌+◌, ◌-◌, ◌<◌, ◌≤◌}
use native.Mathlib.Numerals.{add-one}
use native.Mathlib.Nat.{add-zero}
use native.Mathlib.Omega.{arith}
use borrow.Author.Tests.{lt-ltb, le-ltb}
use lib.ListN.{length, drop, get_or, set, length-append}
use lib.Seq.{append_snoc, drop-cons, drop-length, set_at}
use lib.Ieee.{Float, nan, lt}
use Rattle.refusals.specs.Refusals.{Refused}
use Rattle.refusals.specs.declared.Reason.TheVariants.{ListTooShort}
use Rattle.crossings_list.specs.CrossingsList.{passes_at, below, those, crossings_of, list_answer, list_after, altitudes_rise_from, altitudes_rise, Listed}
use Rattle.crossings_list.specs.Theorems.{those_more, grows}

-- ---- the list, index by index

module _ (level : Float) (d : List Float) (i n : ℕ) (e : n ≡ length (those (passes_at level d) (below i))) where
  longer : (b : Bool) → length (those (passes_at level d) (below i) ++ cond b (i ∷ []) []) ≡ n + cond b 1 0
  longer true = length-append (those (passes_at level d) (below i)) (i ∷ []) ∙ omega arith
  longer false = length-append (those (passes_at level d) (below i)) [] ∙ omega arith

  module _ (t : Bool) (f : t ≡ passes_at level d i) where
    pub counted : (r : ℕ) → r ≡ cond t 1 0 → n + r ≡ length (those (passes_at level d) (below (i + 1)))
    counted r g = rw (g, those_more (passes_at level d) i, ← f) (sym (longer t))

    pub room : i < length d - 1 → (len : ℕ) → length (crossings_of level d) ≤ len → (n ≤ len) × (t ≡ true → n < len)
    unfolding crossings_of
    room h len g = (omega (arith, grows (passes_at level d) i (length d - 1) (omega arith)), more)
      where
        more : t ≡ true → n < len
        more w =
            let k : n + 1 ≡ length (those (passes_at level d) (below (i + 1))) = counted 1 (ap (λ (b : Bool). cond b 1 0) (sym w)) in
            omega (arith, grows (passes_at level d) (i + 1) (length d - 1) (omega arith))

    put : (b : Bool) (out out₀ : List ℕ) → (b ≡ true → n < length out₀) → out ≡ those (passes_at level d) (below i) ++ drop n out₀
        → cond b (set out n i) out ≡ (those (passes_at level d) (below i) ++ cond b (i ∷ []) []) ++ drop (n + cond b 1 0) out₀
    put true out out₀ h g =
        let k : n < length out₀ = h refl in
        rw (g, drop-cons out₀ n 0 k, set_at (those (passes_at level d) (below i)) (get_or out₀ n 0) (drop (suc n) out₀) i n (sym e), append_snoc, add-one)
    put false out out₀ h g = rw (g, append-nil, add-zero)

    pub written : (out out₀ next : List ℕ) (r : ℕ) → (t ≡ true → n < length out₀)
        → out ≡ those (passes_at level d) (below i) ++ drop n out₀
        → next ≡ cond t (set out n i) out
        → r ≡ n + cond t 1 0
        → (r ≡ length (those (passes_at level d) (below (i + 1)))) × (next ≡ those (passes_at level d) (below (i + 1)) ++ drop r out₀)
    written out out₀ next r h g u v = (
      v ∙ counted (cond t 1 0) refl,
      rw (u, v, those_more (passes_at level d) i, ← f) (put t out out₀ h g),
    )

  pub whole : i ≡ length d - 1 → n ≡ length (crossings_of level d)
  unfolding crossings_of
  whole h = e ∙ ap (λ (k : ℕ). length (those (passes_at level d) (below k))) h

  pub whole_written : i ≡ length d - 1 → (out out₀ : List ℕ) → out ≡ those (passes_at level d) (below i) ++ drop n out₀
      → out ≡ crossings_of level d ++ drop (length (crossings_of level d)) out₀
  unfolding crossings_of
  whole_written h out out₀ g = g ∙ rw (e, h)

-- ---- the call

module _ (level : Float) (d : List Float) (xs : List ℕ) (n : ℕ) (e : n ≡ length (crossings_of level d)) where
  pub too_short : length xs < n → (Refused ListTooShort n ≡ list_answer (crossings_of level d) (length xs)) × (xs ≡ list_after (crossings_of level d) xs)
  unfolding list_answer list_after
  too_short h =
      let k : length xs < length (crossings_of level d) = rw e at h in
      (rw e (simp (lt-ltb _ _ k)), simp (lt-ltb _ _ k))

  pub fits_in : n ≤ length xs → (ys : List ℕ) → ys ≡ crossings_of level d ++ drop (length (crossings_of level d)) xs
      → (Listed n ≡ list_answer (crossings_of level d) (length xs)) × (ys ≡ list_after (crossings_of level d) xs)
  unfolding list_answer list_after
  fits_in h ys g =
      let k : length (crossings_of level d) ≤ length xs = rw e at h in
      (rw e (simp (le-ltb _ _ k)), g ∙ simp (le-ltb _ _ k))

-- ---- rising altitudes

pub begins : (s : List Float) → (length s ≡ 0 → ⊥) → altitudes_rise_from 1 (get_or s 0 nan) (drop 1 s) ≡ altitudes_rise s
begins [] h = absurd (h refl)
begins (a ∷ s) h = refl

module _ (s : List Float) (last : Float) (i : ℕ) where
  pub falls_here : i < length s → lt last (get_or s i nan) ≡ false → i ≡ altitudes_rise_from i last (drop i s)
  unfolding altitudes_rise_from
  falls_here h g = rw (drop-cons s i nan h) (simp g)

  pub rises_here : i < length s → lt last (get_or s i nan) ≡ true → altitudes_rise_from (i + 1) (get_or s i nan) (drop (i + 1) s) ≡ altitudes_rise_from i last (drop i s)
  unfolding altitudes_rise_from
  rises_here h g = rw (drop-cons s i nan h, add-one) (simp g)

  pub all_rise : i ≡ length s → i ≡ altitudes_rise_from i last (drop i s)
  unfolding altitudes_rise_from
  all_rise h = rw (h, drop-length s)
