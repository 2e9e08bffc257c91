-- Rows out of numbers to which parts are added: every altitude whose part is there has its row.
use Rattle.std.specs.Prelude.{ℕ, ◌+◌, ◌≤◌, ◌≡◌, Bool, cond, not, ◌&&◌, ◌||◌, List, ◌++◌, length, take, drop, Float}
use Rattle.std.proofs.Math.Path.{refl, sym, ap}
use Rattle.std.proofs.Common.{◌∙◌, true≢false, arith, length-drop, length-take-le}
use Rattle.std.proofs.Math.Bool.{true, false}
use Rattle.std.proofs.lemmas.Bool.{false≢true}
use Rattle.std.proofs.Math.Seq.{take_at, drop_at, take-length}
use Rattle.std.specs.Float.Ieee.{lt, le}
use Rattle.numbers.specs.Arithmetic.{◌‼◌}
use Rattle.numbers.specs.Literals.{32·5, 200·0, 300·0, 2500·0}
use Rattle.parameters.specs.Parameters.{present_of}
use Rattle.plan.specs.declared.ExpansionValues.{ExpansionValues}
use Rattle.gts7_arithmetic.specs.declared.Site.{Site}
use Rattle.region.specs.declared.Bases.{Bases}
use Rattle.region.specs.Region.{bases_of, row_over}
use Rattle.footing.specs.Footing.{row_below_of}
use Rattle.stored_parts.specs.declared.Parts.{Parts}
use Rattle.stored_parts.specs.Parts.{above_summit, from_summit, above_za, below300, either_parts, serves_of}
use Rattle.stored.specs.Stored.{part, footing_stored, low_stored, region_stored, summit_stored, stored_of, stored_in, shape_in, roots_in, footing_in, low_row, row_stored}
use Rattle.stored.specs.Rows.{footing_length, low_length, region_length, summit_length, grown, drop_past}
use Rattle.stored.specs.Rows as rows

-- ---- each part in its place

-- ys has in the places of the parts p what s has there, and in the other places what xs has
pub record Laid (p : Parts) (s xs ys : List Float) : Type 0 where
  pub below : part 14 53 ys ≡ cond p.below (part 14 53 s) (part 14 53 xs)
  pub low : part 67 84 ys ≡ cond p.low (part 67 84 s) (part 67 84 xs)
  pub mid : part 151 36 ys ≡ cond p.mid (part 151 36 s) (part 151 36 xs)
  pub top : part 187 36 ys ≡ cond p.top (part 187 36 s) (part 187 36 xs)
  pub summit : part 223 11 ys ≡ cond p.summit (part 223 11 s) (part 223 11 xs)

part_length : (xs : List Float) (a n : ℕ) → a + n ≤ length xs → length (part a n xs) ≡ n
part_length xs a n h = length-take-le n (drop a xs) (rw (length-drop a xs) (omega arith))

-- a part that is put or stays has its length
pub chosen_length : (b : Bool) (f xs : List Float) (a n : ℕ) → length f ≡ n → a + n ≤ length xs → length (cond b f (part a n xs)) ≡ n
chosen_length true f xs a n e h = e
chosen_length false f xs a n e h = part_length xs a n h

-- what is put where b holds is what s has there
chosen : (b : Bool) (f : Bool → List Float) (s r : List Float) → s ≡ f b → cond b (f true) r ≡ cond b s r
chosen true f s r e = sym e
chosen false f s r e = refl

whole : (xs : List Float) (n : ℕ) → length xs ≡ n → take n xs ≡ xs
whole xs n e = ap (λ (k : ℕ). take k xs) (sym e) ∙ take-length xs

module _ (p : Parts) (sw : List Float) (x : Site) (l : ExpansionValues) (xs : List Float) (len : length xs ≡ 234) where
  abbrev d : Bases
  d = bases_of (sw ‼ 21) l

  abbrev A : List Float
  A = cond p.below (footing_stored true sw x l p.tropo) (part 14 53 xs)

  abbrev B : List Float
  B = cond p.low (low_stored true sw x l d) (part 67 84 xs)

  abbrev C : List Float
  C = cond p.mid (region_stored true sw x l d 200·0) (part 151 36 xs)

  abbrev D : List Float
  D = cond p.top (region_stored true sw x l d 300·0) (part 187 36 xs)

  abbrev E : List Float
  E = cond p.summit (summit_stored true sw x l) (part 223 11 xs)

  r14 : length (take 14 xs) ≡ 14
  r14 = length-take-le 14 xs (omega (arith, len))

  a53 : length A ≡ 53
  a53 = chosen_length p.below _ xs 14 53 (footing_length true sw x l p.tropo) (omega (arith, len))

  b84 : length B ≡ 84
  b84 = chosen_length p.low _ xs 67 84 (low_length true sw x l d) (omega (arith, len))

  c36 : length C ≡ 36
  c36 = chosen_length p.mid _ xs 151 36 (region_length true sw x l d 200·0) (omega (arith, len))

  d36 : length D ≡ 36
  d36 = chosen_length p.top _ xs 187 36 (region_length true sw x l d 300·0) (omega (arith, len))

  e11 : length E ≡ 11
  e11 = chosen_length p.summit _ xs 223 11 (summit_length true sw x l) (omega (arith, len))

  pub stored_in_length : length (stored_in p sw x l xs) ≡ 234
  unfolding stored_in
  stored_in_length = grown (take 14 xs) _ 14 220 r14 (grown A _ 53 167 a53 (grown B _ 84 83 b84 (grown C _ 36 47 c36 (grown D E 36 11 d36 e11))))

  -- the parts in their places are those that a column would have stored
  pub stored_laid : Laid p (take 14 xs ++ stored_of p sw x l) xs (stored_in p sw x l xs)
  unfolding stored_in
  stored_laid =
      record {
        below =
            ap (take 53) (drop_at (take 14 xs) _ 14 r14) ∙ take_at A _ 53 a53
            ∙ chosen p.below (λ (b : Bool). footing_stored b sw x l p.tropo) _ _ (rows.footing_part p sw x l (take 14 xs) r14);
        low =
            ap (take 84) (drop_past (take 14 xs) _ 14 53 r14 ∙ drop_at A _ 53 a53) ∙ take_at B _ 84 b84
            ∙ chosen p.low (λ (b : Bool). low_stored b sw x l d) _ _ (rows.low_part p sw x l (take 14 xs) r14);
        mid =
            ap (take 36) (drop_past (take 14 xs) _ 14 137 r14 ∙ drop_past A _ 53 84 a53 ∙ drop_at B _ 84 b84) ∙ take_at C _ 36 c36
            ∙ chosen p.mid (λ (b : Bool). region_stored b sw x l d 200·0) _ _ (rows.mid_part p sw x l (take 14 xs) r14);
        top =
            ap (take 36) (drop_past (take 14 xs) _ 14 173 r14 ∙ drop_past A _ 53 120 a53 ∙ drop_past B _ 84 36 b84 ∙ drop_at C _ 36 c36) ∙ take_at D _ 36 d36
            ∙ chosen p.top (λ (b : Bool). region_stored b sw x l d 300·0) _ _ (rows.top_part p sw x l (take 14 xs) r14);
        summit =
            ap (take 11) (drop_past (take 14 xs) _ 14 209 r14 ∙ drop_past A _ 53 156 a53 ∙ drop_past B _ 84 72 b84 ∙ drop_past C _ 36 36 c36 ∙ drop_at D _ 36 d36) ∙ whole E 11 e11
            ∙ chosen p.summit (λ (b : Bool). summit_stored b sw x l) _ _ (rows.summit_part p sw x l (take 14 xs) r14 ∙ whole _ 11 (summit_length p.summit sw x l));
      }

-- ---- the row of each altitude that is served

-- xs have the rows that E gives of all altitudes that the parts h serve; sw0 and sw15 are the main effects of switches 0 and 15
abbrev pub Serves : Float → Float → (Float → List Float) → Parts → List Float → Type 0
Serves sw0 sw15 E h xs = (z : Float) → le z 2500·0 ≡ true → serves_of h z ≡ true → row_stored sw0 sw15 xs z ≡ E z

module _ (sw0 sw15 : Float) where
  -- an altitude's row is made of the n numbers from the a-th on, which are those of the part that which tells
  record Reads (z : Float) (which : Parts → Bool) (a n : ℕ) : Type 0 where
    made : List Float → List Float
    row : (xs : List Float) → row_stored sw0 sw15 xs z ≡ made (part a n xs)
    asks : (h : Parts) → serves_of h z ≡ which h

  at_summit : (z : Float) → above_summit z ≡ false → from_summit z ≡ true → Reads z (λ (h : Parts). h.summit) 223 11
  unfolding row_stored serves_of
  at_summit z a f = record { made = λ t. t; row = λ xs. rw (a, f); asks = λ h. rw (a, f) }

  at_below : (z : Float) → above_summit z ≡ false → from_summit z ≡ false → Reads z (λ (h : Parts). h.below && (not (lt z 32·5) || h.tropo)) 14 53
  unfolding row_stored serves_of
  at_below z a f = record { made = λ t. row_below_of sw0 (footing_in t) z; row = λ xs. rw (a, f); asks = λ h. rw (a, f) }

  at_low : (z : Float) → above_summit z ≡ true → above_za z ≡ false → Reads z (λ (h : Parts). h.low) 67 84
  unfolding row_stored serves_of
  at_low z a b = record { made = λ t. low_row sw0 sw15 t z; row = λ xs. rw (a, b); asks = λ h. rw (a, b) }

  at_mid : (z : Float) → above_summit z ≡ true → above_za z ≡ true → below300 z ≡ true → Reads z (λ (h : Parts). h.mid) 151 36
  unfolding row_stored serves_of
  at_mid z a b c = record { made = λ t. row_over present_of sw0 sw15 (shape_in t) (roots_in t) z; row = λ xs. rw (a, b, c); asks = λ h. rw (a, b, c) }

  at_top : (z : Float) → above_summit z ≡ true → above_za z ≡ true → below300 z ≡ false → Reads z (λ (h : Parts). h.top) 187 36
  unfolding row_stored serves_of
  at_top z a b c = record { made = λ t. row_over present_of sw0 sw15 (shape_in t) (roots_in t) z; row = λ xs. rw (a, b, c); asks = λ h. rw (a, b, c) }

  -- s serves the parts p and xs the parts h; ys, which has each part of p from s and the rest from xs, serves both
  module _ (E : Float → List Float) (p h : Parts) (s xs ys : List Float) (new : Serves sw0 sw15 E p s) (old : Serves sw0 sw15 E h xs) (laid : Laid p s xs ys) where
    step : (z : Float) (which : Parts → Bool) (a n : ℕ) (b : Bool) → Reads z which a n → le z 2500·0 ≡ true
        → part a n ys ≡ cond b (part a n s) (part a n xs)
        → (b ≡ true → which p ≡ true)
        → (b ≡ false → which h ≡ true)
        → row_stored sw0 sw15 ys z ≡ E z
    step z which a n true r fits m there before = r.row ys ∙ ap r.made m ∙ sym (r.row s) ∙ new z fits (r.asks p ∙ there refl)
    step z which a n false r fits m there before = r.row ys ∙ ap r.made m ∙ sym (r.row xs) ∙ old z fits (r.asks h ∙ before refl)

    -- one part of either
    of_both : (a b : Bool) → (a || b) ≡ true → b ≡ false → a ≡ true
    of_both true b e f = refl
    of_both false b e f = absurd (false≢true (sym f ∙ e))

    -- the troposphere's nodes: a footing of p has them where h has; where p has no footing, h has p's
    module _ (more : p.below ≡ true → h.tropo ≡ true → p.tropo ≡ true) (less : p.below ≡ false → p.tropo ≡ true → h.tropo ≡ true) where
      below_new : (t a b c d : Bool) → (a || b) && (not t || (c || d)) ≡ true → (c ≡ true → d ≡ true) → b ≡ true → (b && (not t || d)) ≡ true
      below_new t a true c d e f g = go t c d e f
        where
          pass : (a : Bool) → (a || true) ≡ true
          pass true = refl
          pass false = refl

          go : (t c d : Bool) → (a || true) && (not t || (c || d)) ≡ true → (c ≡ true → d ≡ true) → (not t || d) ≡ true
          go false c d e f = refl
          go true true d e f = f refl
          go true false d e f = rw (pass a) at e
      below_new t a false c d e f g = absurd (false≢true g)

      below_old : (t a b c d : Bool) → (a || b) && (not t || (c || d)) ≡ true → (d ≡ true → c ≡ true) → b ≡ false → (a && (not t || c)) ≡ true
      below_old t true b c d e f g = go t c d e f
        where
          go : (t c d : Bool) → (not t || (c || d)) ≡ true → (d ≡ true → c ≡ true) → (not t || c) ≡ true
          go false c d e f = refl
          go true true d e f = refl
          go true false d e f = f e
      below_old t false true c d e f g = absurd (true≢false g)
      below_old t false false c d e f g = absurd (false≢true e)

      pub serves_both : Serves sw0 sw15 E (either_parts h p) ys
      unfolding either_parts
      serves_both z fits k = by (above_summit z) refl (from_summit z) refl (above_za z) refl (below300 z) refl
        where
          by : (a : Bool) → above_summit z ≡ a → (f : Bool) → from_summit z ≡ f → (b : Bool) → above_za z ≡ b → (c : Bool) → below300 z ≡ c → row_stored sw0 sw15 ys z ≡ E z
          by false ea false ef b eb c ec =
              let r = at_below z ea ef in
              let t = sym (r.asks (either_parts h p)) ∙ k in
              step z _ 14 53 p.below r fits laid.below
              (λ g. below_new (lt z 32·5) h.below p.below h.tropo p.tropo t (more g) g)
              (λ g. below_old (lt z 32·5) h.below p.below h.tropo p.tropo t (less g) g)
          by false ea true ef b eb c ec =
              let r = at_summit z ea ef in
              step z _ 223 11 p.summit r fits laid.summit (λ g. g) (of_both h.summit p.summit (sym (r.asks (either_parts h p)) ∙ k))
          by true ea f ef false eb c ec =
              let r = at_low z ea eb in
              step z _ 67 84 p.low r fits laid.low (λ g. g) (of_both h.low p.low (sym (r.asks (either_parts h p)) ∙ k))
          by true ea f ef true eb true ec =
              let r = at_mid z ea eb ec in
              step z _ 151 36 p.mid r fits laid.mid (λ g. g) (of_both h.mid p.mid (sym (r.asks (either_parts h p)) ∙ k))
          by true ea f ef true eb false ec =
              let r = at_top z ea eb ec in
              step z _ 187 36 p.top r fits laid.top (λ g. g) (of_both h.top p.top (sym (r.asks (either_parts h p)) ∙ k))
