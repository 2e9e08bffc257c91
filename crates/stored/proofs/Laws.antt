-- Parts written one behind the other, and what they are.
use Prim.Native.Nat.{ℕ, ◌+◌, ◌≤◌}
use mathlib.Core.Path.{◌≡◌, refl, sym, ap, ap₂, ◌∙◌}
use mathlib.Core.Bool.{Bool, true, false, cond, not}
use mathlib.Core.List.{List, [], ◌++◌, append_assoc, append-nil}
use native.Mathlib.Omega.{arith}
use borrow.Author.Tests.{not-true, not-false}
use borrow.Rule.Slice.PartMut.{put_mid}
use lib.ListN.{length, take, drop, replicate, take-append-drop, length-drop}
use lib.Seq.{length-take-le, take-append-le, take_at, drop_at, drop-drop, drop-length}
use lib.Ieee.{Float}
use Rattle.numbers.specs.Arithmetic.{◌‼◌}
use Rattle.numbers.specs.Literals.{0·0, 72·5, 100·0, 200·0, 300·0}
use Rattle.elementary.specs.Log.{log_of}
use Rattle.layers.specs.declared.Span.{Span}
use Rattle.places.specs.declared.place.Spine.{Spine}
use Rattle.plan.specs.declared.ExpansionValues.{ExpansionValues}
use Rattle.plan.specs.Plan.{told, answer_to}
use Rattle.profile.specs.declared.unchecked.Shape.{Shape}
use Rattle.species.specs.Places.{spine_at}
use Rattle.gts7_arithmetic.specs.declared.Site.{Site}
use Rattle.gts7_arithmetic.specs.Gts7Arithmetic.{anomalous_of}
use Rattle.stages.specs.Stages.{shape_plan}
use Rattle.region.specs.declared.Bases.{Bases}
use Rattle.region.specs.declared.Roots.{Roots}
use Rattle.region.specs.Region.{bases_of, roots_of}
use Rattle.footing.specs.declared.Footing.{Footing}
use Rattle.footing.specs.Footing.{footing_of, row_below_of}
use Rattle.atmosphere.specs.Atmosphere.{eleven_from}
use Rattle.stored_parts.specs.declared.Parts.{Parts}
use Rattle.stored_parts.specs.Parts.{above_summit, from_summit, above_za, below_za, below300}
use Rattle.stored.specs.Stored.{part, region_numbers, spine_numbers, span_numbers, ground_numbers, footing_numbers, spine_in, footing_in, over_in, under_in, region_stored, low_stored, footing_stored, summit_stored, stored_of, stored_in, low_row, row_stored}
use Rattle.stored.specs.Rows.{grown, footing_length, low_length, region_length, numbers_36, numbers_24}
use Rattle.stored.specs.Reached.{chosen_length}

-- a row behind what is done
next : (done row xs out : List Float) (k m : ℕ) → length done ≡ k → out ≡ done ++ drop k xs → put_mid k m out row ≡ (done ++ row) ++ drop (k + m) xs
next done row xs out k m len e =
    let X = drop k xs in
    rw (e, take_at done X k len, drop_at done X k len, drop-drop) (sym (append_assoc done row (drop (k + m) xs)))

nothing_left : (xs : List Float) (n : ℕ) → length xs ≡ n → drop n xs ≡ []
nothing_left xs n e = ap (λ (k : ℕ). drop k xs) (sym e) ∙ drop-length xs

-- three parts that fill a slice
pub three_laid : (out a b c : List Float) (i j k : ℕ) → length out ≡ i + j + k → length a ≡ i → length b ≡ j
    → put_mid (i + j) k (put_mid i j (put_mid 0 i out a) b) c ≡ a ++ (b ++ c)
three_laid out a b c i j k len ea eb =
    let z : 0 + i ≡ i = omega arith in
    let one : put_mid 0 i out a ≡ a ++ drop i out = next [] a out out 0 i refl refl ∙ ap (λ (k : ℕ). a ++ drop k out) z in
    let two = next a b out _ i j ea one in
    next (a ++ b) c out _ (i + j) k (grown a b i j ea eb) two
    ∙ ap (λ (r : List Float). ((a ++ b) ++ c) ++ r) (nothing_left out (i + j + k) len)
    ∙ append-nil ((a ++ b) ++ c)
    ∙ append_assoc a b c

low_is : (on : Bool) (sw : List Float) (x : Site) (l : ExpansionValues) (d : Bases) (h : Shape) (s k : Spine) (q : Roots) (g : Shape)
    → not on ≡ false
    → h ≡ told (answer_to l) (shape_plan sw x 100·0)
    → s ≡ spine_at h
    → q ≡ roots_of h x d
    → g ≡ anomalous_of h
    → k ≡ spine_at g
    → region_numbers h q ++ (spine_numbers s ++ spine_numbers k) ≡ low_stored on sw x l d
unfolding low_stored
low_is on sw x l d h s k q g o e0 e1 e2 e3 e4 = simp (o, e4, e3, e2, e1, e0)

pub low_law : (on : Bool) (sw : List Float) (x : Site) (l : ExpansionValues) (d : Bases) (out r1 r2 r3 a b c : List Float) (h : Shape) (s k : Spine) (q : Roots) (g : Shape)
    → length out ≡ 84
    → r1 ≡ a → r2 ≡ b → r3 ≡ c
    → a ≡ region_numbers h q → b ≡ spine_numbers s → c ≡ spine_numbers k
    → not on ≡ false
    → h ≡ told (answer_to l) (shape_plan sw x 100·0)
    → s ≡ spine_at h
    → q ≡ roots_of h x d
    → g ≡ anomalous_of h
    → k ≡ spine_at g
    → put_mid 60 24 (put_mid 36 24 (put_mid 0 36 out r1) r2) r3 ≡ low_stored on sw x l d
low_law on sw x l d out r1 r2 r3 a b c h s k q g len f1 f2 f3 ea eb ec o e0 e1 e2 e3 e4 =
    rw (f1, f2, f3, ea, eb, ec)
    (three_laid out (region_numbers h q) (spine_numbers s) (spine_numbers k) 36 24 24 len (numbers_36 h q) (numbers_24 s) ∙ low_is on sw x l d h s k q g o e0 e1 e2 e3 e4)

ground_17 : (f : Footing) → length (ground_numbers f) ≡ 17
unfolding ground_numbers
ground_17 f = refl

span_18 : (s : Span) → length (span_numbers s) ≡ 18
unfolding span_numbers
span_18 s = refl

footing_is : (on : Bool) (sw : List Float) (x : Site) (l : ExpansionValues) (tropo : Bool) (f : Footing) → not on ≡ false → f ≡ footing_of sw x l tropo
    → ground_numbers f ++ (span_numbers f.curves.upper ++ span_numbers f.curves.lower) ≡ footing_stored on sw x l tropo
unfolding footing_stored footing_numbers
footing_is on sw x l tropo f o e = simp (o, e)

pub footing_law : (on : Bool) (sw : List Float) (x : Site) (l : ExpansionValues) (tropo : Bool) (out r1 r2 r3 a b c : List Float) (f : Footing)
    → length out ≡ 53
    → r1 ≡ a → r2 ≡ b → r3 ≡ c
    → a ≡ ground_numbers f → b ≡ span_numbers f.curves.upper → c ≡ span_numbers f.curves.lower
    → not on ≡ false
    → f ≡ footing_of sw x l tropo
    → put_mid 35 18 (put_mid 17 18 (put_mid 0 17 out r1) r2) r3 ≡ footing_stored on sw x l tropo
footing_law on sw x l tropo out r1 r2 r3 a b c f len f1 f2 f3 ea eb ec o e =
    rw (f1, f2, f3, ea, eb, ec)
    (three_laid out (ground_numbers f) (span_numbers f.curves.upper) (span_numbers f.curves.lower) 17 18 18 len (ground_17 f) (span_18 f.curves.upper) ∙ footing_is on sw x l tropo f o e)

-- five parts behind the record's fourteen numbers, with nothing left of the slice
five_laid : (r a b c d e out : List Float) → length out ≡ 234 → (((((r ++ a) ++ b) ++ c) ++ d) ++ e) ++ drop 234 out ≡ r ++ (a ++ (b ++ (c ++ (d ++ e))))
five_laid r a b c d e out len =
    ap (λ (t : List Float). (((((r ++ a) ++ b) ++ c) ++ d) ++ e) ++ t) (nothing_left out 234 len)
    ∙ append-nil (((((r ++ a) ++ b) ++ c) ++ d) ++ e)
    ∙ append_assoc (((r ++ a) ++ b) ++ c) d e
    ∙ append_assoc ((r ++ a) ++ b) c (d ++ e)
    ∙ append_assoc (r ++ a) b (c ++ (d ++ e))
    ∙ append_assoc r a (b ++ (c ++ (d ++ e)))

-- the row at 72.5 km, where it is asked for and where not
module _ (on : Bool) (sw : List Float) (x : Site) (l : ExpansionValues) (row : List Float) where
  pub no_summit : not on ≡ true → row ≡ replicate 11 0·0 → row ≡ summit_stored on sw x l
  unfolding summit_stored
  no_summit o e = rw o e

  pub summit_row : not on ≡ false → row ≡ eleven_from sw x l 72·5 → row ≡ summit_stored on sw x l
  unfolding summit_stored
  summit_row o e = rw o e

-- the part below 72.5 km, before what is done
first_laid : (out F X : List Float) → length out ≡ 234 → put_mid 14 53 (take 67 out ++ X) F ≡ take 14 out ++ (F ++ X)
first_laid out F X len =
    let R = take 67 out in
    let Q = R ++ X in
    let r67 : length R ≡ 67 = length-take-le 67 out (omega (arith, len)) in
    let start : take 14 Q ≡ take 14 out =
    take-append-le 14 R X (rw r67 (omega arith)) ∙ sym (take-append-le 14 R (drop 67 out) (rw r67 (omega arith))) ∙ ap (λ (t : List Float). take 14 t) (take-append-drop 67 out) in
    let r14 : length (take 14 Q) ≡ 14 = ap length start ∙ length-take-le 14 out (omega (arith, len)) in
    next (take 14 Q) F Q Q 14 53 r14 (sym (take-append-drop 14 Q))
    ∙ ap₂ (λ (t r : List Float). (t ++ F) ++ r) start (drop_at R X 67 r67)
    ∙ append_assoc (take 14 out) F X

-- four parts behind the first 67 numbers, with nothing left of the slice
four_laid : (r b c d e out : List Float) → length out ≡ 234 → ((((r ++ b) ++ c) ++ d) ++ e) ++ drop 234 out ≡ r ++ (b ++ (c ++ (d ++ e)))
four_laid r b c d e out len =
    ap (λ (t : List Float). ((((r ++ b) ++ c) ++ d) ++ e) ++ t) (nothing_left out 234 len)
    ∙ append-nil ((((r ++ b) ++ c) ++ d) ++ e)
    ∙ append_assoc ((r ++ b) ++ c) d e
    ∙ append_assoc (r ++ b) c (d ++ e)
    ∙ append_assoc r b (c ++ (d ++ e))

pub store_law : (p : Parts) (sw : List Float) (x : Site) (l : ExpansionValues) (out r1 r2 r3 r4 r5 a3 a4 : List Float) (d : Bases)
    → length out ≡ 234
    → r1 ≡ footing_stored p.below sw x l p.tropo
    → r2 ≡ low_stored p.low sw x l d
    → r3 ≡ a3 → r4 ≡ a4
    → r5 ≡ summit_stored p.summit sw x l
    → a3 ≡ region_stored p.mid sw x l d 200·0
    → a4 ≡ region_stored p.top sw x l d 300·0
    → d ≡ bases_of (sw ‼ 21) l
    → put_mid 14 53 (put_mid 223 11 (put_mid 187 36 (put_mid 151 36 (put_mid 67 84 out r2) r3) r4) r5) r1 ≡ take 14 out ++ stored_of p sw x l
unfolding stored_of
store_law p sw x l out r1 r2 r3 r4 r5 a3 a4 d len e1 e2 f3 f4 e5 e3 e4 ed =
    let F = footing_stored p.below sw x l p.tropo in
    let L = low_stored p.low sw x l (bases_of (sw ‼ 21) l) in
    let M = region_stored p.mid sw x l (bases_of (sw ‼ 21) l) 200·0 in
    let U = region_stored p.top sw x l (bases_of (sw ‼ 21) l) 300·0 in
    let S = summit_stored p.summit sw x l in
    let R = take 67 out in
    let r67 : length R ≡ 67 = length-take-le 67 out (omega (arith, len)) in
    let r151 = grown R L 67 84 r67 (low_length p.low sw x l (bases_of (sw ‼ 21) l)) in
    let r187 = grown (R ++ L) M 151 36 r151 (region_length p.mid sw x l (bases_of (sw ‼ 21) l) 200·0) in
    let r223 = grown ((R ++ L) ++ M) U 187 36 r187 (region_length p.top sw x l (bases_of (sw ‼ 21) l) 300·0) in
    let two = next R L out out 67 84 r67 (sym (take-append-drop 67 out)) in
    let three = next (R ++ L) M out _ 151 36 r151 two in
    let four = next ((R ++ L) ++ M) U out _ 187 36 r187 three in
    let five = next (((R ++ L) ++ M) ++ U) S out _ 223 11 r223 four ∙ four_laid R L M U S out len in
    rw (e1, e2, f3, f4, e5, e3, e4, ed)
    (ap (λ (t : List Float). put_mid 14 53 t F) five ∙ first_laid out F (L ++ (M ++ (U ++ S))) len)

-- a part that is not asked for stays, another is put
pub unasked : (on : Bool) (f xs : List Float) → not on ≡ true → xs ≡ cond on f xs
unasked on f xs e = rw (not-true on e)

pub asked : (on : Bool) (f ys xs : List Float) → not on ≡ false → ys ≡ f → ys ≡ cond on f xs
asked on f ys xs e g = rw (not-false on e) g

-- what lies behind what is done
slice_of : (done xs out : List Float) (k m : ℕ) → length done ≡ k → out ≡ done ++ drop k xs → take m (drop k out) ≡ part k m xs
slice_of done xs out k m len e = rw (e, drop_at done (drop k xs) k len)

-- five parts, each put or as it was
pub store_in_law : (p : Parts) (sw : List Float) (x : Site) (l : ExpansionValues) (out r1 r2 r3 r4 r5 : List Float) (d : Bases)
    → length out ≡ 234
    → r1 ≡ cond p.below (footing_stored true sw x l p.tropo) (part 14 53 out)
    → r2 ≡ cond p.low (low_stored true sw x l d) (part 67 84 (put_mid 14 53 out r1))
    → r3 ≡ cond p.mid (region_stored true sw x l d 200·0) (part 151 36 (put_mid 67 84 (put_mid 14 53 out r1) r2))
    → r4 ≡ cond p.top (region_stored true sw x l d 300·0) (part 187 36 (put_mid 151 36 (put_mid 67 84 (put_mid 14 53 out r1) r2) r3))
    → r5 ≡ cond p.summit (summit_stored true sw x l) (part 223 11 (put_mid 187 36 (put_mid 151 36 (put_mid 67 84 (put_mid 14 53 out r1) r2) r3) r4))
    → d ≡ bases_of (sw ‼ 21) l
    → put_mid 223 11 (put_mid 187 36 (put_mid 151 36 (put_mid 67 84 (put_mid 14 53 out r1) r2) r3) r4) r5 ≡ stored_in p sw x l out
unfolding stored_in
store_in_law p sw x l out r1 r2 r3 r4 r5 d len e1 e2 e3 e4 e5 ed =
    let k = bases_of (sw ‼ 21) l in
    let A = cond p.below (footing_stored true sw x l p.tropo) (part 14 53 out) in
    let B = cond p.low (low_stored true sw x l k) (part 67 84 out) in
    let C = cond p.mid (region_stored true sw x l k 200·0) (part 151 36 out) in
    let D = cond p.top (region_stored true sw x l k 300·0) (part 187 36 out) in
    let E = cond p.summit (summit_stored true sw x l) (part 223 11 out) in
    let R = take 14 out in
    let r14 : length R ≡ 14 = length-take-le 14 out (omega (arith, len)) in
    let r67 = grown R A 14 53 r14 (chosen_length p.below _ out 14 53 (footing_length true sw x l p.tropo) (omega (arith, len))) in
    let r151 = grown (R ++ A) B 67 84 r67 (chosen_length p.low _ out 67 84 (low_length true sw x l k) (omega (arith, len))) in
    let r187 = grown ((R ++ A) ++ B) C 151 36 r151 (chosen_length p.mid _ out 151 36 (region_length true sw x l k 200·0) (omega (arith, len))) in
    let r223 = grown (((R ++ A) ++ B) ++ C) D 187 36 r187 (chosen_length p.top _ out 187 36 (region_length true sw x l k 300·0) (omega (arith, len))) in
    let P1 = put_mid 14 53 out r1 in
    let P2 = put_mid 67 84 P1 r2 in
    let P3 = put_mid 151 36 P2 r3 in
    let P4 = put_mid 187 36 P3 r4 in
    let one : P1 ≡ (R ++ A) ++ drop 67 out = ap (put_mid 14 53 out) e1 ∙ next R A out out 14 53 r14 (sym (take-append-drop 14 out)) in
    let f2 : r2 ≡ B = e2 ∙ ap₂ (λ (b : Bases) (t : List Float). cond p.low (low_stored true sw x l b) t) ed (slice_of (R ++ A) out P1 67 84 r67 one) in
    let two : P2 ≡ ((R ++ A) ++ B) ++ drop 151 out = ap (put_mid 67 84 P1) f2 ∙ next (R ++ A) B out P1 67 84 r67 one in
    let f3 : r3 ≡ C = e3 ∙ ap₂ (λ (b : Bases) (t : List Float). cond p.mid (region_stored true sw x l b 200·0) t) ed (slice_of ((R ++ A) ++ B) out P2 151 36 r151 two) in
    let three : P3 ≡ (((R ++ A) ++ B) ++ C) ++ drop 187 out = ap (put_mid 151 36 P2) f3 ∙ next ((R ++ A) ++ B) C out P2 151 36 r151 two in
    let f4 : r4 ≡ D = e4 ∙ ap₂ (λ (b : Bases) (t : List Float). cond p.top (region_stored true sw x l b 300·0) t) ed (slice_of (((R ++ A) ++ B) ++ C) out P3 187 36 r187 three) in
    let four : P4 ≡ ((((R ++ A) ++ B) ++ C) ++ D) ++ drop 223 out = ap (put_mid 187 36 P3) f4 ∙ next (((R ++ A) ++ B) ++ C) D out P3 187 36 r187 three in
    let f5 : r5 ≡ E = e5 ∙ ap (λ (t : List Float). cond p.summit (summit_stored true sw x l) t) (slice_of ((((R ++ A) ++ B) ++ C) ++ D) out P4 223 11 r223 four) in
    ap (put_mid 223 11 P4) f5
    ∙ next ((((R ++ A) ++ B) ++ C) ++ D) E out P4 223 11 r223 four
    ∙ five_laid R A B C D E out len

-- a spine that was read has its logarithm
pub spine_logged : (xs : List Float) (s : Spine) → s ≡ spine_in xs → s.lt ≡ log_of s.rt
unfolding spine_in
spine_logged xs s e = rw e

-- ---- the row, by the way that an altitude takes

-- the start of a part
front : (xs : List Float) → length xs ≡ 234 → part 0 36 (part 67 84 xs) ≡ part 67 36 xs
front xs len =
    let ys = drop 67 xs in
    let more : 84 ≤ length ys = rw (length-drop 67 xs) (omega (arith, len)) in
    let most : 36 ≤ length (take 84 ys) = rw (length-take-le 84 ys more) (omega arith) in
    sym (take-append-le 36 (take 84 ys) (drop 84 ys) most) ∙ ap (λ (t : List Float). take 36 t) (take-append-drop 84 ys)

module _ (sw0 sw15 : Float) (xs : List Float) (alt : Float) (row : List Float) (above : Bool) (ea : above ≡ above_summit alt) where
  pub summit_way : (reached : Bool) → reached ≡ from_summit alt → not above ≡ true → reached ≡ true → row ≡ part 223 11 xs → row ≡ row_stored sw0 sw15 xs alt
  unfolding row_stored
  summit_way reached er t f e = rw (ap not (sym ea) ∙ t, sym er ∙ f) e

  pub ground_way : (reached : Bool) → reached ≡ from_summit alt → not above ≡ true → reached ≡ false → row ≡ row_below_of sw0 (footing_in (part 14 53 xs)) alt → row ≡ row_stored sw0 sw15 xs alt
  unfolding row_stored
  ground_way reached er t f e = rw (ap not (sym ea) ∙ t, sym er ∙ f) e

  module _ (high : Bool) (eh : high ≡ above_za alt) (t : not above ≡ false) where
    pub under_way : (under : Bool) → under ≡ below_za alt → not high ≡ true → under ≡ true → row ≡ under_in sw0 sw15 (part 67 84 xs) alt → row ≡ row_stored sw0 sw15 xs alt
    unfolding row_stored low_row
    under_way under eu f g e = rw (ap not (sym ea) ∙ t, ap not (sym eh) ∙ f, sym eu ∙ g) e

    pub za_way : (under : Bool) → under ≡ below_za alt → length xs ≡ 234 → not high ≡ true → under ≡ false → row ≡ over_in sw0 sw15 (part 67 36 xs) alt → row ≡ row_stored sw0 sw15 xs alt
    unfolding row_stored low_row
    za_way under eu len f g e = rw (ap not (sym ea) ∙ t, ap not (sym eh) ∙ f, sym eu ∙ g) (e ∙ ap (λ (s : List Float). over_in sw0 sw15 s alt) (sym (front xs len)))

    pub mid_way : (lower : Bool) → lower ≡ below300 alt → not high ≡ false → lower ≡ true → row ≡ over_in sw0 sw15 (part 151 36 xs) alt → row ≡ row_stored sw0 sw15 xs alt
    unfolding row_stored
    mid_way lower el f g e = rw (ap not (sym ea) ∙ t, ap not (sym eh) ∙ f, sym el ∙ g) e

    pub top_way : (lower : Bool) → lower ≡ below300 alt → not high ≡ false → lower ≡ false → row ≡ over_in sw0 sw15 (part 187 36 xs) alt → row ≡ row_stored sw0 sw15 xs alt
    unfolding row_stored
    top_way lower el f g e = rw (ap not (sym ea) ∙ t, ap not (sym eh) ∙ f, sym el ∙ g) e

pub region_law : (on : Bool) (sw : List Float) (x : Site) (l : ExpansionValues) (d : Bases) (z : Float) (r : List Float) (h : Shape) (q : Roots)
    → r ≡ region_numbers h q
    → q ≡ roots_of h x d
    → h ≡ told (answer_to l) (shape_plan sw x z)
    → not on ≡ false
    → r ≡ region_stored on sw x l d z
unfolding region_stored
region_law on sw x l d z r h q e0 e1 e2 o = rw (o, e0, e1, e2)
