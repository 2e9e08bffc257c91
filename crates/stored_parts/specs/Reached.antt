-- Parts that are added when an altitude is reached: whether they serve it, and what they hold.
use Rattle.std.specs.Prelude.{ℕ, ◌*◌, ◌<◌, ◌≡◌, refl, Bool, true, false, cond, not, ◌&&◌, ◌||◌, eqb, ℤ, Float}
use Rattle.std.proofs.Common.{sym, ap, ◌∙◌, mul-pos, le_of_lt, arith, ltb-true, lt-ltb, le-ltb, ne_eqb}
use Rattle.std.proofs.lemmas.Bool.{false≢true}
use Rattle.std.specs.Float.{nan, inf, fin}
use Rattle.std.specs.Float.Ieee.{up, down, lt, le, eq, of_bits}
use Rattle.std.specs.Float.Ieee.Fits.{down_pos}
use Rattle.numbers.specs.Booleans.{and_both, both, or_left, or_right}
use Rattle.numbers.specs.Literals.{32·5, 72·5}
use Rattle.tables.specs.Tables.{pdl_t1}
use Rattle.stored_parts.specs.declared.Parts.{Parts}
use Rattle.stored_parts.specs.Parts.{above_summit, from_summit, above_za, below300, parts_at, no_parts, either_parts, serves_of, reached_of}
use Rattle.stored_parts.specs.Held.{PartsHold}

-- ---- the tests are in order: 32.5 km below 72.5 km, and that below za

lower : (z : Float) (n : ℕ) (d : ℤ) (n' : ℕ) (d' : ℤ)
    → 0 < n' * up d'
    → ((a c : ℕ) → 0 < c → a * down d < n * up d * c → a * down d' < n' * up d' * c)
    → lt z (fin false n d) ≡ true
    → le (fin false n' d') z ≡ false
unfolding lt le eq
lower nan n d n' d' p k h = absurd (false≢true h)
lower (inf true) n d n' d' p k h = refl
lower (inf false) n d n' d' p k h = absurd (false≢true h)
lower (fin true m e) n d n' d' p k h = rw (ne_eqb (n' * up d' * down e) 0 (λ z. absurd (none z))) (never (eqb (n' * up d' * down e) (m * up e * down d')))
  where
    none : n' * up d' * down e ≡ 0 → ⊥
    none z = omega (arith, mul-pos p (down_pos e))

    never : (b : Bool) → (b && false) ≡ false
    never true = refl
    never false = refl
lower (fin false m e) n d n' d' p k h =
    let f = k (m * up e) (down e) (down_pos e) (ltb-true (m * up e * down d) (n * up d * down e) h) in
    rw (le-ltb (n' * up d' * down e) (m * up e * down d') (le_of_lt f), ne_eqb (n' * up d' * down e) (m * up e * down d') (λ z. absurd (apart (m * up e * down d') (n' * up d' * down e) f z)))
  where
    apart : (a b : ℕ) → a < b → b ≡ a → ⊥
    apart a b g z = omega arith

higher : (z : Float) (n : ℕ) (d : ℤ) (n' : ℕ) (d' : ℤ)
    → ((a c : ℕ) → n' * up d' * c < a * down d' → n * up d * c < a * down d)
    → lt (fin false n' d') z ≡ true
    → lt (fin false n d) z ≡ true
unfolding lt
higher nan n d n' d' k h = absurd (false≢true h)
higher (inf true) n d n' d' k h = absurd (false≢true h)
higher (inf false) n d n' d' k h = refl
higher (fin true m e) n d n' d' k h = absurd (false≢true h)
higher (fin false m e) n d n' d' k h = lt-ltb (n * up d * down e) (m * up e * down d) (k (m * up e) (down e) (ltb-true (n' * up d' * down e) (m * up e * down d') h))

pub tropo_below : (z : Float) → lt z 32·5 ≡ true → from_summit z ≡ false
unfolding of_bits
tropo_below z h = lower z _ _ _ _ (omega arith) (λ a c p q. omega (arith, p, q)) h

pub za_above : (z : Float) → above_za z ≡ true → above_summit z ≡ true
unfolding of_bits pdl_t1
za_above z h = higher z _ _ _ _ (λ a c q. omega (arith, q)) h

summit_at_lem : (z : Float) → above_summit z ≡ true → from_summit z ≡ true
unfolding le
summit_at_lem z e = or_left (lt 72·5 z) (eq 72·5 z) e

-- ---- what serves an altitude holds its parts

not_both : {X : Type 0} (a : Bool) → a ≡ true → a ≡ false → X
not_both a e f = absurd (false≢true (sym f ∙ e))

here : (t h : Bool) → (not t || h) ≡ true → t ≡ true → h ≡ true
here true h e f = e
here false h e f = absurd (false≢true f)

pub serves_holds : (h : Parts) (z : Float) → serves_of h z ≡ true → PartsHold h (parts_at z)
unfolding serves_of parts_at
serves_holds h z s = by (above_summit z) refl (from_summit z) refl (above_za z) refl (below300 z) refl
  where
    -- below 72.5 km or at it no region above is read; above it nothing below is
    under : {X : Type 0} → above_summit z ≡ false → (b : Bool) → (above_za z && b) ≡ true → X
    under e b f = not_both (above_summit z) (za_above z (both (above_za z) b f).0) e

    not_tropo : {X : Type 0} → from_summit z ≡ true → lt z 32·5 ≡ true → X
    not_tropo e f = not_both (from_summit z) e (tropo_below z f)

    by : (a : Bool) → above_summit z ≡ a → (f : Bool) → from_summit z ≡ f → (b : Bool) → above_za z ≡ b → (c : Bool) → below300 z ≡ c → PartsHold h (parts_at z)
    by false ea false ef b eb c ec =
        let t = rw (ea, ef) at s in
        record {
          summit = λ e. not_both (from_summit z) (both (from_summit z) _ e).0 ef;
          below = λ e. (both h.below _ t).0;
          tropo = here (lt z 32·5) h.tropo (both h.below _ t).1;
          low = λ e. not_both (above_summit z) (both (above_summit z) _ e).0 ea;
          mid = under ea (below300 z);
          top = under ea (not (below300 z));
        }
    by false ea true ef b eb c ec =
        let t = rw (ea, ef) at s in
        record {
          summit = λ e. t;
          below = λ e. not_both (not (from_summit z)) e (ap not ef);
          tropo = not_tropo ef;
          low = λ e. not_both (above_summit z) (both (above_summit z) _ e).0 ea;
          mid = under ea (below300 z);
          top = under ea (not (below300 z));
        }
    by true ea f ef false eb c ec =
        let t = rw (ea, eb) at s in
        let g = summit_at_lem z ea in
        record {
          summit = λ e. not_both (not (above_summit z)) (both (from_summit z) _ e).1 (ap not ea);
          below = λ e. not_both (not (from_summit z)) e (ap not g);
          tropo = not_tropo g;
          low = λ e. t;
          mid = λ e. not_both (above_za z) (both (above_za z) _ e).0 eb;
          top = λ e. not_both (above_za z) (both (above_za z) _ e).0 eb;
        }
    by true ea f ef true eb true ec =
        let t = rw (ea, eb, ec) at s in
        let g = summit_at_lem z ea in
        record {
          summit = λ e. not_both (not (above_summit z)) (both (from_summit z) _ e).1 (ap not ea);
          below = λ e. not_both (not (from_summit z)) e (ap not g);
          tropo = not_tropo g;
          low = λ e. not_both (not (above_za z)) (both (above_summit z) _ e).1 (ap not eb);
          mid = λ e. t;
          top = λ e. not_both (not (below300 z)) (both (above_za z) _ e).1 (ap not ec);
        }
    by true ea f ef true eb false ec =
        let t = rw (ea, eb, ec) at s in
        let g = summit_at_lem z ea in
        record {
          summit = λ e. not_both (not (above_summit z)) (both (from_summit z) _ e).1 (ap not ea);
          below = λ e. not_both (not (from_summit z)) e (ap not g);
          tropo = not_tropo g;
          low = λ e. not_both (not (above_za z)) (both (above_summit z) _ e).1 (ap not eb);
          mid = λ e. not_both (below300 z) (both (above_za z) _ e).1 ec;
          top = λ e. t;
        }

-- ---- nothing serves no altitude, and what is reached serves its own

pub none_serves : (z : Float) → serves_of no_parts z ≡ false
unfolding serves_of no_parts
none_serves z = by (above_summit z) (from_summit z) (above_za z) (below300 z)
  where
    by : (a f b c : Bool) → cond (not a) (cond f false false) (cond (not b) false (cond c false false)) ≡ false
    by true f true true = refl
    by true f true false = refl
    by true f false c = refl
    by false true b c = refl
    by false false b c = refl

-- with what was there
pub reached_serves : (h : Parts) (z : Float) → serves_of (either_parts h (reached_of (parts_at z) h)) z ≡ true
unfolding serves_of either_parts reached_of parts_at
reached_serves h z = by (above_summit z) refl (from_summit z) refl (above_za z) refl (below300 z) refl
  where
    last : (a : Bool) → (a || true) ≡ true
    last true = refl
    last false = refl

    among : (t a : Bool) → (not t || (a || (t || a))) ≡ true
    among true true = refl
    among true false = refl
    among false a = refl

    by : (a : Bool) → above_summit z ≡ a → (f : Bool) → from_summit z ≡ f → (b : Bool) → above_za z ≡ b → (c : Bool) → below300 z ≡ c → serves_of (either_parts h (reached_of (parts_at z) h)) z ≡ true
    by false ea false ef b eb c ec = rw (ea, ef, last h.below) (among (lt z 32·5) h.tropo)
    by false ea true ef b eb c ec = rw (ea, ef) (last h.summit)
    by true ea f ef false eb c ec = rw (ea, eb) (last h.low)
    by true ea f ef true eb true ec = rw (ea, eb, ec) (last h.mid)
    by true ea f ef true eb false ec = rw (ea, eb, ec) (last h.top)

-- the troposphere's nodes are reached with the footing alone, and those that are there are among them
pub tropo_more : (q h : Parts) → (reached_of q h).below ≡ true → h.tropo ≡ true → (reached_of q h).tropo ≡ true
unfolding reached_of
tropo_more q h e f = or_right q.tropo (q.below && h.tropo) (and_both q.below h.tropo e f)

pub tropo_less : (z : Float) (h : Parts) → (reached_of (parts_at z) h).below ≡ false → (reached_of (parts_at z) h).tropo ≡ true → h.tropo ≡ true
unfolding reached_of parts_at
tropo_less z h e f = by (lt z 32·5) refl f
  where
    by : (t : Bool) → lt z 32·5 ≡ t → (t || (not (from_summit z) && h.tropo)) ≡ true → h.tropo ≡ true
    by true et g = not_both (not (from_summit z)) (ap not (tropo_below z et)) e
    by false et g = (both (not (from_summit z)) h.tropo g).1
