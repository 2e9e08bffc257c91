-- Bytes written one after the other, the digits of a number, and the texts' lengths.
use mathlib.Core.Path.{◌≡◌, refl, sym, ap, ◌∙◌, subst}
use mathlib.Core.Bool.{true, false, true≢false}
use mathlib.Core.List.{List, [], ◌∷◌, ◌++◌, append_assoc, append-nil}
use Prim.Native.Nat.{ℕ, zero, suc, ◌+◌, ◌-◌, ◌*◌, ◌^◌, ◌/◌, ◌%◌, ◌<◌, ◌≤◌, zero-le}
use native.Mathlib.Omega.{arith}
use native.Mathlib.Numerals.{add-one}
use lib.Dec.{T}
use lib.ListN.{length, take, drop, get_or, length-append}
use lib.Seq.{take-suc, paste-zero, take_at, drop_at, length-take-le, drop-drop}
use native.Mathlib.Nat.{mod-eq_of_lt, le_trans, le_of_lt, add-zero, lt_of_not-le, pow-le-pow_right, pow-suc}
use Rattle.io.specs.Digits.{last_digits, hex_digit_ascii, IsDigitCount}
use lib.Ieee.{Float, nan, inf, fin, ne, is_nan, binary64, to_bits}
use lib.Ieee.Compare.{differs_from_itself, nan_differs}
use borrow.Author.Tests.{lt-ltb}
use Rattle.line_text.proofs.Choice.{cond_true}
use Rattle.line_text.proofs.DecimalDigits.{one_digit, more_digits}
use Rattle.line_text.specs.Text.{written, Writes, pattern_of, hex_in, hex_text, decimal_in, decimal_text, value_text, spaced_text, row_text, refused_text}

-- ---- bits

pub a_nan : (x : Float) → ne x x ≡ true → 0x7ff8_0000_0000_0000 ≡ pattern_of x
unfolding is_nan pattern_of
a_nan x h = rw (differs_from_itself x (subst T (sym h) tt))

pub ordered : (x : Float) → ne x x ≡ false → is_nan x ≡ false
unfolding is_nan
ordered nan h = absurd (true≢false (sym nan_differs ∙ h))
ordered (inf s) h = refl
ordered (fin s m e) h = refl

pub its_bits : (x : Float) → ne x x ≡ false → to_bits binary64 x ≡ pattern_of x
unfolding pattern_of
its_bits x h = rw (ordered x h)

-- ---- one text after the other

pub joined : (b c d s t : List ℕ) (at a r : ℕ) → at ≤ length b → Writes b at s c a → Writes c a t d r → Writes b at (s ++ t) d r
unfolding written
joined b c d s t at a r h v w =
    let head : List ℕ = take at b ++ s in
    let tail : List ℕ = drop (at + length s) b in
    let len : length head ≡ at + length s = length-append (take at b) s ∙ ap (λ (k : ℕ). k + length s) (length-take-le at b h) in
    let sum : at + length (s ++ t) ≡ at + length s + length t = simp length-append (omega arith) in
    let rest : drop (at + length s + length t) (head ++ tail) ≡ drop (at + length (s ++ t)) b =
    sym (drop-drop (length t) (at + length s) (head ++ tail)) ∙ (ap (λ (l : List ℕ). drop (length t) l) (drop_at head tail _ len) ∙ (drop-drop (length t) (at + length s) b ∙ ap (λ (k : ℕ). drop k b) (sym sum))) in
    let texts : (take at b ++ s) ++ t ≡ take at b ++ (s ++ t) = append_assoc (take at b) s t in (
      w.0 ∙ rw (v.1, v.0) (ap (λ (l : List ℕ). l ++ t ++ drop (at + length s + length t) (head ++ tail)) (take_at head tail _ len) ∙ (ap (λ (l : List ℕ). head ++ t ++ l) rest ∙ ap (λ (l : List ℕ). l ++ drop (at + length (s ++ t)) b) texts)),
      w.1 ∙ (ap (λ (k : ℕ). k + length t) v.1 ∙ sym sum),
    )

pub same_text : (b c s t : List ℕ) (at r : ℕ) → s ≡ t → Writes b at s c r → Writes b at t c r
same_text b c s t at r e w = rw e at w

-- ---- digits

length_digits : (b k n : ℕ) → length (last_digits b k n) ≡ k
length_digits b zero n = refl
length_digits b (suc k) n = length-append (last_digits b k (n / b)) _ ∙ (ap (λ (j : ℕ). j + 1) (length_digits b k (n / b)) ∙ add-one k)

hex_in_lem : (k n : ℕ) → last_digits 16 k n ≡ hex_in k n
unfolding hex_in
hex_in_lem zero n = refl
hex_in_lem (suc k) n = ap (λ (t : List ℕ). t ++ (hex_digit_ascii (n % 16) ∷ [])) (hex_in_lem k (n / 16))

pub hex_is : (x : Float) (n k : ℕ) (t : List ℕ) → n ≡ pattern_of x → k ≡ 16 → t ≡ last_digits 16 k n → t ≡ hex_text x
unfolding hex_text
hex_is x n k t e f g = g ∙ (hex_in_lem k n ∙ rw (f, e))

pub length_hex : (x : Float) → length (hex_text x) ≡ 16
unfolding hex_text
length_hex x = ap length (sym (hex_in_lem 16 (pattern_of x))) ∙ length_digits 16 16 (pattern_of x)

pub few : (b least n k top : ℕ) → 0 < b → least ≤ top → n < b ^ top → IsDigitCount b least n k → k ≤ top
few b least n k top z l h w = let g : k < suc top = lt_of_not-le none in omega arith
  where
    none : top < k → ⊥
    none g =
        let p : b ^ (k - 1) ≤ n = w.2 (omega arith) in
        let q : b ^ top ≤ b ^ (k - 1) = pow-le-pow_right z (omega arith) in
        omega arith

glyph_last : (n : ℕ) → hex_digit_ascii (n % 10) ∷ [] ≡ (48 + n % 10) ∷ []
glyph_last n = let g : n % 10 < 10 = omega arith in ap (λ (c : ℕ). c ∷ []) (sym (cond_true _ _ _ (lt-ltb (n % 10) 10 g)))

decimal_in_lem : (m j n : ℕ) → j ≤ m → n < 10 ^ suc j → (1 < suc j → 10 ^ j ≤ n) → last_digits 10 (suc j) n ≡ decimal_in m n
unfolding decimal_in
decimal_in_lem zero zero n h g l = glyph_last n ∙ ap (λ (d : ℕ). (48 + d) ∷ []) (mod-eq_of_lt g)
decimal_in_lem (suc m) zero n h g l = glyph_last n ∙ (ap (λ (d : ℕ). (48 + d) ∷ []) (mod-eq_of_lt g) ∙ sym (one_digit m n g))
decimal_in_lem zero (suc j) n h g l = absurd (none h)
  where
    none : suc j ≤ 0 → ⊥
    none i = omega arith
decimal_in_lem (suc m) (suc j) n h g l =
    let p : 10 ^ suc j ≤ n = l (omega arith) in
    let q : 10 ≤ n = le_trans (pow-le-pow_right {n = 10} (omega arith) {i = 1} {j = suc j} (omega arith)) p in
    let u : n / 10 < 10 ^ suc j = omega (arith, pow-suc 10 (suc j)) in
    let v : 10 ^ j ≤ n / 10 = omega (arith, pow-suc 10 j) in
    ap (λ (t : List ℕ). t ++ (hex_digit_ascii (n % 10) ∷ [])) (decimal_in_lem m j (n / 10) (omega arith) u (λ _. v))
    ∙ (ap (λ (t : List ℕ). decimal_in m (n / 10) ++ t) (glyph_last n) ∙ sym (more_digits m n q))

no_more_than : (j : ℕ) → j < 10 ^ j
no_more_than zero = omega arith
no_more_than (suc j) = omega (arith, pow-suc 10 j, no_more_than j)

pub decimal_is : (n k : ℕ) (t : List ℕ) → IsDigitCount 10 1 n k → t ≡ last_digits 10 k n → t ≡ decimal_text n
unfolding decimal_text
decimal_is n zero t w e = absurd (none w.0)
  where
    none : 1 ≤ 0 → ⊥
    none i = omega arith
decimal_is n (suc zero) t w e = e ∙ decimal_in_lem n 0 n zero-le w.1 (λ i. omega arith)
decimal_is n (suc (suc j)) t w e =
    let f : suc (suc j) - 1 ≡ suc j = omega arith in
    let l : 10 ^ suc j ≤ n = rw f at (w.2 (omega arith)) in
    e ∙ decimal_in_lem n (suc j) n (le_trans (le_of_lt (no_more_than (suc j))) l) w.1 (λ _. l)

-- ---- the answers' texts

pub nothing : (b : List ℕ) (at : ℕ) → Writes b at [] b at
unfolding written
nothing b at = (paste-zero b at [], sym (add-zero at))

spaced_append : (xs ys : List Float) → spaced_text (xs ++ ys) ≡ spaced_text xs ++ spaced_text ys
unfolding spaced_text
spaced_append [] ys = refl
spaced_append (x ∷ xs) ys = ap (λ (t : List ℕ). (32 ∷ []) ++ hex_text x ++ t) (spaced_append xs ys) ∙ sym (append_assoc ((32 ∷ []) ++ hex_text x) (spaced_text xs) (spaced_text ys))

pub spaced_more : (xs : List Float) (k : ℕ) → k < length xs
    → spaced_text (take k xs) ++ (32 ∷ []) ++ hex_text (get_or xs k nan) ≡ spaced_text (take (k + 1) xs)
unfolding spaced_text
spaced_more xs k h =
    append_assoc (spaced_text (take k xs)) (32 ∷ []) (hex_text (get_or xs k nan))
    ∙ (ap (λ (t : List ℕ). spaced_text (take k xs) ++ t) (sym (append-nil ((32 ∷ []) ++ hex_text (get_or xs k nan))))
    ∙ (sym (spaced_append (take k xs) (get_or xs k nan ∷ [])) ∙ rw (add-one, take-suc xs k nan)))

pub length_spaced : (xs : List Float) → length (spaced_text xs) ≡ 17 * length xs
unfolding spaced_text
length_spaced [] = refl
length_spaced (x ∷ xs) =
    simp (length-append, length_hex, length_spaced xs) (omega arith)

pub value_fits : (x : Float) → length (value_text x) ≤ 193
unfolding value_text
value_fits x = simp (length-append, length_hex) (omega arith)

pub row_fits : (xs : List Float) → length (spaced_text xs) ≡ 187 → length (row_text xs) ≤ 193
unfolding row_text
row_fits xs e = simp (length-append, e) (omega arith)

pub refused_fits : (n p : ℕ) → length (decimal_text n) ≤ 20 → length (decimal_text p) ≤ 20 → length (refused_text n p) ≤ 193
unfolding refused_text
refused_fits n p g h = simp length-append (omega arith)
