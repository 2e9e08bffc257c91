-- What the answer of the second one-altitude call means for its nine constants.
use Rattle.std.specs.Prelude.{ℕ, ◌*◌, ◌≤◌, ◌≡◌, refl, Bool, true, false, cond, not, ◌&&◌, ◌||◌, List, [], ◌∷◌, eqb, ltb, ℤ, Ok, Err, Float}
use Rattle.std.proofs.Common.{ap, true≢false, le_antisymm, ltb-false, eqb-true, eq-eqb}
use Rattle.std.proofs.lemmas.Bool.{false≢true, not-false}
use Rattle.std.specs.Float.{nan, inf, fin}
use Rattle.std.specs.Float.Ieee.{up, down, lt, le, eq, of_bits}
use Rattle.numbers.specs.Literals.{0·0, 72·5}
use Rattle.numbers.specs.Tests.{finite_of}
use Rattle.numbers.specs.Booleans.{neither}
use Rattle.parameters.specs.declared.Parameters.{Parameters}
use Rattle.parameters.specs.Parameters.{present_of}
use Rattle.refusals.specs.Refusals.{Accepted, Answer, Refused, accepted_of}
use Rattle.refusals.specs.declared.Reason.TheVariants.{ConstantUnfit, NotMixed, WrongLength}
use Rattle.setting.specs.declared.Input.{Input}
use Rattle.setting.specs.Switches.{given, is_one}
use Rattle.acceptance.specs.Acceptance.{lowest, judged_of, unmixed_of, record_answer}
use Rattle.parameter_answer.specs.ParameterAnswer.{unfit_value, of_species, first_unfit, one_of_nine, unmixed_with, answer_with}

-- ---- 'the record of these gives the present answers'

present_fit : first_unfit present_of ≡ 10
unfolding first_unfit present_of unfit_value of_species finite_of lt eq of_bits
present_fit = refl

and_exchanged : (a b : Bool) → (a && (not b || false)) ≡ (not b && a)
and_exchanged true true = refl
and_exchanged true false = refl
and_exchanged false true = refl
and_exchanged false false = refl

present_unmixed : (one : Bool) (z : Float) → unmixed_with present_of one z ≡ unmixed_of one z
unfolding unmixed_with unmixed_of present_of lt of_bits
present_unmixed one z = and_exchanged (lt z 72·5) one

-- with the present nine the answer is the one-altitude call's
pub present_answer : (w : List ℤ) (n : Input) (len : ℕ)
    → answer_with present_of w n len ≡ cond (not (eqb len 11)) (Refused WrongLength 11) (record_answer w n)
unfolding answer_with record_answer one_of_nine
present_answer w n len = rw (present_fit, present_unmixed (is_one (given w 15)) n.alt) refl

-- ---- what is accepted

-- each test in turn, none of which fits
none_fits : (a b : Bool) (j : Answer) (u : Bool) (k : ℕ)
    → accepted_of (cond a (Refused ConstantUnfit k) (cond b (Refused WrongLength 11) (cond (not (accepted_of j)) j (cond u (Refused NotMixed 3) Accepted)))) ≡ true
    → (a ≡ false) × (b ≡ false) × (j ≡ Accepted) × (u ≡ false)
none_fits true b j u k h = absurd (false≢true h)
none_fits false true j u k h = absurd (false≢true h)
none_fits false false (Err r) u k h = absurd (false≢true h)
none_fits false false (Ok v) true k h = absurd (false≢true h)
none_fits false false (Ok v) false k h = (refl, refl, refl, refl)

-- a constant is fit: finite and above 0
abbrev pub PositiveFinite : Float → Type 0
PositiveFinite x = (finite_of x ≡ true) × (lt 0·0 x ≡ true)

-- all nine are, and mixed air has no species' mass
pub record FitNine (c : Parameters) : Type 0 where
  pub rgas : PositiveFinite c.rgas
  pub xmm : PositiveFinite c.xmm
  pub own : of_species c.xmm ≡ false
  pub he : PositiveFinite c.he
  pub o : PositiveFinite c.o
  pub n2 : PositiveFinite c.n2
  pub o2 : PositiveFinite c.o2
  pub ar : PositiveFinite c.ar
  pub h : PositiveFinite c.h
  pub n : PositiveFinite c.n

nine : (a b c d e f g h i : Bool) → ltb (lowest 1 (a ∷ b ∷ c ∷ d ∷ e ∷ f ∷ g ∷ h ∷ i ∷ []) 10) 10 ≡ false
    → (a ≡ false) × (b ≡ false) × (c ≡ false) × (d ≡ false) × (e ≡ false) × (f ≡ false) × (g ≡ false) × (h ≡ false) × (i ≡ false)
    × (lowest 1 (a ∷ b ∷ c ∷ d ∷ e ∷ f ∷ g ∷ h ∷ i ∷ []) 10 ≡ 10)
nine true b c d e f g h i t = absurd (true≢false t)
nine false true c d e f g h i t = absurd (true≢false t)
nine false false true d e f g h i t = absurd (true≢false t)
nine false false false true e f g h i t = absurd (true≢false t)
nine false false false false true f g h i t = absurd (true≢false t)
nine false false false false false true g h i t = absurd (true≢false t)
nine false false false false false false true h i t = absurd (true≢false t)
nine false false false false false false false true i t = absurd (true≢false t)
nine false false false false false false false false true t = absurd (true≢false t)
nine false false false false false false false false false t = (refl, refl, refl, refl, refl, refl, refl, refl, refl, refl)

neither_not : (p q : Bool) → (not p || not q) ≡ false → (p ≡ true) × (q ≡ true)
neither_not true true t = (refl, refl)
neither_not true false t = absurd (true≢false t)
neither_not false q t = absurd (true≢false t)

positive_finite : (x : Float) → unfit_value x ≡ false → PositiveFinite x
unfolding unfit_value
positive_finite x t = neither_not (finite_of x) (lt 0·0 x) t

module _ (c : Parameters) (t : one_of_nine (first_unfit c) ≡ false) where
  tested : (unfit_value c.rgas ≡ false) × ((unfit_value c.xmm || of_species c.xmm) ≡ false) × (unfit_value c.he ≡ false)
      × (unfit_value c.o ≡ false) × (unfit_value c.n2 ≡ false) × (unfit_value c.o2 ≡ false) × (unfit_value c.ar ≡ false)
      × (unfit_value c.h ≡ false) × (unfit_value c.n ≡ false) × (first_unfit c ≡ 10)
  unfolding one_of_nine first_unfit
  tested =
      nine (unfit_value c.rgas) (unfit_value c.xmm || of_species c.xmm) (unfit_value c.he) (unfit_value c.o) (unfit_value c.n2)
      (unfit_value c.o2) (unfit_value c.ar) (unfit_value c.h) (unfit_value c.n) t

  fit_nine : FitNine c
  fit_nine =
      let m = neither (unfit_value c.xmm) (of_species c.xmm) tested.1 in
      record {
        rgas = positive_finite c.rgas tested.0;
        xmm = positive_finite c.xmm m.0;
        own = m.1;
        he = positive_finite c.he tested.2;
        o = positive_finite c.o tested.3;
        n2 = positive_finite c.n2 tested.4;
        o2 = positive_finite c.o2 tested.5;
        ar = positive_finite c.ar tested.6;
        h = positive_finite c.h tested.7;
        n = positive_finite c.n tested.8;
      }

-- a positive number that is not below another is at or above it
upto : (a b : ℕ) (t : Bool) → ltb b a ≡ t → b ≤ a → (t || (eqb b a && true)) ≡ true
upto a b true e h = refl
upto a b false e h = rw (eq-eqb b a (le_antisymm h (ltb-false b a e))) refl

at_or_above : (x : Float) (n : ℕ) (d : ℤ) → finite_of x ≡ true → lt 0·0 x ≡ true → lt x (fin false n d) ≡ false → le (fin false n d) x ≡ true
unfolding lt le eq finite_of of_bits
at_or_above nan n d f p h = absurd (false≢true f)
at_or_above (inf s) n d f p h = absurd (false≢true f)
at_or_above (fin true m e) n d f p h = absurd (false≢true p)
at_or_above (fin false m e) n d f p h = upto (m * up e * down d) (n * up d * down e) _ refl (ltb-false (m * up e * down d) (n * up d * down e) h)

at_72·5 : (x : Float) → PositiveFinite x → lt x 72·5 ≡ false → le 72·5 x ≡ true
unfolding of_bits
at_72·5 x f h = at_or_above x _ _ f.0 f.1 h

mixed : (a b c : Bool) → a ≡ true → (a && (not b || c)) ≡ false → (b ≡ true) × (c ≡ false)
mixed true true c e t = (refl, t)
mixed true false c e t = absurd (true≢false t)
mixed false b c e t = absurd (false≢true e)

module _ (c : Parameters) (w : List ℤ) (n : Input) (len : ℕ) (e : answer_with c w n len ≡ Accepted) where
  parts : (one_of_nine (first_unfit c) ≡ false) × (not (eqb len 11) ≡ false) × (judged_of w n ≡ Accepted) × (unmixed_with c (is_one (given w 15)) n.alt ≡ false)
  unfolding answer_with
  parts =
      none_fits (one_of_nine (first_unfit c)) (not (eqb len 11)) (judged_of w n) (unmixed_with c (is_one (given w 15)) n.alt) (first_unfit c)
      (ap accepted_of e)

  -- none of the nine is unfit: each is finite and above 0, and mixed air has no species' mass
  pub accepted_ten : first_unfit c ≡ 10
  accepted_ten = (tested c parts.0).9

  pub accepted_fit : FitNine c
  accepted_fit = fit_nine c parts.0

  -- the row has eleven numbers, and the record meets none of 2, 1 and 3
  pub accepted_length : len ≡ 11
  accepted_length = eqb-true len 11 (not-false (eqb len 11) parts.1)

  pub accepted_judged : judged_of w n ≡ Accepted
  accepted_judged = parts.2

  -- below 72.5 km switch 15 is 1, and N2 is mixed as far as 72.5 km at least
  pub accepted_low : lt n.alt 72·5 ≡ true → (is_one (given w 15) ≡ true) × (le 72·5 c.n2 ≡ true)
  unfolding unmixed_with
  accepted_low low =
      let k = mixed (lt n.alt 72·5) (is_one (given w 15)) (lt c.n2 72·5) low parts.3 in
      (k.0, at_72·5 c.n2 accepted_fit.n2 k.1)
