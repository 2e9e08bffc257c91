-- From a fresh State the answers to gtd7's questions do not depend on the questions before them: each is one of the expansions' values.
use Rattle.std.specs.Prelude.{◌≡◌, Bool, true, false, cond, not, ◌&&◌, List, replicate, Float}
use Rattle.std.proofs.Math.Path.{refl, ap, ap₂}
use Rattle.std.proofs.Common.{sym, ◌∙◌}
use Rattle.std.proofs.lemmas.Bool.{false≢true}
use Rattle.std.specs.Float.Ieee.{eq, ne, neg, lt}
use Rattle.numbers.specs.Arithmetic.{◌‼◌}
use Rattle.numbers.specs.Literals.{0·0, 1·0, 1·0E-4}
use Rattle.setting.specs.declared.State.{State}
use Rattle.setting.specs.declared.View.{View}
use Rattle.setting.specs.declared.Left.{Left}
use Rattle.setting.specs.State.{fresh_of}
use Rattle.legendre.specs.Legendre.{legendre_of, legendre0_of, legendre1_of, legendre2_of, legendre3_of, flat_of, rows_of, row0_of, row1_of, row2_of, row3_of}
use Rattle.activity.specs.Activity.{apdf_next_of, apt_next_of, apdf_from_of, sg0_of, exp1_of}
use Rattle.expansion.specs.Expansion.{carried_of, turns_after_of, state_after, globe7_value, globe7_of, glob7s_from, glob7s_of}
use Rattle.plan.specs.Fields.{Fields, with_fields}
use Rattle.plan.specs.Plan.{Plan, done, ask, keep, either, ◌>>=◌, Ask, answer, run, Ran, ends, told, fields_after, run->>=, told->>=, kept->>=, answer_fields}
use Rattle.expansion_values.specs.ExpansionValues.{legendre_in, quiet_of, active_of, wide_of}

-- ---- the State after one globe7, and after two

nested_second : (b : Bool) (x y : Float) → cond b x (cond b x y) ≡ cond b x y
nested_second true x y = refl
nested_second false x y = refl

-- the Legendre values are the same after a second globe7
rows_flat : (v : View) → rows_of (flat_of (legendre_in v)) ≡ legendre_in v
unfolding rows_of row0_of row1_of row2_of row3_of flat_of legendre_in legendre_of legendre0_of legendre1_of legendre2_of legendre3_of
rows_flat v = refl

again : (v : View) → legendre_of v.slat v.clat (flat_of (legendre_of v.slat v.clat (replicate 36 0·0))) ≡ legendre_of v.slat v.clat (replicate 36 0·0)
unfolding flat_of legendre_in legendre_of legendre0_of legendre1_of legendre2_of legendre3_of
again v = refl

-- what apt_next_of takes where the history is asked for
abbrev settled_history : View → List Float → Float
settled_history v p = sg0_of (exp1_of (p ‼ 51) (p ‼ 138) v.g_lat) (cond (lt (p ‼ 24) 1·0E-4) 1·0E-4 (p ‼ 24)) (p ‼ 25) v.ap_array

kept_apdf : (b : Bool) (x y z : Float) → cond b (cond b x y) z ≡ cond b x z
kept_apdf true x y z = refl
kept_apdf false x y z = refl

kept_apt : (b c d : Bool) (x y z : Float) → c ≡ true → cond (not (b && c)) (cond (not (b && d)) x y) z ≡ cond (not (b && c)) x z
kept_apt true true d x y z e = refl
kept_apt true false d x y z e = absurd (false≢true e)
kept_apt false c d x y z e = refl

-- a set with p[51] takes its history anew, so nothing of an earlier set is left
pub after_after : (v : View) (p q : List Float) → ne (q ‼ 51) 0·0 ≡ true → state_after v q (state_after v p fresh_of) ≡ state_after v q fresh_of
unfolding state_after turns_after_of fresh_of apdf_next_of apt_next_of
after_after v p q e =
    let b = not (eq (v.sw ‼ 7) 0·0 && eq (v.sw ‼ 8) 0·0 && eq (v.sw ‼ 14) 0·0) in
    let a = eq (v.sw ‼ 9) (neg 1·0) in
    cc (
      ap flat_of (again v),
      nested_second b v.ct 0·0,
      nested_second b v.st 0·0,
      nested_second b v.c2t 0·0,
      nested_second b v.s2t 0·0,
      nested_second b v.c3t 0·0,
      nested_second b v.s3t 0·0,
      kept_apdf a 0·0 (apdf_from_of (p ‼ 43) (p ‼ 44) v.ap) (apdf_from_of (q ‼ 43) (q ‼ 44) v.ap),
      kept_apt a (ne (q ‼ 51) 0·0) (ne (p ‼ 51) 0·0) 0·0 (settled_history v p) (settled_history v q) e,
    )

-- a State from which every such set leaves what it leaves from a fresh one
abbrev pub Settled : View → State → Type 0
Settled v s = (q : List Float) → ne (q ‼ 51) 0·0 ≡ true → state_after v q s ≡ state_after v q fresh_of

pub fresh_settled : (v : View) → Settled v fresh_of
fresh_settled v q e = refl

pub after_settled : (v : View) (p : List Float) (t : State) → t ≡ state_after v p fresh_of → Settled v t
after_settled v p t e q f = ap (state_after v q) e ∙ after_after v p q f

-- ---- the values are the expansions' from the States that gtd7 reaches

carried_first : (v : View) (p : List Float) → carried_of (state_after v p fresh_of) ≡ active_of v p (quiet_of v)
unfolding carried_of state_after fresh_of quiet_of active_of
carried_first v p = refl

rows_first : (v : View) (p : List Float) → rows_of (state_after v p fresh_of).plg ≡ legendre_in v
unfolding state_after fresh_of legendre_in
rows_first v p = rows_flat v

carried_second : (v : View) (p q : List Float) → carried_of (state_after v q (state_after v p fresh_of)) ≡ active_of v q (active_of v p (quiet_of v))
unfolding carried_of state_after turns_after_of fresh_of quiet_of active_of
carried_second v p q =
    let b = not (eq (v.sw ‼ 7) 0·0 && eq (v.sw ‼ 8) 0·0 && eq (v.sw ‼ 14) 0·0) in
    cc (nested_second b v.ct 0·0, nested_second b v.st 0·0, nested_second b v.c2t 0·0, nested_second b v.s2t 0·0, nested_second b v.c3t 0·0, nested_second b v.s3t 0·0)

rows_second : (v : View) (p q : List Float) → rows_of (state_after v q (state_after v p fresh_of)).plg ≡ legendre_in v
unfolding state_after fresh_of legendre_in
rows_second v p q = ap (λ (g : List (List Float)). rows_of (flat_of g)) (again v) ∙ rows_flat v

pub globe7_first : (v : View) (p : List Float) → (globe7_of v p fresh_of).value ≡ wide_of v (legendre_in v) (quiet_of v) p
unfolding globe7_of wide_of
globe7_first v p = ap₂ (globe7_value v p) (rows_first v p) (carried_first v p)

pub globe7_second : (v : View) (p q : List Float) → (globe7_of v q (state_after v p fresh_of)).value ≡ globe7_value v q (legendre_in v) (active_of v q (active_of v p (quiet_of v)))
unfolding globe7_of
globe7_second v p q = ap₂ (globe7_value v q) (rows_second v p q) (carried_second v p q)

pub glob7s_first : (v : View) (p q : List Float) → glob7s_of v q (state_after v p fresh_of) ≡ glob7s_from v q (legendre_in v) (active_of v p (quiet_of v))
unfolding glob7s_of
glob7s_first v p q = ap₂ (glob7s_from v q) (rows_first v p) (carried_first v p)

pub glob7s_second : (v : View) (p r q : List Float)
    → glob7s_of v q (state_after v r (state_after v p fresh_of)) ≡ glob7s_from v q (legendre_in v) (active_of v r (active_of v p (quiet_of v)))
unfolding glob7s_of
glob7s_second v p r q = ap₂ (glob7s_from v q) (rows_second v p r) (carried_second v p r)

-- ---- a plan run from a State, and told the same answers

-- what the expansions leave has the property Q; with any seventeen fields the result is the same, and they are set by the steps alone
pub record Kept {A : Type 0} (v : View) (g : Ask → Float) (Q : State → Type 0) (m : Plan A) (s : State) : Type 0 where
  pub after : State
  pub fits : Q after
  pub ran : (f : Fields) → run v m (with_fields s f) ≡ ends (told g m) (with_fields after (fields_after g m f))

module _ (v : View) (g : Ask → Float) where
  pub kept_done : {A : Type 0} (Q : State → Type 0) (a : A) (s : State) → Q s → Kept v g Q (done a) s
  unfolding run told fields_after
  kept_done Q a s h = record { after = s; fits = h; ran = λ f. refl }

  pub kept_ask : {A : Type 0} (Q : State → Type 0) (q : Ask) (k : Float → Plan A) (s t : State)
      → (answer v q s).value ≡ g q
      → (answer v q s).state ≡ t
      → Kept v g Q (k (g q)) t
      → Kept v g Q (ask q k) s
  unfolding run told fields_after
  kept_ask Q q k s t e f h =
      record {
        after = h.after;
        fits = h.fits;
        ran = λ x.
            ap (λ (r : Left Float). run v (k r.value) r.state) (answer_fields v q s x)
            ∙ ap₂ (λ (y : Float) (u : State). run v (k y) (with_fields u x)) e f
            ∙ h.ran x;
      }

  pub kept_keep : {A : Type 0} {Q : State → Type 0} {u : Fields → Fields} {m : Plan A} {s : State} → Kept v g Q m s → Kept v g Q (keep u m) s
  unfolding run told fields_after
  kept_keep {u = u} h = record { after = h.after; fits = h.fits; ran = λ f. h.ran (u f) }

  pub kept_then : {A B : Type 0} (Q R : State → Type 0) (m : Plan A) (k : A → Plan B) (s : State)
      → Kept v g Q m s
      → ((t : State) → Q t → Kept v g R (k (told g m)) t)
      → Kept v g R (m >>= k) s
  kept_then Q R m k s h next =
      let n = next h.after h.fits in
      record {
        after = n.after;
        fits = n.fits;
        ran = λ f.
            run->>= v m k (with_fields s f)
            ∙ ap (λ (r : Ran _). run v (k r.result) r.left) (h.ran f)
            ∙ n.ran (fields_after g m f)
            ∙ ap₂ (λ (b : _) (x : Fields). ends b (with_fields n.after x)) (sym (told->>= g m k)) (sym (kept->>= g m k f));
      }

  pub kept_either : {A : Type 0} (Q : State → Type 0) (b : Bool) (m n : Plan A) (s : State)
      → (b ≡ true → Kept v g Q m s)
      → (b ≡ false → Kept v g Q n s)
      → Kept v g Q (either b m n) s
  kept_either Q true m n s h k = h refl
  kept_either Q false m n s h k = k refl
