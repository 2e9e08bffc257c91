-- Demand 3.
use Rattle.std.specs.Prelude.{◌≡◌, refl, List, Bool, true, false, not, ◌&&◌, cond, ℕ, zero, suc, T, eqb, length, ℤ, Float, Err, Ok}
use Rattle.std.proofs.Common.{sym, ◌∙◌, ap, ap₂, subst, get_or-set_other}
use Rattle.std.proofs.Math.Decide.{ℕ_discrete}
use Rattle.numbers.specs.Arithmetic.{◌⊖◌}
use Rattle.numbers.specs.Literals.{150·0}
use Rattle.refusals.specs.declared.Reason.TheVariants.{HistoryLacking, NotFinite, OutOfRange, WrongLength}
use Rattle.refusals.specs.Refusals.{Accepted, Answer, Refused, accepted_of}
use Rattle.setting.specs.declared.Input.{Input}
use Rattle.setting.specs.declared.State.{State}
use Rattle.setting.specs.declared.View.{View}
use Rattle.setting.specs.declared.History.{History}
use Rattle.setting.specs.declared.History.TheVariants.{Absent, Present}
use Rattle.setting.specs.State.{fresh_of}
use Rattle.views.specs.View.{view_of}
use Rattle.setting.specs.Switches.{given}
use Rattle.setting.specs.ApHistory.{is_minus_one, asks_history_of, absent_of, lacks_history_of}
use Rattle.expansion.specs.Expansion.{globe7_of}
use Rattle.plan.specs.Plan.{Plan, run}
use Rattle.gts7_arithmetic.specs.declared.Site.{Site}
use Rattle.gts7_arithmetic.specs.Gts7Arithmetic.{site_with}
use Rattle.lower_atmosphere.specs.declared.Gtd7Output.{Gtd7Output}
use Rattle.acceptance.specs.Acceptance.{unfit_of, outside_of, found_of, judged_of, record_answer, with_alt_of}
use Rattle.acceptance.specs.Refusals.{no_refusal}
use Rattle.parameters.specs.Parameters.{present_of}
use Rattle.parameters.specs.declared.Parameters.{Parameters}
use Rattle.atmosphere.specs.Atmosphere.{gtd7_plan, eleven_at_of, eleven_with, eleven_of, left_with, left_of, answer_of, row_after}
use Rattle.shutoff.specs.Fields.{float, missing, field, fields}
use Rattle.shutoff.specs.Shut.{others, AlikeBut, Alike}
use Rattle.shutoff.specs.PlainView.{plain_view, view_is}
use Rattle.shutoff.specs.Fit.{Fit, fit}
use Rattle.shutoff.proofs.Zeroed.{changed, with_dfa}
use Rattle.shutoff.proofs.Zeroed as zeroed
use Rattle.shutoff.proofs.Agree.{asks_nine, Has, state_itself, run≡, alt≡, doy≡, glat≡, f107a≡}

-- ---- what acceptance says

-- an answer that is accepted comes from no refusal before it
pub first_accepted : (a b : Answer) → cond (not (accepted_of a)) a b ≡ Accepted → a ≡ Accepted
first_accepted (Ok v) b e = refl
first_accepted (Err r) b e = e

-- a record that is accepted is judged so
pub judged_first : (w : List ℤ) (n : Input) (len : ℕ) → answer_of w n len ≡ Accepted → judged_of w n ≡ Accepted
unfolding answer_of record_answer
judged_first w n len e = first_accepted (judged_of w n) _ (no_refusal (not (eqb len 11)) WrongLength 11 _ e).1

history_there : (m : Bool) (h : History) → (m && absent_of h) ≡ false → T m → T (not (absent_of h))
history_there true Absent e t = subst T e tt
history_there true Present e t = tt
history_there false h e t = absurd t

-- what demand 3 needs of a record: its history where the row asks for it, and its fields within their ranges
pub record Known (w : List ℤ) (n : Input) : Type 0 where
  pub has : Has w n
  pub fit : Fit n

pub has : (w : List ℤ) (n : Input) → lacks_history_of w n ≡ false → Has w n
unfolding lacks_history_of asks_history_of
has w n e t = history_there (is_minus_one (given w 9)) n.history e (asks_nine (given w 9) t)

pub known : (w : List ℤ) (n : Input) → judged_of w n ≡ Accepted → Known w n
unfolding judged_of
known w n e =
    let b = no_refusal (found_of (unfit_of n)) NotFinite (unfit_of n) _ e in
    let c = no_refusal (lacks_history_of w n) HistoryLacking 10 _ b.1 in
    record {
      has = has w n c.0;
      fit = fit n (no_refusal (found_of (outside_of n)) OutOfRange (outside_of n) _ c.1).0;
    }

-- it does not depend on the altitude
pub known_at : (w : List ℤ) (n : Input) (z : Float) → Known w n → Known w (with_alt_of n z)
unfolding with_alt_of
known_at w n z k = record { has = k.has; fit = record { lst = k.fit.lst; f107a = k.fit.f107a; f107 = k.fit.f107; glat = k.fit.glat } }

-- ---- demand 3

-- records alike under a row stay alike with another altitude in both
pub alike_at : (w : List ℤ) (a b : Input) (z : Float) → Alike w a b → Alike w (with_alt_of a z) (with_alt_of b z)
unfolding with_alt_of
alike_at w a b z like k h t = go (ℕ_discrete k 3)
  where
    go : Dec (k ≡ 3) → field (with_alt_of a z) k ≡ field (with_alt_of b z) k
    go (yes e) = subst (λ (j : ℕ). field (with_alt_of a z) j ≡ field (with_alt_of b z) j) (sym e) refl
    go (no n) = get_or-set_other (fields a) 3 k (float z) missing n ∙ like k h t ∙ sym (get_or-set_other (fields b) 3 k (float z) missing n)

-- the plan of a record with nine constants
abbrev plan_of : Parameters → List ℤ → Input → Plan Gtd7Output
plan_of c w n = gtd7_plan (plain_view w n).sw (site_with c (plain_view w n).sw n.g_lat (plain_view w n).doy n.f107a) n.alt

-- records that are alike with lst, f107a and f107 in common have the same eleven numbers, if they have their history where the row asks for it
others_eleven : (c : Parameters) (w : List ℤ) (a b : Input) → AlikeBut (others w) a b → Has w a → eleven_with c w a ≡ eleven_with c w b
unfolding eleven_with eleven_at_of
others_eleven c w a b like h =
    rw (view_is w a, view_is w b)
    (ap (λ (x : Gtd7Output). x.row) (run≡ w a b like h (plan_of c w a) fresh_of fresh_of (state_itself w fresh_of))
    ∙ rw (alt≡ w a b like, doy≡ w a b like, glat≡ w a b like, f107a≡ w a b like))

-- so have a record and the same with another lst, f107a and f107, where they are alike and within their ranges
zeroed_eleven : (c : Parameters) (w : List ℤ) (a : Input) (l fa f : Float) → Alike w a (changed a l fa f) → Fit a → Fit (changed a l fa f)
    → eleven_with c w a ≡ eleven_with c w (changed a l fa f)
unfolding eleven_with eleven_at_of
zeroed_eleven c w a l fa f like fit_a fit_b =
    rw (view_is w a, view_is w (changed a l fa f))
    (ap (λ (x : Gtd7Output). x.row) (zeroed.run≡ w a l fa f like fit_a fit_b (plan_of c w a) fresh_of fresh_of (zeroed.fresh_itself w)).0 ∙ rw (zeroed.site≡ w a l fa f like fit_a fit_b c))

-- alike records: from the one to the other by way of the one with the other's lst, f107a and f107
module _ (w : List ℤ) (a b : Input) (like : Alike w a b) where
  first_step : Alike w a (changed a b.lst b.f107a b.f107)
  first_step zero h t = refl
  first_step (suc zero) h t = refl
  first_step (suc (suc zero)) h t = refl
  first_step (suc (suc (suc zero))) h t = refl
  first_step (suc (suc (suc (suc zero)))) h t = refl
  first_step (suc (suc (suc (suc (suc zero))))) h t = refl
  first_step (suc (suc (suc (suc (suc (suc zero)))))) h t = like 6 h t
  first_step (suc (suc (suc (suc (suc (suc (suc zero))))))) h t = like 7 h t
  first_step (suc (suc (suc (suc (suc (suc (suc (suc zero)))))))) h t = like 8 h t
  first_step (suc (suc (suc (suc (suc (suc (suc (suc (suc k))))))))) h t = refl

  second_step : AlikeBut (others w) (changed a b.lst b.f107a b.f107) b
  second_step zero h t = like 0 h t
  second_step (suc zero) h t = like 1 h t
  second_step (suc (suc zero)) h t = like 2 h t
  second_step (suc (suc (suc zero))) h t = like 3 h t
  second_step (suc (suc (suc (suc zero)))) h t = like 4 h t
  second_step (suc (suc (suc (suc (suc zero))))) h t = like 5 h t
  second_step (suc (suc (suc (suc (suc (suc zero)))))) h t = refl
  second_step (suc (suc (suc (suc (suc (suc (suc zero))))))) h t = refl
  second_step (suc (suc (suc (suc (suc (suc (suc (suc zero)))))))) h t = refl
  second_step (suc (suc (suc (suc (suc (suc (suc (suc (suc k))))))))) h t = like (suc (suc (suc (suc (suc (suc (suc (suc (suc k))))))))) h t

-- alike records that are known so have the same eleven numbers by demand 2's definition, the nine constants being the same
pub eleven_with≡ : (c : Parameters) (w : List ℤ) (a b : Input) → Alike w a b → Known w a → Known w b → eleven_with c w a ≡ eleven_with c w b
eleven_with≡ c w a b like p q =
    let m : Fit (changed a b.lst b.f107a b.f107) = record { lst = q.fit.lst; f107a = q.fit.f107a; f107 = q.fit.f107; glat = p.fit.glat } in
    zeroed_eleven c w a b.lst b.f107a b.f107 (first_step w a b like) p.fit m
    ∙ others_eleven c w (changed a b.lst b.f107a b.f107) b (second_step w a b like) p.has

pub eleven≡ : (w : List ℤ) (a b : Input) → Alike w a b → Known w a → Known w b → eleven_of w a ≡ eleven_of w b
unfolding eleven_of
eleven≡ w a b like p q = eleven_with≡ present_of w a b like p q

-- an accepted run writes demand 2's numbers
pub row_written : (w : List ℤ) (n : Input) (xs : List Float) → answer_of w n (length xs) ≡ Accepted → row_after w n xs ≡ eleven_of w n
unfolding row_after
row_written w n xs e = ap (λ (r : Answer). cond (accepted_of r) (eleven_of w n) xs) e

-- Demand 3. For every switch row and any two accepted runs of the one-altitude call on records alike under that row, whatever the two
-- lent rows held: both write the same eleven numbers, and these are the definition's for the one record and for the other.
pub demand_3 : (w : List ℤ) (a b : Input) (xs ys : List Float)
    → Alike w a b
    → answer_of w a (length xs) ≡ Accepted
    → answer_of w b (length ys) ≡ Accepted
    → (row_after w a xs ≡ row_after w b ys) × (row_after w a xs ≡ eleven_of w a) × (row_after w b ys ≡ eleven_of w b)
demand_3 w a b xs ys like e f =
    let p = row_written w a xs e in
    let q = row_written w b ys f in
    (p ∙ eleven≡ w a b like (known w a (judged_first w a (length xs) e)) (known w b (judged_first w b (length ys) f)) ∙ sym q, p, q)

-- ---- State

-- Where a record and the same with another lst, f107a and f107 are alike, State after globe7 differs in dfa alone, whatever the coefficients
-- and the State before.
pub globe7_state : (w : List ℤ) (a : Input) (l fa f : Float) → Alike w a (changed a l fa f) → (p : List Float) (s : State)
    → (globe7_of (view_of w (changed a l fa f)) p s).state ≡ with_dfa (globe7_of (view_of w a) p s).state (fa ⊖ 150·0)
unfolding globe7_of
globe7_state w a l fa f like p s = rw (view_is w a, view_is w (changed a l fa f)) (zeroed.after≡ w a l fa f like p s s.dfa)

left_is : (w : List ℤ) (n : Input) → left_of w n ≡ (run (plain_view w n) (plan_of present_of w n) fresh_of).left
unfolding left_of left_with
left_is w n =
    ap (λ (v : View). (run v (gtd7_plan v.sw (site_with present_of v.sw n.g_lat v.doy n.f107a) n.alt) fresh_of).left) (view_is w n)

-- Where both are accepted, so does State after gtd7.
pub gtd7_state : (w : List ℤ) (a : Input) (l fa f : Float) (m n : ℕ)
    → Alike w a (changed a l fa f)
    → answer_of w a m ≡ Accepted
    → answer_of w (changed a l fa f) n ≡ Accepted
    → left_of w (changed a l fa f) ≡ with_dfa (left_of w a) (left_of w (changed a l fa f)).dfa
gtd7_state w a l fa f m n like e d =
    let b = changed a l fa f in
    let fit_a = (known w a (judged_first w a m e)).fit in
    let fit_b = (known w b (judged_first w b n d)).fit in
    let r = zeroed.run≡ w a l fa f like fit_a fit_b (plan_of present_of w a) fresh_of fresh_of (zeroed.fresh_itself w) in
    let left : Site → State = λ x. (run (plain_view w b) (gtd7_plan (plain_view w a).sw x a.alt) fresh_of).left in
    left_is w b
    ∙ subst (λ (x : Site). left x ≡ with_dfa (run (plain_view w a) (plan_of present_of w a) fresh_of).left (left x).dfa) (zeroed.site≡ w a l fa f like fit_a fit_b present_of) r.1.but
    ∙ ap₂ with_dfa (sym (left_is w a)) (ap (λ (s : State). s.dfa) (sym (left_is w b)))
