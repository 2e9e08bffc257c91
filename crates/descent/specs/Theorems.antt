-- What holds of the call: start minus end is the sum of the losses listed, the altitude never rises and stays at or above 200 km, a descent can be flown in
-- two parts; the answer and the lent list; and the part of demand 3.
use Rattle.std.specs.Prelude.{ℕ, ◌+◌, ◌≤◌, ◌≡◌, refl, Bool, true, false, cond, not, ℤ, pos, ◌+ℤ◌, take, Float, Err, Ok, Result}
use Rattle.std.proofs.Common.{sym, ◌∙◌, subst, true≢false}
use Rattle.std.proofs.Math.Path.{ap, fun_ext}
use Rattle.std.proofs.lemmas.Bool.{false≢true}
use mathlib.Core.List.{List, [], ◌∷◌, ◌++◌}
use Rattle.std.proofs.Math.ListN.{length}
use Rattle.numbers.specs.Arithmetic.{◌‼◌}
use Rattle.numbers.specs.Literals.{0·0}
use Rattle.refusals.specs.declared.Reason.{Reason}
use Rattle.refusals.specs.declared.Refusal.{Refusal}
use Rattle.refusals.specs.Refusals.{Accepted, Answer, Refused, accepted_of, refused_or}
use Rattle.setting.specs.declared.Input.{Input}
use Rattle.setting.specs.ApHistory.{lacks_history_of, asks_history_of}
use Rattle.acceptance.specs.Acceptance.{judged_of, with_alt_of}
use Rattle.shutoff.specs.Shut.{shut, AlikeBut, Alike}
use Rattle.shutoff.proofs.Theorems.{Known, known, known_at, alike_at, eleven≡}
use Rattle.descent_orbits.specs.declared.Ending.{Ending}
use Rattle.descent_orbits.specs.declared.Ending.TheVariants.{Spent}
use Rattle.descent_orbits.specs.declared.Descended.{Descended}
use Rattle.descent_orbits.specs.DescentOrbits.{lowest_altitude, kilometres_of_millimetres, millimetres_of, Descent, descent_refusal}
use Rattle.descent_orbits.specs.Lent.{end_of_descent, losses_after, Ended}
use Rattle.descent_orbits.specs.Theorems.{total, sum, start_minus_end, listed_sum, never_rises, stays_above, all_done, joined, spent_then, ended_then, Met, accepted_met, whole_start}
use Rattle.descent.specs.Descent.{unit_row, density_at, descent_of, descent_checked, descent_answer, descent_losses}

-- ---- the descent

module _ (w : List ℤ) (n : Input) (a : ℕ) (ss : List ℤ) where
  abbrev r : Descent
  r = descent_of w n (pos a) ss

  -- 'Start minus end equals the sum of the losses listed', and it never ends above its start
  pub losses_sum : a ≡ r.last + total r.losses
  unfolding descent_of
  losses_sum = start_minus_end (density_at (unit_row w) n) ss a

  pub no_rise : r.last ≤ a
  unfolding descent_of
  no_rise = never_rises (density_at (unit_row w) n) ss a

  -- from 200 km or above it stays there
  pub above_200 : lowest_altitude ≤ a → lowest_altitude ≤ r.last
  unfolding descent_of
  above_200 = stays_above (density_at (unit_row w) n) ss a

  -- 'spent only when all orbits are done'
  pub spent_done : r.ending ≡ Spent → length r.losses ≡ length ss
  unfolding descent_of
  spent_done = all_done (density_at (unit_row w) n) ss a

  -- n orbits that end as spent, then the rest from where they ended, are all of them; after another ending nothing comes
  pub two_parts : (ts : List ℤ) → r.ending ≡ Spent → descent_of w n (pos a) (ss ++ ts) ≡ joined r (descent_of w n (pos r.last) ts)
  unfolding descent_of
  two_parts ts = spent_then (density_at (unit_row w) n) ss ts a

  pub ends_there : (ts : List ℤ) → (r.ending ≡ Spent → ⊥) → descent_of w n (pos a) (ss ++ ts) ≡ r
  unfolding descent_of
  ends_there ts = ended_then (density_at (unit_row w) n) ss ts a

-- ---- the answer and the lent list

-- an ending comes from no refusal, and a refusal from no ending
pub ending_told : (a : Answer) (x : Result Descended Refusal) (d : Descended) → refused_or a x ≡ Ok d → (a ≡ Accepted) × (x ≡ Ok d)
ending_told (Ok v) x d h = (refl, h)
ending_told (Err r) x d h = absurd (false≢true (ap accepted_of h))

refusal_told : (a : Answer) (d : Descended) (i : Reason) (k : ℕ) → refused_or a (Ok d) ≡ Refused i k → accepted_of a ≡ false
refusal_told (Ok v) d i k h = absurd (true≢false (ap accepted_of h))
refusal_told (Err r) d i k h = refl

-- what is told of an ending
pub of_ended : (a b : Descended) → ◌≡◌ {A = Result Descended Refusal} (Ok a) (Ok b) → a ≡ b
of_ended a b h = ap (ended_in a) h
  where
    ended_in : Descended → Result Descended Refusal → Descended
    ended_in d (Ok e) = e
    ended_in d (Err r) = d

passed : (a b : Answer) → cond (not (accepted_of a)) a b ≡ Accepted → (a ≡ Accepted) × (b ≡ Accepted)
passed (Ok v) b h = (refl, h)
passed (Err r) b h = (h, absurd (false≢true (ap accepted_of h)))

-- Where nothing is refused the record is accepted, and the start, the settings and the list's room are what the descent asks for.
pub checked_met : (w : List ℤ) (n : Input) (start : ℤ) (ss : List ℤ) (room : ℕ) → descent_checked w n start ss room ≡ Accepted
    → (judged_of w (with_alt_of n 0·0) ≡ Accepted) × Met start ss room
unfolding descent_checked
checked_met w n start ss room h =
    let p = passed (judged_of w (with_alt_of n 0·0)) (descent_refusal start ss room) h in
    (p.0, accepted_met start ss room (ap accepted_of p.1))

module _ (w : List ℤ) (n : Input) (start : ℤ) (ss xs : List ℤ) where
  -- An ending that is answered is the descent's, and the list has its losses at its start and the rest as it was.
  pub told : (e : Ending) (l c : ℕ) → descent_answer w n start ss (length xs) ≡ Ok (Ended e l c)
      → (end_of_descent (descent_of w n start ss) ≡ Ended e l c) × (descent_losses w n start ss xs ≡ losses_after (descent_of w n start ss) xs)
  unfolding descent_answer descent_losses
  told e l c h =
      let t = ending_told (descent_checked (unit_row w) n start ss (length xs)) _ (Ended e l c) h in
      (of_ended _ _ t.1, rw t.0)

  -- 'Start minus end equals the sum of the losses listed': the first c entries of the list afterwards, c the count that is answered
  pub losses_listed_sum : (e : Ending) (l c : ℕ) → descent_answer w n start ss (length xs) ≡ Ok (Ended e l c) → start ≡ pos l +ℤ sum (take c (descent_losses w n start ss xs))
  unfolding descent_answer descent_of end_of_descent
  losses_listed_sum e l c h =
      let t = told e l c h in
      let last : (descent_of w n start ss).last ≡ l = ap (λ (d : Descended). d.last) t.0 in
      let count : length (descent_of w n start ss).losses ≡ c = ap (λ (d : Descended). d.taken) t.0 in
      let m = (checked_met (unit_row w) n start ss (length xs) (ending_told (descent_checked (unit_row w) n start ss (length xs)) _ (Ended e l c) h).0).1 in
      whole_start start m.within ∙ (listed_sum (density_at (unit_row w) n) ss (millimetres_of start) xs ∙ rw (t.1, last, count))

  -- Refused, the list is as it was.
  pub kept : (i : Reason) (k : ℕ) → descent_answer w n start ss (length xs) ≡ Refused i k → descent_losses w n start ss xs ≡ xs
  unfolding descent_answer descent_losses
  kept i k h = rw (refusal_told (descent_checked (unit_row w) n start ss (length xs)) (end_of_descent (descent_of w n start ss)) i k h)

-- ---- switch 0

-- switch 0 shuts nothing off, and no record is refused for it
units_shut : (w : List ℤ) → shut (unit_row w) ≡ shut w
unfolding unit_row
units_shut [] = refl
units_shut (x ∷ w) = refl

pub units_judged : (w : List ℤ) (n : Input) → judged_of (unit_row w) n ≡ judged_of w n
unfolding unit_row judged_of lacks_history_of asks_history_of
units_judged [] n = refl
units_judged (x ∷ w) n = refl

-- ---- demand 3

-- Demand 3 for the descent. For every switch row, any start, any settings and any lent list, and any two records alike under that row, whatever their own
-- altitudes, that the one-altitude call does not refuse: one descent, one answer, 17 to 19 among them, and the same list afterwards.
module _ (w : List ℤ) (a b : Input) (like : Alike w (with_alt_of a 0·0) (with_alt_of b 0·0)) (e : judged_of w (with_alt_of a 0·0) ≡ Accepted) (f : judged_of w (with_alt_of b 0·0) ≡ Accepted) where
  at_altitude : (z : Float) → Alike (unit_row w) (with_alt_of a z) (with_alt_of b z)
  unfolding with_alt_of
  at_altitude z =
      alike_at (unit_row w) (with_alt_of a 0·0) (with_alt_of b 0·0) z (subst (λ (l : List Bool). AlikeBut l (with_alt_of a 0·0) (with_alt_of b 0·0)) (sym (units_shut w)) like)

  known_there : (n : Input) (z : Float) → judged_of w (with_alt_of n 0·0) ≡ Accepted → Known (unit_row w) (with_alt_of n z)
  unfolding with_alt_of
  known_there n z g = known_at (unit_row w) (with_alt_of n 0·0) z (known (unit_row w) (with_alt_of n 0·0) (units_judged w (with_alt_of n 0·0) ∙ g))

  densities≡ : density_at (unit_row w) a ≡ density_at (unit_row w) b
  unfolding density_at
  densities≡ =
      fun_ext
      (λ k. ap (λ (l : List Float). l ‼ 5) (eleven≡ (unit_row w) (with_alt_of a (kilometres_of_millimetres k)) (with_alt_of b (kilometres_of_millimetres k)) (at_altitude (kilometres_of_millimetres k)) (known_there a (kilometres_of_millimetres k) e) (known_there b (kilometres_of_millimetres k) f)))

  pub demand_3_descent : (start : ℤ) (ss xs : List ℤ)
      → (descent_of w a start ss ≡ descent_of w b start ss)
      × (descent_answer w a start ss (length xs) ≡ descent_answer w b start ss (length xs))
      × (descent_losses w a start ss xs ≡ descent_losses w b start ss xs)
  unfolding descent_of descent_answer descent_losses descent_checked
  demand_3_descent start ss xs =
      let g = units_judged w (with_alt_of a 0·0) ∙ e in
      let h = units_judged w (with_alt_of b 0·0) ∙ f in
      (rw densities≡, rw (g, h, densities≡), rw (g, h, densities≡))
