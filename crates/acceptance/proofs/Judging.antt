-- The refusals that a record can meet, one after the other.
use Rattle.std.specs.Prelude.{ℕ, ◌≡◌, refl, Bool, true, false, cond, Option, Some, None, List, ℤ}
use Rattle.std.proofs.Common.{sym, ◌∙◌, ap}
use Rattle.std.proofs.lemmas.Option.{cond_some, none-some}
use Rattle.refusals.specs.Refusals.{Accepted, Refused}
use Rattle.refusals.specs.declared.Reason.TheVariants.{HistoryLacking, NotFinite, NotMixed, OutOfRange}
use Rattle.setting.specs.declared.Input.{Input}
use Rattle.setting.specs.ApHistory.{lacks_history_of}
use Rattle.setting.specs.Switches.{given, is_one}
use Rattle.acceptance.specs.Acceptance.{unfit_of, outside_of, found_of, field_at, judged_of, unmixed_of, record_answer}

-- what `field_at` says of a place
pub is_field : (k m : ℕ) → field_at k ≡ Some m → (found_of k ≡ true) × (k ≡ m)
is_field k m e = cond_some (found_of k) k m e

pub no_field : (k : ℕ) → field_at k ≡ None → found_of k ≡ false
no_field k e = by_cases (found_of k) e where
  by_cases : (b : Bool) → cond b (Some k) None ≡ None → b ≡ false
  by_cases true e = absurd (none-some k (sym e))
  by_cases false e = refl

module _ (w : List ℤ) (n : Input) where
  pub unfit_field : (k : ℕ) → field_at (unfit_of n) ≡ Some k → Refused NotFinite k ≡ judged_of w n
  unfolding judged_of
  unfit_field k e = let at = is_field _ _ e in rw at.0 (ap (Refused NotFinite) (sym at.1))

  pub history_lacking : field_at (unfit_of n) ≡ None → lacks_history_of w n ≡ true → Refused HistoryLacking 10 ≡ judged_of w n
  unfolding judged_of
  history_lacking e l = rw (no_field _ e, l) refl

  pub outside_field : field_at (unfit_of n) ≡ None → lacks_history_of w n ≡ false → (k : ℕ) → field_at (outside_of n) ≡ Some k → Refused OutOfRange k ≡ judged_of w n
  unfolding judged_of
  outside_field e l k f = let at = is_field _ _ f in rw (no_field _ e, l, at.0) (ap (Refused OutOfRange) (sym at.1))

  pub fit : field_at (unfit_of n) ≡ None → lacks_history_of w n ≡ false → field_at (outside_of n) ≡ None → Accepted ≡ judged_of w n
  unfolding judged_of
  fit e l f = rw (no_field _ e, l, no_field _ f) refl
