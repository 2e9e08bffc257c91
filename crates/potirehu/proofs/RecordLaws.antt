-- The outcomes of many records from C.
use Prim.Native.Nat.{ℕ, ◌*◌, ◌≤◌}
use mathlib.Core.Path.{◌≡◌, refl, sym, ap, ◌∙◌}
use mathlib.Core.Bool.{true, false}
use mathlib.Core.List.{List}
use lib.IntN.{ℤ}
use lib.ListN.{length}
use lib.Ieee.{Float}
use Rattle.refusals.specs.Refusals.{Answer, accepted_of}
use Rattle.host_record.specs.Record.{code_of}
use Rattle.record_list.specs.RecordList.{Listed, lengths_answer}
use Rattle.record_list.proofs.Laws.{lengths_met, lengths_refused}
use Rattle.records.specs.Records.{answers_to, rows_to}
use Rattle.potirehu.specs.Records.{host_records, host_answers, host_record_rows}

module _ (days : List ℤ) (f l : List Float) (w : List ℤ) (xs : List ℕ) (ys : List Float) (r : ℕ)
    (er : r ≡ code_of (lengths_answer (length days) (length f) (length l) (length w) (length xs) (length ys))) where
  abbrev Outcome : ℕ → List ℕ → List Float → Type 0
  Outcome a answers rows =
      (a ≡ code_of (host_records days f l w (length xs) (length ys))) × (answers ≡ host_answers days f l w xs (length ys)) × (rows ≡ host_record_rows days f l w (length xs) ys)

  pub refused : (r ≡ 0 → ⊥) → Outcome r xs ys
  unfolding host_records host_answers host_record_rows
  refused h =
      let no = lengths_refused (length days) (length f) (length l) (length w) (length xs) (length ys) (λ e. h (er ∙ e)) in
      (er, rw no, rw no)

  module _ (h : r ≡ 0) where
    pub met : Listed (length days) (length f) (length l) × (length days ≤ length xs) × (11 * length days ≤ length ys) × (length w ≡ 24)
    met = (lengths_met (length days) (length f) (length l) (length w) (length xs) (length ys) (sym er ∙ h)).1

    pub taken : (v : List ℤ) (answers : List ℕ) (rows : List Float) → v ≡ w → answers ≡ answers_to v days f l (length days) xs → rows ≡ rows_to v days f l (length days) ys
        → Outcome 0 answers rows
    unfolding host_records host_answers host_record_rows
    taken v answers rows e ea eb =
        let yes : accepted_of (lengths_answer (length days) (length f) (length l) (length w) (length xs) (length ys)) ≡ true =
        ap accepted_of (lengths_met (length days) (length f) (length l) (length w) (length xs) (length ys) (sym er ∙ h)).0 in
        (sym h ∙ er, rw yes (rw e at ea), rw yes (rw e at eb))
