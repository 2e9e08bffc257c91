-- The report in a lent slice, as the host has it.
use Rattle.std.specs.Prelude.{ℕ, cond, not, Result, Err, is_ok, List, eqb, length}
use Rattle.logs.specs.declared.LogsRefusal.{LogsRefusal}
use Rattle.logs.specs.declared.LogsRefusal.TheVariants.{ReportLength}
use Rattle.logs.specs.Logs.{report_of}

-- 4 for a slice of another length than 512, before all else; then the report's answer
unfoldable pub lent_answer : List ℕ → List ℕ → List ℕ → List ℕ → ℕ → ℕ → Result ℕ LogsRefusal
lent_answer s₁ b₁ s₂ b₂ t len = cond (not (eqb len 512)) (Err (ReportLength 512)) (report_of s₁ b₁ s₂ b₂ t).answer

-- the slice xs afterwards: the table where the call is accepted, else as it was
unfoldable pub lent_after : List ℕ → List ℕ → List ℕ → List ℕ → ℕ → List ℕ → List ℕ
lent_after s₁ b₁ s₂ b₂ t xs = cond (is_ok (lent_answer s₁ b₁ s₂ b₂ t (length xs))) (report_of s₁ b₁ s₂ b₂ t).table xs
