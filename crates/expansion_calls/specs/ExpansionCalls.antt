-- The outcomes of the public calls globe7 and glob7s: document 01, 'Expansions'.
use Rattle.std.specs.Prelude.{ℕ, cond, not, ◌||◌, Result, Ok, Err, List, eqb, ltb, ℤ, length, Float}
use Rattle.setting.specs.declared.State.{State}
use Rattle.setting.specs.declared.Input.{Input}
use Rattle.views.specs.View.{view_of}
use Rattle.setting.specs.ApHistory.{lacks_history_of}
use Rattle.expansion.specs.Expansion.{globe7_of, glob7s_of}
use Rattle.setting.specs.declared.Left.{Left}
use Rattle.expansion_calls.specs.declared.ExpansionRefusal.{ExpansionRefusal}
use Rattle.expansion_calls.specs.declared.ExpansionRefusal.TheVariants.{Coefficients, NoHistory}

-- document 01's number of a refusal, and its place
abbrev pub refusal_number : ExpansionRefusal → ℕ
refusal_number (Coefficients needed) = 6
refusal_number NoHistory = 1

abbrev pub refusal_place : ExpansionRefusal → ℕ
refusal_place (Coefficients needed) = needed
refusal_place NoHistory = 10

-- a refused call leaves the State that it was given
abbrev pub refused_call : ExpansionRefusal → State → Result (Left Float) (Left ExpansionRefusal)
refused_call r s = Err (record { value = r; state = s })

abbrev pub accepted_call : Float → State → Result (Left Float) (Left ExpansionRefusal)
accepted_call x s = Ok (record { value = x; state = s })

-- 6 when the coefficients aren't 150, then 1; no field range is checked
unfoldable pub globe7_call_of : List ℤ → Input → List Float → State → Result (Left Float) (Left ExpansionRefusal)
globe7_call_of w n p s =
    cond (not (eqb (length p) 150)) (refused_call (Coefficients 150) s)
    (cond (lacks_history_of w n) (refused_call NoHistory s)
    (let a = globe7_of (view_of w n) p s in accepted_call a.value a.state))

-- 6 when the coefficients are fewer than 100 or more than 150; the State stays
unfoldable pub glob7s_call_of : List ℤ → Input → List Float → State → Result (Left Float) (Left ExpansionRefusal)
glob7s_call_of w n p s =
    cond (ltb (length p) 100 || ltb 150 (length p)) (refused_call (Coefficients 100) s)
    (accepted_call (glob7s_of (view_of w n) p s) s)
