-- A step made where a test holds, and one that is not made.
use mathlib.Core.Path.{◌≡◌, sym, ap, ◌∙◌}
use mathlib.Core.Bool.{Bool, true, false}
use Rattle.setting.specs.declared.State.{State}
use Rattle.plan.specs.Fields.{Fields, fields_of, with_fields, set_when}

pub made : (s r : State) (on : Bool) (u : Fields → Fields) → on ≡ true → r ≡ with_fields s (u (fields_of s)) → r ≡ with_fields s (set_when on u (fields_of s))
made s r on u e f = f ∙ ap (λ (b : Bool). with_fields s (set_when b u (fields_of s))) (sym e)

pub not_made : (s : State) (on : Bool) (u : Fields → Fields) → on ≡ false → s ≡ with_fields s (set_when on u (fields_of s))
not_made s on u e = ap (λ (b : Bool). with_fields s (set_when b u (fields_of s))) (sym e)
