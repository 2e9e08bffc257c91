-- The second one-altitude call's lent row: document 02's 'equals demand 2's definition with the nine in their places'.
use Rattle.std.specs.Prelude.{cond, List, ℤ, length, Float}
use Rattle.parameters.specs.declared.Parameters.{Parameters}
use Rattle.refusals.specs.Refusals.{accepted_of}
use Rattle.setting.specs.declared.Input.{Input}
use Rattle.parameter_answer.specs.ParameterAnswer.{answer_with}
use Rattle.atmosphere.specs.Atmosphere.{eleven_with}

-- the eleven numbers where the call is accepted, else the row as it was
unfoldable pub row_with : Parameters → List ℤ → Input → List Float → List Float
row_with c w n xs = cond (accepted_of (answer_with c w n (length xs))) (eleven_with c w n) xs
