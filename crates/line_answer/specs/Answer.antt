-- The answer to a line of the line program, as bytes; a line is given without its newline.
use Rattle.std.specs.Prelude.{ℕ, cond, List, Float, Err, Ok}
use Rattle.refusals.specs.Refusals.{Answer, number_of}
use Rattle.mixing.specs.Mixing.{ccor_of, dnet_of}
use Rattle.atmosphere.specs.Atmosphere.{eleven_of, answer_of}
use Rattle.line_form.specs.declared.Reading.{Reading}
use Rattle.line_form.specs.declared.Run.{Run}
use Rattle.line_form.specs.Grammar.{dnet_form_of, ccor_form_of, run_form_of, thousandths_at, switches_of, input_of}
use Rattle.line_text.specs.Text.{value_text, row_text, refused_text}

-- dnet of a form's numbers
unfoldable pub dnet_value : Reading → Float
dnet_value r = dnet_of (thousandths_at r 0) (thousandths_at r 1) (thousandths_at r 2) (thousandths_at r 3) (thousandths_at r 4)

-- ccor of a form's numbers
unfoldable pub ccor_value : Reading → Float
ccor_value r = ccor_of (thousandths_at r 0) (thousandths_at r 1) (thousandths_at r 2) (thousandths_at r 3)

-- the row where the record is accepted, else the refusal
abbrev pub outcome_text : Answer → List Float → List ℕ
outcome_text (Ok v) row = row_text row
outcome_text (Err r) row = refused_text (number_of r.reason) r.place

-- the one-altitude call with the record and the switches of a run form, into a row of 11
unfoldable pub run_answer : Run → List ℕ
run_answer f = outcome_text (answer_of (switches_of f.reading) (input_of f) 11) (eleven_of (switches_of f.reading) (input_of f))

-- the answer to the line s with a number; 7 where it is none of the forms
unfoldable pub answer_text : List ℕ → ℕ → List ℕ
answer_text s number =
    cond (dnet_form_of s).ok (value_text (dnet_value (dnet_form_of s)))
    (cond (ccor_form_of s).ok (value_text (ccor_value (ccor_form_of s)))
    (cond (run_form_of s).reading.ok (run_answer (run_form_of s))
    (refused_text 7 number)))
