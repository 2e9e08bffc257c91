-- `pattern` meets its contract: a NaN has no one pattern in the kit, and is answered before.
use Rattle.line_text.proofs.Laws.{a_nan, ordered, its_bits}
use Rattle.line_text.proofs.pattern.Goals as goal

pub returns-then-x : goal.returns-then-x
returns-then-x c = a_nan _ c.if-x.true

pub float_to_bits-result : goal.float_to_bits-result
float_to_bits-result c = rw (ordered _ c.if-x.false) tt

pub returns : goal.returns
returns c = its_bits _ c.if-x.false
