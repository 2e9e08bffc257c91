-- `pattern` is safe: a NaN has no one pattern, and is answered before.
use Rattle.numbers.specs.Tests.{ordered}
use Rattle.cases_profile.proofs.pattern.Goals as goal

pub float_to_bits-result : goal.float_to_bits-result
float_to_bits-result c = ordered _ c.if-not-x.false-raw
