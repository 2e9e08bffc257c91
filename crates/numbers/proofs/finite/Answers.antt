-- `finite` meets its contract: the pattern is that of +infinity.
use lib.Ieee.{nan_bits, of_bits}
use Rattle.numbers.proofs.Between.{between}
use Rattle.numbers.proofs.finite.Goals as goal

pub float_from_bits-infinity : goal.float_from_bits-infinity
unfolding nan_bits
float_from_bits-infinity c = tt

pub returns : goal.returns
unfolding of_bits
returns c = between _
