-- `circular_functions::quarter` meets its contract. Assumes nothing.
use mathlib.Core.Path.{sym}
use Rattle.circular_functions.proofs.TrigCases.{quarter_low_even, quarter_low_odd, quarter_high}
use Rattle.circular_functions.proofs.quarter.Goals as goal

pub returns-then-n-eq0 : goal.returns-then-n-eq0
returns-then-n-eq0 c =
    sym (quarter_low_even c.args.n c.args.t c.if-t-lt288230376151711744.true c.if-n-eq0.true)

pub returns-else-n-eq0 : goal.returns-else-n-eq0
returns-else-n-eq0 c =
    sym (quarter_low_odd c.args.n c.args.t c.if-t-lt288230376151711744.true c.if-n-eq0.false)

pub returns-else-t-lt288230376151711744 : goal.returns-else-t-lt288230376151711744
returns-else-t-lt288230376151711744 c = sym (quarter_high c.args.n c.args.t c.if-t-lt288230376151711744.false)
