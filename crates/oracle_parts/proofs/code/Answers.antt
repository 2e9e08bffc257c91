-- `code` meets its contract.
use Rattle.oracle_parts.specs.OracleParts.{outcome_code}
use Rattle.oracle_parts.proofs.code.Goals as goal

pub returns-in-NodeCount : goal.returns-in-NodeCount
unfolding outcome_code
returns-in-NodeCount c = rw c.in-NodeCount.is c.packed.ensures

pub returns-in-SliceLength : goal.returns-in-SliceLength
unfolding outcome_code
returns-in-SliceLength c = rw c.in-SliceLength.is c.packed-in-SliceLength.ensures
