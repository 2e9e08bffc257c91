-- `longitude_in` meets its contract.
use Rattle.expansion_values.proofs.longitude_in.Goals as goal

pub returns : goal.returns
returns c = rw (c.is_one-eleven.ensures, c.is_one-ten.ensures)
