-- `sec_shut` meets its contract.
use Rattle.counts.proofs.sec_shut.Goals as goal

pub returns : goal.returns
returns c =
    rw (c.is_one-thirteen.ensures, c.is_one-twelve.ensures, c.is_one-ten.ensures)
