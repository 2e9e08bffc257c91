-- 'Start minus end equals the sum of the losses listed', in the host's call.
use Rattle.std.specs.Prelude.{ℕ, ◌≡◌, List, ℤ, pos, ◌+ℤ◌, length, take, Float, Ok}
use Rattle.descent_orbits.specs.declared.Ending.{Ending}
use Rattle.descent_orbits.specs.Lent.{end_numbers, Ended}
use Rattle.descent_orbits.specs.Theorems.{sum}
use Rattle.descent.specs.Theorems.{ending_told, losses_listed_sum}
use Rattle.host_record.specs.Record.{record_of}
use Rattle.potirehu.specs.Potirehu.{slices_of}
use Rattle.potirehu.specs.Descents.{host_descent, host_losses, host_end}

-- Where an ending is answered, end holds its number, the last altitude and the count, and as many entries from the start of losses add up to start minus
-- that altitude.
pub host_losses_sum : (year doy : ℤ) (f l : List Float) (w : List ℤ) (start : ℤ) (ss xs ys : List ℤ) (e : Ending) (last count : ℕ)
    → host_descent year doy f l w start ss (length xs) (length ys) ≡ Ok (Ended e last count)
    → (host_end year doy f l w start ss (length xs) ys ≡ end_numbers e last count)
    × (start ≡ pos last +ℤ sum (take count (host_losses year doy f l w start ss xs (length ys))))
unfolding host_descent host_losses host_end
host_losses_sum year doy f l w start ss xs ys e last count h =
    let t = ending_told (slices_of 3 f l w (length ys)) _ (Ended e last count) h in
    (rw h, rw t.0 (losses_listed_sum w (record_of year doy f l) start ss xs e last count t.1))
