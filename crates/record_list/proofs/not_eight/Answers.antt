-- `not_eight` meets its contract.
use Prim.Native.Nat.{◌*◌}
use mathlib.Core.Path.{refl, sym, ap}
use mathlib.Core.Bool.{not}
use native.Mathlib.Omega.{arith}
use borrow.Author.Tests.{ne_eqb}
use Rattle.record_list.proofs.not_eight.Goals as goal

pub returns-then-count-gt2305843009213693951 : goal.returns-then-count-gt2305843009213693951
returns-then-count-gt2305843009213693951 c = let h = c.if-count-gt2305843009213693951.true in sym (ap not (ne_eqb c.args.len (8 * c.args.count) (λ e. omega (arith, h, e))))

pub overflow_mul-result : goal.overflow_mul-result
overflow_mul-result c = let h = c.if-count-gt2305843009213693951.false in omega (arith, h)

pub returns : goal.returns
returns c = refl
