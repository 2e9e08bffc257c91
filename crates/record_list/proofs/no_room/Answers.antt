-- `no_room` meets its contract.
use Prim.Native.Nat.{◌*◌}
use mathlib.Core.Path.{refl, sym}
use native.Mathlib.Omega.{arith}
use borrow.Author.Tests.{lt-ltb}
use Rattle.record_list.proofs.no_room.Goals as goal

pub returns-then-count-gt1676976733973595601 : goal.returns-then-count-gt1676976733973595601
returns-then-count-gt1676976733973595601 c = let h = c.if-count-gt1676976733973595601.true in sym (lt-ltb c.args.len (11 * c.args.count) (omega (arith, h)))

pub overflow_mul-result : goal.overflow_mul-result
overflow_mul-result c = let h = c.if-count-gt1676976733973595601.false in omega (arith, h)

pub returns : goal.returns
returns c = refl
