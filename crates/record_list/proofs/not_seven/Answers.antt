-- `not_seven` meets its contract.
use Prim.Native.Nat.{◌*◌}
use mathlib.Core.Path.{refl, sym, ap}
use mathlib.Core.Bool.{not}
use native.Mathlib.Omega.{arith}
use borrow.Author.Tests.{ne_eqb}
use Rattle.record_list.proofs.not_seven.Goals as goal

pub returns-then-count-gt2635249153387078802 : goal.returns-then-count-gt2635249153387078802
returns-then-count-gt2635249153387078802 c = let h = c.if-count-gt2635249153387078802.true in sym (ap not (ne_eqb c.args.len (7 * c.args.count) (λ e. omega (arith, h, e))))

pub overflow_mul-result : goal.overflow_mul-result
overflow_mul-result c = let h = c.if-count-gt2635249153387078802.false in omega (arith, h)

pub returns : goal.returns
returns c = refl
