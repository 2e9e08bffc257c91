-- `circular_functions::sinusoid` meets its contract. Assumes nothing.
use mathlib.Core.Path.{sym, subst, ◌∙◌}
use Prim.Native.Nat.{ℕ, ◌^◌, ◌≤◌}
use Rattle.fixed_point.proofs.Choice.{apart_lem}
use Rattle.circular_functions.proofs.TrigCases.{rest_one}
use Rattle.circular_functions.proofs.sinusoid.Goals as goal

pub part-requires : goal.part-requires
part-requires c = subst (λ (r : ℕ). r ≤ 2 ^ 58) (sym (c.abs_diff.ensures ∙ apart_lem c.args.t (2 ^ 58))) (rest_one c.args.t c.requires.1)

pub returns : goal.returns
returns c = cc (c.abs_diff.ensures ∙ apart_lem c.args.t (2 ^ 58))
