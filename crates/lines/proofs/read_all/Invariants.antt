-- `read_all` is safe: the line begun has at most 512 bytes.
use Prim.Native.Nat.{◌≤◌}
use Rattle.lines.proofs.read_all.Given as goal

abbrev pub invariant-loop : goal.invariant-loop
invariant-loop l = l.p.len ≤ 512
