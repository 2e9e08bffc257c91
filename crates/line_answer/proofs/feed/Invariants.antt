-- `feed` meets its contract: the bytes before the current one are taken.
use mathlib.Core.Path.{◌≡◌}
use Prim.Native.Nat.{◌≤◌, ◌+◌, ◌*◌, ◌-◌}
use lib.ListN.{length, take, drop}
use Rattle.line_answer.specs.Lines.{progress_of, fed_of, line_after, KeptBehind, begin}
use Rattle.line_answer.proofs.feed.Given as goal

abbrev pub invariant-loop-b : goal.invariant-loop-b
invariant-loop-b l =
    (l.q.len ≤ 512) × (l.q.used + 193 * (length l.chunk - l.b-index) ≤ length l.initial.out)
    × (fed_of (drop l.b-index l.chunk) (progress_of l.line l.out l.q) ≡ fed_of l.chunk (begin (take l.initial.q.len l.initial.line) l.initial.q.number))
    × (line_after (drop l.b-index l.chunk) l.q.len l.line ≡ line_after l.chunk l.initial.q.len l.initial.line) × KeptBehind l.initial.out l.out l.q.used
