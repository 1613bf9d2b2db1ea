-- Nothing is gone back to.
use Rattle.std.proofs.Common.{◌≤◌, ◌-◌, length}
use Rattle.x5_direct.proofs.seen.behind.Given as goal

abbrev pub invariant-loop-place : goal.invariant-loop-place
invariant-loop-place l = l.next ≤ l.place

abbrev pub decreases-loop-place : goal.decreases-loop-place
decreases-loop-place l = length l.known - l.place
