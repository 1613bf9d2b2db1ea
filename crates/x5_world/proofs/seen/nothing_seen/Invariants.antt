-- So far there is one for each agreement before.
use Rattle.std.proofs.Common.{◌≡◌, ◌≤◌, length}
use Rattle.x5_world.proofs.seen.nothing_seen.Given as goal

abbrev pub invariant-loop : goal.invariant-loop
invariant-loop l = (length l.seen.items ≡ l.index) × (l.index ≤ length l.agreements)
