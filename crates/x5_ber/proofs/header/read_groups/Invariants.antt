-- What is left to read behind the groups so far gives what all of them give.
use Rattle.std.proofs.Common.{◌≡◌, ◌-◌, ◌^◌, ◌<◌, ◌≤◌, ◌++◌, take, drop}
use Rattle.x5_model_octets.specs.Headers.{groups_at}
use Rattle.x5_ber.proofs.header.read_groups.Given as goal

abbrev pub invariant-loop-group : goal.invariant-loop-group
invariant-loop-group l = record {
  small : l.tag < 2 ^ 31;
  past : l.start ≤ l.place;
  same : groups_at l.tag (drop l.place (take l.end (l.front ++ l.piece))) ≡ groups_at 0 (drop l.start (take l.end (l.front ++ l.piece)));
}

abbrev pub decreases-loop-group : goal.decreases-loop-group
decreases-loop-group l = l.end - l.place
