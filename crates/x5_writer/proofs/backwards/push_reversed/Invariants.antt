-- The octets from a place on stand behind those that were there, the last of them first, and there is room for the others.
use Rattle.std.proofs.Common.{◌≡◌, ◌+◌, ◌++◌, ◌≤◌, length, drop, reverse}
use Rattle.std.specs.Vec.{vec_len, vec_capacity}
use Rattle.x5_writer.proofs.backwards.push_reversed.Given as goal

abbrev pub invariant-loop-i : goal.invariant-loop-i
invariant-loop-i l = record {
  inside : l.i ≤ length l.octets;
  room : vec_len l.row + l.i ≤ vec_capacity l.row;
  put : l.row.items ≡ l.fn.row.items ++ reverse (drop l.i l.octets);
}

abbrev pub decreases-loop-i : goal.decreases-loop-i
decreases-loop-i l = l.i
