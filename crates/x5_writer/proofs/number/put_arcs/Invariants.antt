-- The octets of the arcs from a place on stand before those that were there.
use Rattle.std.proofs.Common.{◌≡◌, ◌++◌, ◌≤◌, length, drop}
use Rattle.std.specs.List.{flat_map}
use Rattle.x5_model_octets.specs.Elements.{groups}
use Rattle.x5_writer.proofs.number.put_arcs.Given as goal

abbrev pub invariant-loop-i : goal.invariant-loop-i
invariant-loop-i l = record {
  inside : l.i ≤ length l.arcs;
  put : l.out ≡ flat_map groups (drop l.i l.arcs) ++ l.fn.out;
}

abbrev pub decreases-loop-i : goal.decreases-loop-i
decreases-loop-i l = l.i
