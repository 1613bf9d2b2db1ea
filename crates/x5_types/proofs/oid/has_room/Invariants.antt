-- What the room that is left is enough for.
use Rattle.std.proofs.Common.{◌≡◌, nat_le, map, sum, drop}
use Rattle.x5_model.specs.Normal as normal
use Rattle.x5_types.proofs.oid.has_room.Given as goal

abbrev pub invariant-loop-arc : goal.invariant-loop-arc
invariant-loop-arc l = nat_le (sum (map normal.subidentifier_len (drop l.arc-index l.arcs))) l.room
    ≡ nat_le (sum (map normal.subidentifier_len l.arcs)) l.fn.room
