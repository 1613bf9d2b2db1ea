-- While the normal form of an object identifier is made: the octets so far, then the normal form of the arcs that are
-- left, are the normal form of all arcs.
use Rattle.std.proofs.Common.{◌≡◌, ◌++◌, drop}
use Rattle.x5_model.specs.Normal as model
use Rattle.x5_syntax.proofs.normalise.arc_octets.Given as goal

abbrev pub invariant-loop-arc : goal.invariant-loop-arc
invariant-loop-arc l = l.octets.items ++ model.oid_normal (drop l.arc-index l.arcs) ≡ model.oid_normal l.arcs
