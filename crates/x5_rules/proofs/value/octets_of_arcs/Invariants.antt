-- The octets so far, and those of the arcs that are left, are all.
use Rattle.std.proofs.Common.{◌≡◌, ◌++◌, drop}
use Rattle.x5_model.specs.Normal as normal
use Rattle.x5_rules.proofs.value.octets_of_arcs.Given as goal

abbrev pub invariant-loop-arc : goal.invariant-loop-arc
invariant-loop-arc l = l.octets.items ++ normal.oid_normal (drop l.arc-index l.arcs) ≡ normal.oid_normal l.arcs
