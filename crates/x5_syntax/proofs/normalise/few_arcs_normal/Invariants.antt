-- While the octets of few arcs are placed: those placed so far, then the octets of the arcs that are left, are the
-- octets of all arcs.
use Rattle.std.proofs.Common.{◌≡◌, ◌*◌, ◌++◌, drop, take}
use Rattle.x5_model.specs.Normal as model
use Rattle.x5_syntax.proofs.normalise.few_arcs_normal.Given as goal

abbrev pub invariant-loop-i : goal.invariant-loop-i
invariant-loop-i l = take (4 * l.i) l.octets ++ model.oid_normal (drop l.i l.arcs) ≡ model.oid_normal l.arcs
