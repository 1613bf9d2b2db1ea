-- One of all is that one where one of those that are left is.
use Rattle.std.proofs.Common.{◌≡◌, drop}
use Rattle.x5_model.specs.Words.{has, same_octets}
use Rattle.x5_rules.proofs.entry.is_among.Given as goal

abbrev pub invariant-loop-other : goal.invariant-loop-other
invariant-loop-other l = has same_octets (drop l.other-index l.normals) l.normal ≡ has same_octets l.normals l.normal
