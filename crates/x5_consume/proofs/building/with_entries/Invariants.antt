-- So far the entries before are taken.
use Rattle.std.specs.Vec.Iter.{into_iter_items}
use Rattle.x5_consume.proofs.Extending.{SoFar}
use Rattle.x5_consume.proofs.building.with_entries.Given as goal

abbrev pub invariant-loop-named : goal.invariant-loop-named
invariant-loop-named l = SoFar l.fn.held l.fn.entries.items l.filling (into_iter_items l.named-iterator)
