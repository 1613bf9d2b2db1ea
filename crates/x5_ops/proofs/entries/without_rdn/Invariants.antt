-- The entry so far, without the pairs left of the old RDN that aren't kept, is the given entry without the old RDN's
-- pairs that aren't kept.
use Rattle.std.proofs.Common.{◌≡◌, drop}
use Rattle.x5_model.specs.Attributes as model
use Rattle.x5_ops.proofs.entries.without_rdn.Given as goal

abbrev pub invariant-loop-pair : goal.invariant-loop-pair
invariant-loop-pair l = model.without_rdn (drop l.pair-index l.pair-items) l.kept l.entry ≡ model.without_rdn l.old l.kept l.fn.entry
