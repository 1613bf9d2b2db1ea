-- The entry so far, with the RDN's pairs that are left where it lacks them, is the given entry with all of them.
use Rattle.std.proofs.Common.{◌≡◌, drop}
use Rattle.x5_model.specs.Attributes as model
use Rattle.x5_ops.proofs.entries.with_rdn.Given as goal

abbrev pub invariant-loop-pair : goal.invariant-loop-pair
invariant-loop-pair l = model.with_rdn (drop l.pair-index l.pair-items) l.entry ≡ model.with_rdn l.rdn l.fn.entry
