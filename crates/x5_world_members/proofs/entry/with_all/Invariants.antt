-- The entry so far, with the values that the iterator has left, is the entry at the start with all values, or neither
-- may have them.
use Rattle.std.proofs.Common.{◌≡◌}
use Rattle.std.specs.Vec.Iter.{into_iter_items}
use Rattle.x5_model_world.specs.EntryTexts as model
use Rattle.x5_world_members.proofs.entry.with_all.Given as goal

abbrev pub invariant-loop-one : goal.invariant-loop-one
invariant-loop-one l = model.with_all l.entry (into_iter_items l.one-iterator) ≡ model.with_all l.fn.entry l.fn.given.items
