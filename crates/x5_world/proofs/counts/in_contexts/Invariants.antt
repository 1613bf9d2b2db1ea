-- What is counted is what those so far have.
use Rattle.std.proofs.Common.{◌≡◌, take}
use Rattle.x5_world.specs.Counts.{pairs_of_contexts}
use Rattle.x5_world.proofs.counts.in_contexts.Given as goal

abbrev pub invariant-loop-context : goal.invariant-loop-context
invariant-loop-context l = l.count ≡ pairs_of_contexts (take l.context-index l.contexts)
