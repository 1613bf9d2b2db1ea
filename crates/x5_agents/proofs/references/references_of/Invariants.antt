-- Those so far, with those among what is left, are all that stand below an entry.
use Rattle.std.proofs.Common.{◌≡◌, ◌++◌, map, drop}
use Rattle.x5_model_run.specs.History.{references_below}
use Rattle.x5_ops.specs.KnowledgeViews.{specific_view}
use Rattle.x5_agents.proofs.references.references_of.Given as goal

abbrev pub invariant-loop-known : goal.invariant-loop-known
invariant-loop-known l =
    map specific_view l.below ++ references_below l.context.entries (map specific_view (drop l.known-index l.specific))
    ≡ references_below l.context.entries (map specific_view l.specific)
