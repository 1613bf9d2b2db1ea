-- Those so far, with those among what is left, are all of one RDN.
use Rattle.std.proofs.Common.{◌≡◌, ◌==◌, ◌++◌, length, map, drop}
use Rattle.std.specs.List.{filter}
use Rattle.x5_ops.specs.KnowledgeViews.{specific_view}
use Rattle.x5_agents.proofs.references.first_level.Given as goal

abbrev pub invariant-loop-known : goal.invariant-loop-known
invariant-loop-known l =
    map specific_view l.root ++ filter (λ k. length k.pin == 1) (map specific_view (drop l.known-index l.specific))
    ≡ filter (λ k. length k.pin == 1) (map specific_view l.specific)
