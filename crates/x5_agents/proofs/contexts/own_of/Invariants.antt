-- Those held so far, with those among what is left whose prefix is new, are all; no two of them have one prefix, and none
-- has noted a change.
use Rattle.std.proofs.Common.{◌≡◌, ◌++◌, [], map, drop}
use Rattle.x5_model_tree.specs.Masters.{held_contexts}
use Rattle.x5_model_held.specs.Beginning.{described_context}
use Rattle.x5_holdings.specs.State.{held_view}
use Rattle.x5_ops.specs.KnowledgeViews.{context_view, specific_view}
use Rattle.x5_agents.specs.Unnoted.{AreUnnoted}
use Rattle.x5_agents.proofs.Apart.{AreApart}
use Rattle.x5_agents.proofs.contexts.own_of.Given as goal

abbrev pub invariant-loop-context : goal.invariant-loop-context
invariant-loop-context l =
    (map held_view l.own.items
    ++ map (described_context (map specific_view l.specific)) (held_contexts l.prefixes.keys (map context_view (drop l.context-index l.contexts)))
    ≡ map (described_context (map specific_view l.specific)) (held_contexts [] (map context_view l.contexts)))
    × (AreApart l.own.items l.prefixes.keys × AreUnnoted l.own.items)
