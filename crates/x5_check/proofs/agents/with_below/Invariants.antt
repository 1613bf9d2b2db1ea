-- The list so far, followed by the subordinate references that are left, is the list at entry followed by all
-- subordinate references.
use Rattle.std.proofs.Common.{◌≡◌, ◌++◌, map, drop}
use Rattle.x5_model_tree.specs.Consistent.{ToBelow}
use Rattle.x5_ops.specs.KnowledgeViews.{specific_view}
use Rattle.x5_check.proofs.agents.with_below.Given as goal

abbrev pub invariant-loop-reference : goal.invariant-loop-reference
invariant-loop-reference l =
    l.list.items ++ map ToBelow (map specific_view (drop l.reference-index l.references)) ≡ l.fn.list.items ++ map ToBelow (map specific_view l.references)
