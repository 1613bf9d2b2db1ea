-- The list so far, followed by the cross references that are left, is the one at entry followed by all cross
-- references.
use Rattle.std.proofs.Common.{◌≡◌, ◌++◌, map, drop}
use Rattle.x5_model_tree.specs.Consistent.{ToAnywhere}
use Rattle.x5_ops.specs.KnowledgeViews.{cross_view}
use Rattle.x5_check.proofs.agents.with_anywhere.Given as goal

abbrev pub invariant-loop-reference : goal.invariant-loop-reference
invariant-loop-reference l =
    l.list.items ++ map ToAnywhere (map cross_view (drop l.reference-index l.references)) ≡ l.fn.list.items ++ map ToAnywhere (map cross_view l.references)
