-- The references listed so far, followed by the file order of the subordinate and cross references that are left, are
-- the file order of all references.
use Rattle.std.proofs.Common.{◌≡◌, ◌++◌, map, drop}
use Rattle.x5_model_tree.specs.Consistent.{in_file_order}
use Rattle.x5_ops.specs.KnowledgeViews.{specific_view, cross_view}
use Rattle.x5_check.proofs.agents.in_order.Given as goal

abbrev pub invariant-loop-is_cross : goal.invariant-loop-is_cross
invariant-loop-is_cross l =
    l.list.items ++ in_file_order (drop l.is_cross-index l.crosses) (map specific_view l.below) (map cross_view l.anywhere) ≡ in_file_order l.crosses (map specific_view l.fn.below) (map cross_view l.fn.anywhere)
