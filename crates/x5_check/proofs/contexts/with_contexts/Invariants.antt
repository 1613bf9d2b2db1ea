-- The contexts so far, followed by the agent's contexts that are left, are those at entry followed by all contexts of
-- the agent.
use Rattle.std.proofs.Common.{◌≡◌, ◌++◌, map, drop}
use Rattle.x5_ops.specs.KnowledgeViews.{context_view}
use Rattle.x5_check.specs.Numbers.{of_agent}
use Rattle.x5_check.proofs.contexts.with_contexts.Given as goal

abbrev pub invariant-loop-context : goal.invariant-loop-context
invariant-loop-context l =
    l.held.items ++ of_agent l.master (map context_view (drop l.context-index l.contexts)) ≡ l.fn.held.items ++ of_agent l.master (map context_view l.contexts)
