-- The rows so far, with one row of the NSSR's key for each of its agents that is left, are the rows at entry followed
-- by all member rows of the NSSR.
use Rattle.std.proofs.Common.{◌≡◌, ◌++◌, map, drop}
use Rattle.x5_model.specs.Values.{key_of}
use Rattle.x5_ops.specs.KnowledgeViews.{nssr_view}
use Rattle.x5_check.specs.Numbers.{member_rows}
use Rattle.x5_check.proofs.contexts.with_members.Given as goal

abbrev pub invariant-loop-agent : goal.invariant-loop-agent
invariant-loop-agent l =
    l.rows.items ++ map (λ a. (key_of l.nssr.at, a)) (drop l.agent-index l.nssr.agents) ≡ l.fn.rows.items ++ member_rows (nssr_view l.nssr)
