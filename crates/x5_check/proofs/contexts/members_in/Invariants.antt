-- The rows so far, followed by the member rows of the NSSRs that are left, are the member rows of all NSSRs of the
-- context.
use Rattle.std.proofs.Common.{◌≡◌, ◌++◌, map, drop}
use Rattle.std.specs.List.{flat_map}
use Rattle.x5_ops.specs.KnowledgeViews.{nssr_view}
use Rattle.x5_check.specs.Numbers.{member_rows}
use Rattle.x5_check.proofs.contexts.members_in.Given as goal

abbrev pub invariant-loop-nssr : goal.invariant-loop-nssr
invariant-loop-nssr l =
    l.rows.items ++ flat_map member_rows (map nssr_view (drop l.nssr-index l.context.nssr)) ≡ flat_map member_rows (map nssr_view l.context.nssr)
