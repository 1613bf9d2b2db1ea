-- The first breach of condition 7 among the NSSRs that are left is the context's first: no NSSR so far has a false
-- member.
use Rattle.std.proofs.Common.{◌≡◌, drop}
use Rattle.std.specs.List.{flat_map}
use Rattle.x5_model.specs.Words.{first_of}
use Rattle.x5_model_tree.specs.Consistent.{false_members}
use Rattle.x5_ops.specs.KnowledgeViews.{nssr_view}
use Rattle.x5_check.proofs.false_member.false_members_in.Given as goal

abbrev pub invariant-loop-nssr : goal.invariant-loop-nssr
invariant-loop-nssr l =
    first_of (flat_map (λ n. false_members l.known l.context (nssr_view n)) (drop l.nssr-index l.nssrs)) ≡ first_of (flat_map (false_members l.known l.context) l.context.context.nssrs)
