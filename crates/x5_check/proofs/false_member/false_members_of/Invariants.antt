-- The first breach of condition 7 among the NSSR's agents from the place on, with the earlier ones counted as seen, is
-- the NSSR's first: each earlier one is fit and stands there once.
use Rattle.std.proofs.Common.{◌≡◌, ◌==◌, ◌&&◌, not, drop}
use Rattle.x5_model.specs.Words.{first_of, unfit}
use Rattle.x5_model.specs.Values.{key_of}
use Rattle.x5_model_tree.specs.Consistent.{breach, NamePrinted, AgentPrinted}
use Rattle.x5_model_tree.specs.Consistent.{masters_below, name_of_nssr, false_members}
use Rattle.x5_ops.specs.KnowledgeViews.{nssr_view}
use Rattle.x5_check.specs.Parts.{seen}
use Rattle.x5_check.proofs.false_member.false_members_of.Given as goal

abbrev pub invariant-loop-place : goal.invariant-loop-place
invariant-loop-place l =
    first_of (unfit ◌==◌ (λ a. a) (λ a. not (a == l.context.master) && masters_below l.known a (key_of l.nssr.at)) (λ a. breach 7 (NamePrinted (name_of_nssr l.context.context (nssr_view l.nssr))) (AgentPrinted a)) (seen (λ a. a) l.agents l.place) (drop l.place l.agents)) ≡ first_of (false_members l.known l.context (nssr_view l.nssr))
