-- The contexts of all agents.
use Rattle.std.proofs.Common.{◌≡◌, ℕ, ◌+◌, ◌<◌, List, ◌++◌, map, drop, length, get_or, sym, ap, ◌∙◌, append_assoc}
use Rattle.x5_model_tree.specs.Masters.{Mastered}
use Rattle.x5_ops.specs.KnowledgeViews.{context_view}
use Rattle.x5_know.specs.WorldView.{described_agent_view}
use Rattle.x5_know.specs.declared.described.DescribedAgent.{DescribedAgent}
use Rattle.x5_check.specs.Numbers.{of_agent, of_agents}
use Rattle.x5_check.proofs.Steps.{drop_at}

-- those of one agent more
pub more_held : (agents : List DescribedAgent) (i : ℕ) (a : DescribedAgent) (found new whole : List Mastered) → i < length agents → a ≡ get_or agents i a → new ≡ found ++ of_agent i (map context_view a.spec.contexts) → found ++ of_agents i (map described_agent_view (drop i agents)) ≡ whole → new ++ of_agents (i + 1) (map described_agent_view (drop (i + 1) agents)) ≡ whole
more_held agents i a found new whole lt is e h =
    let rest : List Mastered = of_agents (i + 1) (map described_agent_view (drop (i + 1) agents)) in
    ap (λ (l : List Mastered). l ++ rest) e
    ∙ append_assoc found (of_agent i (map context_view a.spec.contexts)) rest
    ∙ ap (λ (l : List Mastered). found ++ l) (sym (ap (λ (l : List DescribedAgent). of_agents i (map described_agent_view l)) (drop_at agents i a lt is)))
    ∙ h
