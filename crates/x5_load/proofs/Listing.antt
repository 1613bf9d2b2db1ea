-- Agents and their names, by the code's list.
use Rattle.std.proofs.Common.{◌≡◌, ◌||◌, ℕ, List, [], ◌∷◌, ◌++◌, map, refl, ap}
use Rattle.std.specs.List.{list_any}
use Rattle.x5_model.specs.Words.{same_octets}
use Rattle.x5_know.specs.Names.{has_name}
use Rattle.x5_know.specs.WorldView.{described_agent_view}
use Rattle.x5_know.specs.declared.described.DescribedAgent.{DescribedAgent}

pub agent_there : (name : List ℕ) (agents : List DescribedAgent)
    → has_name (map (λ a. a.name) (map described_agent_view agents)) name
    ≡ list_any (λ a. same_octets name a.spec.name) agents
agent_there name [] = refl
agent_there name (a ∷ agents) = ap (λ b. same_octets name a.spec.name || b) (agent_there name agents)

pub agent_more : (agents : List DescribedAgent) (a : DescribedAgent)
    → map described_agent_view (agents ++ a ∷ []) ≡ map described_agent_view agents ++ described_agent_view a ∷ []
agent_more [] a = refl
agent_more (b ∷ agents) a = ap (λ l. described_agent_view b ∷ l) (agent_more agents a)
