-- The world that is described.
use Rattle.std.specs.Prelude.{map}
use Rattle.x5_model_tree.specs.World.{Agent, World}
use Rattle.x5_ops.specs.KnowledgeViews.{context_view, specific_view, cross_view}
use Rattle.x5_know.specs.declared.described.DescribedAgent.{DescribedAgent}
use Rattle.x5_know.specs.declared.described.Described.{Described}

-- an agent, with the order of its references
abbrev pub described_agent_view : DescribedAgent → Agent
described_agent_view a = record {
  name = a.spec.name;
  superior = a.spec.superior;
  contexts = map context_view a.spec.contexts;
  subordinate = map specific_view a.spec.specific;
  cross = map cross_view a.spec.cross;
  crosses = a.crosses;
}

abbrev pub world_view : Described → World
world_view d = record { agents = map described_agent_view d.agents; agreements = d.agreements; network = d.network }
