-- What the described knowledge of agents stands for. To which context a reference belongs is no part of the
-- definitions' references: there it stands with its context. An agent of the code has its subordinate references before
-- its cross references, as a file has them whose list stands so.
use Rattle.std.specs.Prelude.{true, false, ◌++◌, map}
use Rattle.x5_model_tree.specs.World as model
use Rattle.x5_ops.specs.declared.knowledge.Specific.{Specific}
use Rattle.x5_ops.specs.declared.knowledge.Cross.{Cross}
use Rattle.x5_ops.specs.declared.knowledge.Nssr.{Nssr}
use Rattle.x5_ops.specs.declared.knowledge.ContextSpec.{ContextSpec}
use Rattle.x5_ops.specs.declared.knowledge.AgentSpec.{AgentSpec}

abbrev pub specific_view : Specific → model.Specific
specific_view s = record { pin = s.pin; access = s.access }

abbrev pub cross_view : Cross → model.Specific
cross_view c = record { pin = c.pin; access = c.access }

abbrev pub nssr_view : Nssr → model.Nssr
nssr_view n = record { at = n.at; agents = n.agents }

abbrev pub context_view : ContextSpec → model.Context
context_view c = record { prefix = c.prefix; entries = c.entries; nssrs = map nssr_view c.nssr }

abbrev pub agent_view : AgentSpec → model.Agent
agent_view a = record {
  name = a.name;
  superior = a.superior;
  contexts = map context_view a.contexts;
  subordinate = map specific_view a.specific;
  cross = map cross_view a.cross;
  crosses = map (λ k. false) a.specific ++ map (λ k. true) a.cross;
}
