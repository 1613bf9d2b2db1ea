-- What says how many messages a request may take, counted in what a file describes.
use Rattle.std.specs.Prelude.{ℕ, List, length, sum_by}
use Rattle.x5_know.specs.declared.described.DescribedAgent.{DescribedAgent}
use Rattle.x5_ops.specs.declared.knowledge.ContextSpec.{ContextSpec}
use Rattle.x5_ops.specs.declared.knowledge.Nssr.{Nssr}

-- the contexts that the agents master
abbrev pub contexts_of : List DescribedAgent → ℕ
contexts_of agents = sum_by (λ a. length a.spec.contexts) agents

-- the agents of their NSSRs, one for each place
abbrev pub pairs_of_nssrs : List Nssr → ℕ
pairs_of_nssrs nssrs = sum_by (λ n. length n.agents) nssrs

abbrev pub pairs_of_contexts : List ContextSpec → ℕ
pairs_of_contexts contexts = sum_by (λ c. pairs_of_nssrs c.nssr) contexts

abbrev pub pairs_of_agents : List DescribedAgent → ℕ
pairs_of_agents agents = sum_by (λ a. pairs_of_contexts a.spec.contexts) agents
