-- The first context of the name's key among the agents left is the first among all agents: no agent passed has one.
use Rattle.std.proofs.Common.{◌≡◌, drop}
use Rattle.std.specs.List.{find, flat_map}
use Rattle.x5_model.specs.Keys.{same_key}
use Rattle.x5_model.specs.Values.{key_of}
use Rattle.x5_load.proofs.agreements.first_of_prefix.Given as goal

abbrev pub invariant-loop-agent : goal.invariant-loop-agent
invariant-loop-agent l =
    find (λ c. same_key (key_of c.prefix) (key_of l.name))
    (flat_map (λ a. a.spec.contexts) (drop l.agent-index l.agents))
    ≡ find (λ c. same_key (key_of c.prefix) (key_of l.name)) (flat_map (λ a. a.spec.contexts) l.agents)
