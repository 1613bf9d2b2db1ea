-- The agents so far are those that the texts before the place reached name, in their order.
use Rattle.std.proofs.Common.{◌≡◌, take, map}
use Rattle.x5_model_world.specs.ContextText.{agent_of}
use Rattle.x5_load.proofs.network.agents_of.Given as goal

abbrev pub invariant-loop-text : goal.invariant-loop-text
invariant-loop-text l = l.agents ≡ map (agent_of l.names) (map (λ t. t.now) (take l.text-index l.texts))
