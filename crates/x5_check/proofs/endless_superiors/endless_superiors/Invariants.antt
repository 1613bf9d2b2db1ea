-- The first breach of condition 9 among the agents that are left is the world's first: the superiors of each agent so
-- far end within the hops.
use Rattle.std.proofs.Common.{◌≡◌, drop}
use Rattle.std.specs.List.{flat_map}
use Rattle.x5_model.specs.Words.{first_of}
use Rattle.x5_model_tree.specs.Consistent.{breaches_9}
use Rattle.x5_check.specs.Parts.{endless_part}
use Rattle.x5_check.proofs.endless_superiors.endless_superiors.Given as goal

abbrev pub invariant-loop-agent : goal.invariant-loop-agent
invariant-loop-agent l =
    first_of (flat_map (endless_part l.known) (drop l.agent-index l.agents)) ≡ first_of (breaches_9 l.known)
