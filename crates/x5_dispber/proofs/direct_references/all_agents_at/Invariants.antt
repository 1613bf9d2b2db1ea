-- What was read makes, with what is left, agents; and the octets that are left are fewer.
use Rattle.std.proofs.Common.{length}
use Rattle.x5_model_typed.specs.Named as named
use Rattle.x5_types.specs.FormView.{world}
use Rattle.x5_direct.proofs.Here.{GoesHere}
use Rattle.x5_dispber.proofs.DirectParts.{agent_nodes}
use Rattle.x5_dispber.proofs.direct_references.all_agents_at.Given as goal

abbrev pub invariant-loop-left : goal.invariant-loop-left
invariant-loop-left l =
    GoesHere (world l.start l.names) 1 named.WorldAgent (λ n. n) l.octets
    (agent_nodes l.names l.copy l.agents.items) l.left

abbrev pub decreases-loop-left : goal.decreases-loop-left
decreases-loop-left l = length l.left
