-- The first breach of condition 8 among the agents that are left is the world's first: no first-level agent so far
-- lacks a pin of one RDN.
use Rattle.std.proofs.Common.{◌≡◌, drop}
use Rattle.std.specs.List.{flat_map}
use Rattle.x5_model.specs.Words.{first_of}
use Rattle.x5_model_tree.specs.Masters.{mastered}
use Rattle.x5_model_tree.specs.Consistent.{unknown_top, breaches_8}
use Rattle.x5_check.proofs.unknown_top.unknown_top.Given as goal

abbrev pub invariant-loop-agent : goal.invariant-loop-agent
invariant-loop-agent l =
    first_of (flat_map (λ a. flat_map (unknown_top l.known a.0 a.1) (mastered l.known)) (drop l.agent-index l.agents)) ≡ first_of (breaches_8 l.known)
