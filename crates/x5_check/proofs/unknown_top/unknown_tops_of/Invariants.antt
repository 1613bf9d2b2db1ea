-- The first breach of condition 8 among the contexts that are left is the agent's first: at top level it knows each pin
-- of one RDN so far.
use Rattle.std.proofs.Common.{◌≡◌, drop}
use Rattle.std.specs.List.{flat_map}
use Rattle.x5_model.specs.Words.{first_of}
use Rattle.x5_model_tree.specs.Masters.{mastered}
use Rattle.x5_model_tree.specs.Consistent.{unknown_top}
use Rattle.x5_check.proofs.unknown_top.unknown_tops_of.Given as goal

abbrev pub invariant-loop-context : goal.invariant-loop-context
invariant-loop-context l =
    first_of (flat_map (unknown_top l.known l.agent.0 l.agent.1) (drop l.context-index l.held)) ≡ first_of (flat_map (unknown_top l.known l.agent.0 l.agent.1) (mastered l.known))
