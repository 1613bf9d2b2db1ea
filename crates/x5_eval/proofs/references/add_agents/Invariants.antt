-- Those added so far, with what is left to add, are all.
use Rattle.std.proofs.Common.{[], ◌∷◌, ◌++◌, drop, length, map}
use Rattle.std.specs.List.{flat_map}
use Rattle.x5_ops.specs.ReferenceViews.{reference_view}
use Rattle.x5_eval.specs.Rest.{wide_by}
use Rattle.x5_eval.proofs.Adding.{Adds}
use Rattle.x5_eval.proofs.references.add_agents.Given as goal

abbrev pub invariant-loop-agent : goal.invariant-loop-agent
invariant-loop-agent l =
    Adds (length l.names) (λ a. wide_by l.name l.exclusions l.me (a ∷ []))
    (map (reference_view l.names) l.initial.found ++ flat_map (λ a. wide_by l.name l.exclusions l.me (a ∷ [])) l.agents)
    (map (reference_view l.names) l.found) (drop l.agent-index l.agents)
