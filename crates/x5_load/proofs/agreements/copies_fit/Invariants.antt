-- The entries counted so far, with the copies of the agreements left, are those with all copies, and so far they are
-- within the limit.
use Rattle.std.proofs.Common.{◌≡◌, ◌≤◌, drop, map}
use Rattle.std.specs.List.{flat_map}
use Rattle.x5_know.specs.WorldView.{described_agent_view}
use Rattle.x5_model_world.specs.WorldFile as model
use Rattle.x5_load.proofs.agreements.copies_fit.Given as goal

abbrev pub invariant-loop-agreement : goal.invariant-loop-agreement
invariant-loop-agreement l =
    (model.with_copies (flat_map (λ a. a.contexts) (map described_agent_view l.agents))
    l.total (drop l.agreement-index l.agreements)
    ≡ model.with_copies (flat_map (λ a. a.contexts) (map described_agent_view l.agents)) l.entries l.agreements)
    × (l.total ≤ 400_000)
