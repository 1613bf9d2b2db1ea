-- The copies of one agreement are too many, and the count only grows.
use Rattle.std.proofs.Common.{◌<◌, ◌+◌, length, map, arith, sym}
use Rattle.std.specs.List.{flat_map}
use Rattle.x5_know.specs.WorldView.{described_agent_view}
use Rattle.x5_load.proofs.Copied.{too_many}
use Rattle.x5_model_tree.specs.World.{Agent}
use Rattle.x5_load.proofs.agreements.copies_fit.Goals as goal

pub returns-then-count-total : goal.returns-then-count-total
returns-then-count-total c =
    let contexts = flat_map (λ (a : Agent). a.contexts) (map described_agent_view c.args.agents.now) in
    let lt : c.loop-agreement.agreement-index < length c.args.agreements.now = omega arith in
    let more : 400_000 < c.loop-agreement.total + c.copies-count.result = omega arith in
    sym (too_many contexts c.args.agreements.now c.loop-agreement.agreement-index c.agreement-item.result
    c.loop-agreement.total
    c.copies-count.result _ lt c.agreement-item.is c.copies-count.ensures more c.loop-agreement.invariant.0)
