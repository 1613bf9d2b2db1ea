-- A name and the mark of a copy, and nothing else, are the agent.
use Rattle.std.proofs.Common.{◌-◌, ℕ, List, length, drop, refl, subst}
use Rattle.x5_model_messages.specs.Shadows.{agent_node}
use Rattle.x5_model_typed.specs.Named as named
use Rattle.x5_types.specs.FormView.{world}
use Rattle.x5_direct.proofs.Heads.{rest_here}
use Rattle.x5_direct.proofs.Here.{spelled_taken_here}
use Rattle.x5_dispber.specs.Direct.{IsMark}
use Rattle.x5_dispber.specs.ShadowViews.{agent_name}
use Rattle.x5_dispber.proofs.DirectParts.{agent_spelled}
use Rattle.x5_dispber.proofs.direct_references.agent_at.Goals as goal

pub returns-clause-reads : goal.returns-clause-reads
returns-clause-reads c =
    let w = world c.args.start.now c.args.names.now in
    let octets = c.args.octets.now in
    let content = c.in_ok-content.content.now in
    let rest = c.in_ok-content.rest.now in
    let name = agent_name c.args.names.now c.in_ok-agent.agent in
    let mark : IsMark c.args.copy (drop c.in_ok-agent.size content) =
    subst (λ (l : List ℕ). IsMark c.args.copy l) (rest_here content c.in_ok-agent.size)
    (c.is_mark.ensures c.if-not-is_mark.false) in
    spelled_taken_here w 1 named.WorldAgent (agent_node c.args.copy name) octets rest (length octets - length rest) refl
    (agent_spelled w c.args.copy name content (drop c.in_ok-agent.size content) octets rest
    c.in_ok-content.ensures.opens
    c.in_ok-agent.ensures.says mark)
