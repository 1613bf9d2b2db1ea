-- A name and its agents, and nothing else, are the reference.
use Rattle.std.proofs.Common.{◌-◌, ℕ, List, length, drop, map, refl, sym, subst, ◌∙◌}
use Rattle.x5_model_messages.specs.Shadows.{non_specific_in}
use Rattle.x5_model_typed.specs.Named as named
use Rattle.x5_types.specs.FormView.{world}
use Rattle.x5_direct.specs.Spelled.{Opens}
use Rattle.x5_direct.proofs.Heads.{nothing, rest_here}
use Rattle.x5_direct.proofs.Here.{taken_here}
use Rattle.x5_dispber.specs.ShadowViews.{agent_name}
use Rattle.x5_dispber.proofs.DirectParts.{other_read}
use Rattle.x5_dispber.proofs.direct_references.other_at.Goals as goal

pub returns-clause-reads : goal.returns-clause-reads
returns-clause-reads c =
    let names = c.args.names.now in
    let w = world c.args.start.now names in
    let octets = c.args.octets.now in
    let content = c.in_ok-content.content.now in
    let rest = c.in_ok-content.rest.now in
    let members = c.in_ok-members.members.now in
    let end = c.in_ok-members.end.now in
    let name = c.in_ok-at.at in
    let behind = drop c.in_ok-at.size content in
    let inner : Opens 48 members behind end =
    subst (λ (l : List ℕ). Opens 48 members l end) (rest_here content c.in_ok-at.size) c.in_ok-members.ensures.opens in
    taken_here w 4 named.NonSpecific non_specific_in (record {
      at = name;
      agents = map (agent_name names) c.in_ok-agents.agents;
    }) octets rest (length octets - length rest) refl
    (other_read w name (map (agent_name names) c.in_ok-agents.agents) content behind members end octets rest
    c.in_ok-content.ensures.opens
    c.in_ok-at.ensures.reads inner (nothing end (sym c.is_empty.ensures ∙ c.if-not-is_empty.false))
    c.in_ok-agents.ensures)
